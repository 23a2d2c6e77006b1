-- The matches so far were appended to the buffered bytes.
use Rattle.std.proofs.Common.{take, flat_map}
use Rattle.rope_search_io.specs.WriteBuffer.{Puts}
use Rattle.rope_search.specs.Shows.{shown_match}
use Rattle.rope_search.proofs.listings.put_row.Given as goal

abbrev pub invariant-loop-span : goal.invariant-loop-span
invariant-loop-span g l =
    Puts l.fn.write_buffer l.write_buffer (g.W.Sink.state l.fn.sink) (g.W.Sink.state l.sink) (flat_map (shown_match l.line) (take l.span-index l.matches))
