-- The chunks so far are at the start.
use Rattle.ropey.specs.Slices.{slice_text}
use Rattle.rope_search_c.proofs.TextLemmas.{HasPut}
use Rattle.rope_search_c.proofs.reading.put_text.Given as goal

abbrev pub invariant-loop-chunk : goal.invariant-loop-chunk
invariant-loop-chunk l = HasPut (slice_text l.fn.slice) l.chunk-iterator.ahead l.fn.out l.out l.at
