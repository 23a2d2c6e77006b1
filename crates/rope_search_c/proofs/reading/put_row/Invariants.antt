-- The matches so far are after those that were at the start.
use Rattle.std.proofs.Common.{◌≡◌, ◌+◌, ◌++◌, List, length, take, map}
use Rattle.rope_search_c.specs.Reading.{span_in, with_front}
use Rattle.rope_search_c.specs.declared.matches.Span.{Span}
use Rattle.rope_search_c.proofs.reading.put_row.Given as goal

abbrev pub invariant-loop-columns : goal.invariant-loop-columns
invariant-loop-columns l =
    (l.next ≡ l.at + l.columns-index)
    × ((done first : List Span) → l.fn.out ≡ with_front done first → l.at ≡ length done
    → l.out ≡ with_front (done ++ map (span_in l.line) (take l.columns-index l.row)) first)
