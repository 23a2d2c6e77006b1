use Rattle.std.proofs.Common.{◌≡◌, ◌++◌, drop}
use Rattle.rx_utf8.specs.Blocks.{rows_of}
use Rattle.rx_utf8.specs.Subsets.{entries_from, is_place}
use Rattle.rx_utf8.proofs.entries.entries_into.Given as goal

-- the remaining rows complete the entries
abbrev pub invariant-loop-source : goal.invariant-loop-source
invariant-loop-source l = l.entries.items ++ entries_from (is_place l.end l.states) l.source (drop l.source (rows_of l.rows))
    ≡ entries_from (is_place l.end l.states) 0 (rows_of l.rows)
