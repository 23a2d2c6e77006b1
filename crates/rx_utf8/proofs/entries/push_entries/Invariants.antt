use Rattle.std.proofs.Common.{◌≡◌, ◌++◌, drop}
use Rattle.rx_utf8.specs.Subsets.{entries_of, is_place}
use Rattle.rx_utf8.proofs.entries.push_entries.Given as goal

-- the remaining ranges complete the entries
abbrev pub invariant-loop-range : goal.invariant-loop-range
invariant-loop-range l = l.entries.items ++ entries_of (is_place l.end l.states) l.source (drop l.range-index l.row)
    ≡ l.fn.entries.items ++ entries_of (is_place l.end l.states) l.source l.row
