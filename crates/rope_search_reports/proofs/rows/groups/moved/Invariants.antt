-- The groups so far, by offsets of the text.
use Rattle.std.proofs.Common.{◌≡◌, length, take}
use Rattle.rope_search_reports.specs.LineGroups.{moved}
use Rattle.rope_search_reports.proofs.rows.groups.moved.Given as goal

abbrev pub invariant-loop-k : goal.invariant-loop-k
invariant-loop-k l = (length l.told ≡ 10) × (take l.k l.told ≡ moved l.start (take l.k l.groups))
