-- The groups so far are at the start.
use Rattle.std.proofs.Common.{◌≡◌, map, take}
use Rattle.rope_search_c.specs.Groups.{group_in}
use Rattle.rope_search_c.specs.Reading.{with_front}
use Rattle.rope_search_c.proofs.groups.put_groups.Given as goal

abbrev pub invariant-loop-k : goal.invariant-loop-k
invariant-loop-k l = l.out ≡ with_front (map (group_in l.line) (take l.k l.groups)) l.fn.out
