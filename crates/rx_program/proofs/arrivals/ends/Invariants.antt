use Rattle.std.proofs.Common.{◌≡◌, map, take}
use Rattle.rx_walks.specs.Reversed.{those, is_match}
use Rattle.rx_program.specs.Programs.{node_of}
use Rattle.rx_program.proofs.arrivals.ends.Given as goal

-- the list has the matches of the states so far
abbrev pub invariant-loop-from : goal.invariant-loop-from
invariant-loop-from l = l.list.items ≡ those is_match 0 (take l.from (map node_of l.states))
