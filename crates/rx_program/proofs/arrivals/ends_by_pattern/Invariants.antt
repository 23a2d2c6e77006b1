use Rattle.std.proofs.Common.{[], ◌++◌, map, take}
use Rattle.rx_walks.specs.Reversed.{those, is_match_of}
use Rattle.rx_program.specs.Programs.{node_of}
use Rattle.rx_utf8.specs.Subsets.{lists_of}
use Rattle.rx_program.specs.Arrivals.{AreLists}
use Rattle.rx_program.proofs.arrivals.ends_by_pattern.Given as goal

-- the lists have the matches of the states so far
abbrev pub invariant-loop-from : goal.invariant-loop-from
invariant-loop-from l = AreLists l.count (λ k. [] ++ those (is_match_of k) 0 (take l.from (map node_of l.states))) (lists_of l.lists.items)
