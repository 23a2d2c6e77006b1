use Rattle.std.proofs.Common.{◌≡◌, ◌-◌, length}
use Rattle.rx_utf8.specs.Automata.{step_in}
use Rattle.rx_utf8.specs.Blocks.{rows_of}
use Rattle.rx_utf8.specs.Subsets.{lists_of}
use Rattle.rx_utf8.proofs.SubsetLaws.{Made}
use Rattle.rx_utf8.proofs.subsets.rows_back.Given as goal

-- a level was built for each byte so far
abbrev pub invariant-loop : goal.invariant-loop
invariant-loop l = record {
  made : Made (length l.forward) (step_in (rows_of l.forward)) (4 - l.counter) (lists_of l.maker.subsets.sets.items) (rows_of l.maker.rows.items);
  states : length l.maker.states.items ≡ length l.forward;
  lists : length l.maker.lists.items ≡ 256;
}
