use Rattle.std.proofs.Common.{◌≡◌, length}
use Rattle.rx_utf8.specs.Automata.{step_in}
use Rattle.rx_utf8.specs.Blocks.{rows_of}
use Rattle.rx_utf8.specs.Subsets.{AddsRowsUpTo, lists_of}
use Rattle.rx_utf8.proofs.subsets.Maker.add_level.Given as goal

-- the rows of the states so far are added
abbrev pub invariant-loop-state : goal.invariant-loop-state
invariant-loop-state l = record {
  rows : AddsRowsUpTo (length l.forward) (step_in (rows_of l.forward)) (lists_of l.fn.self.subsets.sets.items) (rows_of l.fn.self.rows.items) l.state (lists_of l.self.subsets.sets.items) (rows_of l.self.rows.items);
  states : length l.self.states.items ≡ length l.forward;
  lists : length l.self.lists.items ≡ 256;
}
