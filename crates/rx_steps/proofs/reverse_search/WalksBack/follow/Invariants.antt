use Rattle.std.proofs.Common.{◌≡◌, Bool, All}
use Rattle.std.specs.Prelude.{IfSome}
use Rattle.rx_walks.specs.Finds.{IsInside}
use Rattle.rx_input.specs.Cursors.{IsSameContent}
use Rattle.rx_steps.specs.Threads.{IsThreadOf}
use Rattle.rx_steps.specs.ListsAll.{nodes_of}
use Rattle.rx_steps.specs.Searching.{search_of}
use Rattle.rx_steps.specs.Reversed.{byte_program_of}
use Rattle.rx_steps.specs.ComingBack.{AreOfReverse, HasComeBack}
use Rattle.rx_steps.proofs.reverse_search.WalksBack.follow.Given as goal

-- the search has reached the input's position
abbrev pub invariant-loop-pattern : goal.invariant-loop-pattern
invariant-loop-pattern g l = record {
  made : AreOfReverse l.program l.self.stepper.widths l.self.asks_looks;
  threads : All (IsThreadOf (byte_program_of l.program).states) l.self.live.threads;
  inside : (utf8_empty : Bool) → IsInside (search_of utf8_empty l.fn.input) l.input.position;
  come : (utf8_empty : Bool) → HasComeBack (byte_program_of l.program) (search_of utf8_empty l.fn.input) l.fn.start l.input.position (nodes_of l.self.live.threads) l.best;
  met_inside : IfSome l.best (λ met. (utf8_empty : Bool) → IsInside (search_of utf8_empty l.fn.input) met.offset);
  same : IsSameContent l.fn.input.cursor l.input.cursor;
  asked : l.input.asked ≡ l.fn.input.asked;
}

abbrev pub decreases-loop-pattern : goal.decreases-loop-pattern
decreases-loop-pattern g l = l.input.position
