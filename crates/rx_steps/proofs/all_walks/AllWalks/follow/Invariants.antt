use Rattle.std.proofs.Common.{◌≡◌, ◌+◌, ◌-◌, ◌*◌, ◌≤◌, true, None, length}
use Rattle.rx_walks.specs.Finds.{IsInside}
use Rattle.rx_input.specs.Cursors.{IsSameContent}
use Rattle.rx_steps.specs.Nodes.{node_count}
use Rattle.rx_steps.specs.Searching.{search_of}
use Rattle.rx_steps.specs.Caches.{AreOfProgram}
use Rattle.rx_steps.specs.Coming.{course_of}
use Rattle.rx_steps.specs.ComingAll.{HasMetNoneAll, IsUnderWayAll, IsUnderWayAllInParts}
use Rattle.rx_steps.proofs.all_walks.AllWalks.follow.Given as goal

-- the search has reached the input's position
abbrev pub invariant-loop-self : goal.invariant-loop-self
invariant-loop-self g l = record {
  made : AreOfProgram l.program l.walks.stepper.widths l.walks.asks_looks l.walks.idle;
  inside : IsInside (search_of l.utf8_empty l.fn.input) l.input.position;
  way : IsUnderWayAll (course_of l.program (search_of l.utf8_empty l.fn.input) l.start) l.input.position l.self.live.items l.self.best;
  parts : IsUnderWayAllInParts (course_of l.program (search_of l.utf8_empty l.fn.input) l.start) l.input.position l.self.live.items l.self.best;
  unmet : l.earliest ≡ true → l.self.best ≡ None;
  before : l.self.best ≡ None → HasMetNoneAll (course_of l.program (search_of l.utf8_empty l.fn.input) l.start) l.fn.input.position l.input.position;
  same : IsSameContent l.fn.input.cursor l.input.cursor;
  asked : l.input.asked ≡ l.fn.input.asked;
  work : l.walks.stepper.followed ≤ l.fn.walks.stepper.followed + node_count l.program * (l.input.position - l.fn.input.position);
}

abbrev pub decreases-loop-self : goal.decreases-loop-self
decreases-loop-self g l = length l.fn.input.cursor.content - l.input.position
