use Rattle.std.proofs.Common.{◌≡◌, ◌⊎◌, ◌+◌, ◌-◌, ◌*◌, ◌≤◌, true, [], None, length}
use Rattle.rx_walks.specs.Finds.{IsInside}
use Rattle.rx_input.specs.Cursors.{IsSameContent}
use Rattle.rx_steps.specs.Nodes.{node_count}
use Rattle.rx_steps.specs.Searching.{search_of}
use Rattle.rx_steps.specs.Caches.{AreOfProgram}
use Rattle.rx_steps.specs.Coming.{course_of, IsUnderWay, IsUnderWayInParts, KeepsFirst}
use Rattle.rx_steps.proofs.search.Walks.follow.Given as goal

-- the search has reached the input's position
abbrev pub invariant-loop-self : goal.invariant-loop-self
invariant-loop-self g l = record {
  made : AreOfProgram l.program l.self.stepper.widths l.self.asks_looks l.self.idle;
  inside : IsInside (search_of l.utf8_empty l.fn.input) l.input.position;
  slot_len : l.self.live.slot_len ≡ length l.slots;
  way : IsUnderWay (course_of l.program (search_of l.utf8_empty l.fn.input) l.start) l.input.position l.self.live.threads l.self.met l.slots;
  parts : IsUnderWayInParts (course_of l.program (search_of l.utf8_empty l.fn.input) l.start) l.input.position l.self.live.threads l.self.met l.slots;
  unmet : l.earliest ≡ true → l.self.met ≡ None;
  first : KeepsFirst (course_of l.program (search_of l.utf8_empty l.fn.input) l.start) l.fn.input.position l.input.position l.self.met l.self.live.threads;
  lives : (l.self.met ≡ None) ⊎ (l.self.live.threads ≡ [] → ⊥);
  same : IsSameContent l.fn.input.cursor l.input.cursor;
  asked : l.input.asked ≡ l.fn.input.asked;
  work : l.self.stepper.followed ≤ l.fn.self.stepper.followed + node_count l.program * (l.input.position - l.fn.input.position);
}

abbrev pub decreases-loop-self : goal.decreases-loop-self
decreases-loop-self g l = length l.fn.input.cursor.content - l.input.position
