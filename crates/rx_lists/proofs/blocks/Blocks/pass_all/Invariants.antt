use Rattle.std.proofs.Common.{◌≡◌, ◌+◌, ◌*◌, ◌≤◌, Bool, length}
use Rattle.rx_walks.specs.Finds.{IsInside}
use Rattle.rx_input.specs.Cursors.{IsSameContent}
use Rattle.rx_steps.specs.Searching.{search_of}
use Rattle.rx_lists.specs.LeadingSets.{HasLeadingSets, AreLeadingSets, IsLeadingSet}
use Rattle.rx_lists.specs.Passes.{IsReady}
use Rattle.rx_lists.proofs.blocks.Blocks.pass_all.Given as goal

-- the blocks after the input's position were passed
abbrev pub invariant-loop-self : goal.invariant-loop-self
invariant-loop-self g l = record {
  ready : IsReady l.program l.self.pass;
  inside : (utf8_empty : Bool) → IsInside (search_of utf8_empty l.fn.input) l.input.position;
  leading : (utf8_empty : Bool) → IsLeadingSet l.program (search_of utf8_empty l.fn.input) l.input.position l.self.pass.set.value;
  known : (utf8_empty : Bool) → HasLeadingSets l.program (search_of utf8_empty l.fn.input) l.input.position;
  kept : (utf8_empty : Bool) → AreLeadingSets l.program (search_of utf8_empty l.fn.input) l.self.last l.self.every l.self.kept;
  numbered : l.input.position + length l.self.kept * l.self.every ≡ l.self.last;
  first : l.self.first ≡ l.fn.self.first;
  last : l.self.last ≡ l.fn.self.last;
  every : l.self.every ≡ l.fn.self.every;
  counted : l.read + l.input.position ≤ l.fn.read + l.fn.input.position;
  same : IsSameContent l.fn.input.cursor l.input.cursor;
  asked : l.input.asked ≡ l.fn.input.asked;
}

abbrev pub decreases-loop-self : goal.decreases-loop-self
decreases-loop-self g l = l.input.position
