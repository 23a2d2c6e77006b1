use Rattle.std.proofs.Common.{◌≡◌, ◌+◌, ◌≤◌, Bool, length}
use Rattle.rx_walks.specs.Finds.{IsInside}
use Rattle.rx_input.specs.Cursors.{IsSameContent}
use Rattle.rx_steps.specs.Searching.{search_of}
use Rattle.rx_lists.specs.LeadingSets.{HasLeadingSets, AreLeadingSets, IsLeadingSet}
use Rattle.rx_lists.specs.Passes.{IsReady}
use Rattle.rx_lists.proofs.pass_back.PassBack.pass_block.Given as goal

-- the offsets from the block's last one back to the input's position were passed
abbrev pub invariant-loop-input : goal.invariant-loop-input
invariant-loop-input g l = record {
  ready : IsReady l.program l.self;
  inside : (utf8_empty : Bool) → IsInside (search_of utf8_empty l.fn.input) l.input.position;
  above : l.bottom ≤ l.input.position;
  leading : (utf8_empty : Bool) → IsLeadingSet l.program (search_of utf8_empty l.fn.input) l.input.position l.self.set.value;
  known : (utf8_empty : Bool) → HasLeadingSets l.program (search_of utf8_empty l.fn.input) l.input.position;
  count : length l.block.sets + l.input.position ≡ l.fn.input.position + 1;
  sets : (utf8_empty : Bool) → AreLeadingSets l.program (search_of utf8_empty l.fn.input) l.fn.input.position 1 l.block.sets;
  top : l.block.top ≡ l.fn.input.position;
  counted : l.read + l.input.position ≡ l.fn.read + l.fn.input.position;
  same : IsSameContent l.fn.input.cursor l.input.cursor;
  asked : l.input.asked ≡ l.fn.input.asked;
}

abbrev pub decreases-loop-input : goal.decreases-loop-input
decreases-loop-input g l = l.input.position
