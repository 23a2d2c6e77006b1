-- No match starts before the offset.
use Rattle.std.proofs.Common.{◌≡◌, ◌-◌, ◌≤◌}
use Rattle.rx_input.specs.Cursors.{IsSameContent}
use Rattle.rx_steps.specs.Searching.{search_of}
use Rattle.regex_cursor.specs.Backs.{freed}
use Rattle.regex_cursor.specs.Strategies.{AreKeptFor, HasStart}
use Rattle.regex_cursor.proofs.AheadLaws.{StartsBehind}
use Rattle.regex_cursor.proofs.engines.meta.ahead.first_place.Given as goal

abbrev pub invariant-loop-place : goal.invariant-loop-place
invariant-loop-place g l = record {
  high : l.fn.input.asked.span.start ≤ l.place;
  behind : StartsBehind l.strategy.vm.program (freed (search_of l.strategy.vm.utf8_empty l.fn.input)) l.place;
  serve : AreKeptFor l.strategy l.kept;
  core : l.kept.core ≡ l.fn.kept.core;
  asked : HasStart l.fn.input.asked l.input.asked;
  same : IsSameContent l.fn.input.cursor l.input.cursor;
}

abbrev pub decreases-loop-place : goal.decreases-loop-place
decreases-loop-place g l = l.end - l.place
