use Rattle.std.proofs.Common.{subst}
use Rattle.rx_input.specs.Cursors.{IsLawful}
use Rattle.regex_cursor.proofs.ShowingLaws.{lawful}
use Rattle.regex_cursor.proofs.ropey_cursor.RopeyCursorCursor.offset.Goals as goal

pub returns-clause-lawful : goal.returns-clause-lawful
returns-clause-lawful c = subst IsLawful c.self.view_is (lawful _ _ _ _ c.self.invariant.shows)
