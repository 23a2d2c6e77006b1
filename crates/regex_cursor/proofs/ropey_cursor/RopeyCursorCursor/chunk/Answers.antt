use Rattle.std.proofs.Common.{◌∙◌, ap, sym, subst}
use Rattle.rx_input.specs.Cursors.{IsLawful, piece_of}
use Rattle.regex_cursor.proofs.ShowingLaws.{lawful, piece_is}
use Rattle.regex_cursor.proofs.ropey_cursor.RopeyCursorCursor.chunk.Goals as goal

pub returns-clause-chunk : goal.returns-clause-chunk
returns-clause-chunk c = c.as_bytes.ensures.value ∙ sym (piece_is _ _ _ _ c.self.invariant.shows) ∙ ap piece_of c.self.view_is

pub returns-clause-lawful : goal.returns-clause-lawful
returns-clause-lawful c = subst IsLawful c.self.view_is (lawful _ _ _ _ c.self.invariant.shows)
