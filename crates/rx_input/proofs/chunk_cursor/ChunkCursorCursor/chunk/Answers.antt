use Rattle.std.proofs.Common.{◌∙◌, ap, sym, subst}
use Rattle.rx_input.specs.Cursors.{IsLawful, piece_of}
use Rattle.rx_input.proofs.ChunkLemmas.{shown_lawful, shown_piece}
use Rattle.rx_input.proofs.chunk_cursor.ChunkCursorCursor.chunk.Goals as goal

pub returns-clause-chunk : goal.returns-clause-chunk
returns-clause-chunk c = c.chunk_at.ensures ∙ sym (shown_piece _ _ _ _ c.self.invariant) ∙ ap piece_of c.self.view_is

pub returns-clause-lawful : goal.returns-clause-lawful
returns-clause-lawful c = subst IsLawful c.self.view_is (shown_lawful _ _ _ _ c.self.invariant)
