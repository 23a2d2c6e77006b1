use Rattle.std.proofs.Common.{subst}
use Rattle.rx_input.specs.Cursors.{IsLawful}
use Rattle.rx_input.proofs.ChunkLemmas.{shown_lawful}
use Rattle.rx_input.proofs.chunk_cursor.ChunkCursorCursor.offset.Goals as goal

pub returns-clause-lawful : goal.returns-clause-lawful
returns-clause-lawful c = subst IsLawful c.self.view_is (shown_lawful _ _ _ _ c.self.invariant)
