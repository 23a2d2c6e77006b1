use Rattle.std.proofs.Common.{arith}
use Rattle.rx_input.proofs.ChunkLemmas.{shown_lawful, starts_at}
use Rattle.rx_input.proofs.chunk_cursor.ChunkCursor.new.Goals as goal

pub returns-clause-lawful : goal.returns-clause-lawful
returns-clause-lawful c =
    let total = c.total_len-total.ensures in
    rw c.unwrap_or-index.ensures (shown_lawful _ _ _ _ (starts_at _ c.total_len-total.result total (omega (arith, total, c.requires.bound)) _ c.first_filled.ensures))
