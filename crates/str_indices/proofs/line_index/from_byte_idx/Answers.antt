use Rattle.str_indices.proofs.Indices.{last_bytes-up_to}
use Rattle.str_indices.proofs.line_index.from_byte_idx.Goals as goal

pub returns : goal.returns
returns g c = let e = last_bytes-up_to _ _ g.met.M.BreakMeasure.at_last_bytes c.args.text.now c.utf8.text c.args.byte_idx in cc
