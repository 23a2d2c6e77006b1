use Rattle.str_indices.proofs.Indices.{last_bytes-count}
use Rattle.str_indices.proofs.line_index.count_breaks.Goals as goal

pub returns : goal.returns
returns g c = let e = last_bytes-count _ _ g.met.M.BreakMeasure.at_last_bytes c.args.text.now c.utf8.text in cc
