use Rattle.str_indices.proofs.Indices.{last_bytes-count}
use Rattle.str_indices.proofs.line_index.count_breaks_impl.Goals as goal

pub returns-clause-count : goal.returns-clause-count
returns-clause-count g c = let e = last_bytes-count _ _ g.met.M.BreakMeasure.at_last_bytes c.args.text.now c.utf8.text in cc
