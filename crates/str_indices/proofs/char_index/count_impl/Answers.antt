use Rattle.str_indices.proofs.Indices.{first_bytes-count}
use Rattle.str_indices.proofs.char_index.count_impl.Goals as goal

pub returns-clause-count : goal.returns-clause-count
returns-clause-count g c = let e = first_bytes-count _ _ g.met.M.CharMeasure.at_first_bytes c.args.text.now c.utf8.text in cc
