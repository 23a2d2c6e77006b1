use Rattle.std.proofs.Common.{subst}
use Rattle.str_indices.specs.Bytes.{IsFirstPast}
use Rattle.str_indices.proofs.Indices.{first_bytes-place}
use Rattle.str_indices.proofs.char_index.to_byte_idx_impl.Goals as goal

pub returns-clause-place : goal.returns-clause-place
returns-clause-place g c =
    let found = subst (λ bs. IsFirstPast (g.M.Measure.weights bs) c.args.idx c.find_past.result) c.as_bytes.ensures.value c.find_past.ensures.place in
    first_bytes-place _ _ g.met.M.CharMeasure.at_first_bytes c.args.text.now c.utf8.text c.args.idx c.find_past.result found
