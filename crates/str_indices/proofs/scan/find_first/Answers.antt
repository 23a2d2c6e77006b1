use Rattle.std.proofs.Common.{inl, inr, arith}
use Rattle.str_indices.specs.Bytes.{IsFirstPast}
use Rattle.str_indices.proofs.scan.find_first.Goals as goal

pub returns-in-Break : goal.returns-in-Break
returns-in-Break g c =
    let at = c.in-Break.at in
    let ws = g.M.Measure.weights c.args.bytes.now in
    elim c.in-Break.is as (λ _. IsFirstPast ws 0 at) [
      | inl found ↦ c.search.ensures.found at found
      | inr ended ↦
          let end = c.search.ensures.end at ended in
          let long = g.met.M.Measure.weights_len c.args.bytes.now in
          record {
            within = omega (arith, end, long);
            before = omega (arith, c.search.ensures.none at ended);
            passed = λ inside. absurd (omega (arith, inside, end, long));
          }
    ]
