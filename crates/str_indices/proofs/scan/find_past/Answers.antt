use Rattle.std.proofs.Common.{◌+◌, inl, inr, refl, arith}
use Rattle.std.proofs.lemmas.Bool.{cases_lt}
use Rattle.str_indices.proofs.Chunks.{sum-take-le_more}
use Rattle.str_indices.proofs.scan.find_past.Goals as goal

-- the last loop looks at a chunk at most: either no more bytes are left, or the chunk that comes next counts past k
pub returns-clause-turns : goal.returns-clause-turns
returns-clause-turns g c =
    let size = g.C.ByteChunk.SIZE in
    let ws = g.M.Measure.weights c.args.bytes.now in
    let from = c.skip_chunks-count-2.result.1 in
    let at = c.skip_bytes-at.result.1 in
    elim (c.skip_chunks-count-2.ensures.near refl) [
      | inl short ↦ omega (arith, short)
      | inr passes ↦
          elim (cases_lt at (from + size)) [
            | inl inside ↦ omega (arith, inside)
            | inr past ↦ absurd (omega (arith, passes, sum-take-le_more ws (from + size) at past, c.skip_bytes-at.ensures.counted, c.skip_bytes-at.ensures.below))
          ]
    ]
