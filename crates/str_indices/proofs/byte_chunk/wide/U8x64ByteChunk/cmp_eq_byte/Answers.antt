use Rattle.std.proofs.Common.{cond, eqb, get_or, replicate, sym, subst, w8}
use Rattle.std.proofs.lemmas.Simd.{tops_compared}
use Rattle.std.specs.Simd.Lanes.{sel_l}
use Rattle.str_indices.specs.Lanes.{HasLanes}
use Rattle.str_indices.proofs.Vectors.{HasLanes-right}
use Rattle.str_indices.proofs.byte_chunk.wide.U8x64ByteChunk.cmp_eq_byte.Goals as goal

pub returns : goal.returns
returns c =
    let v = c.args.self in
    let b = c.args.byte in
    subst (λ ms. HasLanes 64 (sel_l ms (replicate 64 1) (replicate 64 0)) (λ k. cond (eqb (get_or v k 0) b) 1 0))
    (sym (tops_compared w8 eqb v (replicate 64 b))) (HasLanes-right 64 eqb v b c.fits-self.0)
