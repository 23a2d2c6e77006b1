use Rattle.std.proofs.Common.{map, ap, ◌∙◌, arith, w16}
use Rattle.std.proofs.lemmas.List.{map-id}
use Rattle.std.proofs.lemmas.Simd.{sum_fits, fold-sum, sum_bound, bytes_below}
use Rattle.std.specs.Simd.Lanes.{sum_l}
use Rattle.str_indices.proofs.Vectors.{sum_is_sum_l}
use Rattle.str_indices.proofs.byte_chunk.wide.U8x64ByteChunk.sum_bytes.Goals as goal

pub overflow_add-result : goal.overflow_add-result
overflow_add-result c =
    sum_fits w16 0 _ (omega (arith, ap sum_l (map-id c.args.self), sum_bound 255 c.args.self (bytes_below c.args.self c.fits-self.1), c.fits-self.0))

pub returns : goal.returns
returns c = fold-sum 0 (map (λ x. x) c.args.self) ∙ omega (arith, ap sum_l (map-id c.args.self), sum_is_sum_l c.args.self)
