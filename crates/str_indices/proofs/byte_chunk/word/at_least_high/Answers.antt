use Rattle.std.proofs.Common.{◌+◌, ◌/◌, ◌∙◌, get_or, bit_and, refl}
use Rattle.str_indices.specs.Lanes.{low_bytes}
use Rattle.str_indices.proofs.Words.{low_bytes-below, reaches_high}
use Rattle.str_indices.proofs.byte_chunk.word.at_least_high.Goals as goal

pub returns : goal.returns
returns c = record {
  long = refl;
  each = λ k l.
      let high = c.high_bits-high.ensures.each k l in
      let carried = c.high_bits-carried.ensures.each k l ∙ (λ i. c.add.ensures.each k l i / 128) ∙ (λ i. (c.low_bits.ensures.each k l i + c.splat.ensures.each k l i) / 128) in
      c.bitand.ensures.each k l
      ∙ (λ i. bit_and (high i) (carried i))
      ∙ reaches_high (get_or (low_bytes 8 c.args.word) k 0) c.args.limit (low_bytes-below 8 c.args.word k) c.requires c.ranges.limit.fits;
}
