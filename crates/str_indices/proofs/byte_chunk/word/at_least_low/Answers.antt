use Rattle.std.proofs.Common.{◌+◌, ◌-◌, ◌/◌, ◌∙◌, get_or, bit_and, refl, arith}
use Rattle.std.proofs.lemmas.Nat.{and_le_l}
use Rattle.str_indices.specs.Lanes.{low_bytes}
use Rattle.str_indices.proofs.Words.{low_bytes-below, reaches_low}
use Rattle.str_indices.proofs.byte_chunk.word.at_least_low.Goals as goal

pub add-requires-2 : goal.add-requires-2
add-requires-2 c = λ k l.
    omega (arith, c.high_bits-high.ensures.each k l, low_bytes-below 8 c.args.word k, c.high_bits-carried.ensures.each k l, low_bytes-below 8 c.add.result k)

pub sub-requires : goal.sub-requires
sub-requires c = λ k l.
    omega (arith, c.bitand.ensures.each k l, c.add-2.ensures.each k l, and_le_l (get_or (low_bytes 8 c.high_bits-high.result) k 0) (get_or (low_bytes 8 c.high_bits-carried.result) k 0))

pub returns : goal.returns
returns c = record {
  long = refl;
  each = λ k l.
      let high = c.high_bits-high.ensures.each k l in
      let carried = c.high_bits-carried.ensures.each k l ∙ (λ i. c.add.ensures.each k l i / 128) ∙ (λ i. (c.low_bits.ensures.each k l i + c.splat.ensures.each k l i) / 128) in
      c.sub.ensures.each k l
      ∙ (λ i. c.add-2.ensures.each k l i - c.bitand.ensures.each k l i)
      ∙ (λ i. high i + carried i - bit_and (high i) (carried i))
      ∙ reaches_low (get_or (low_bytes 8 c.args.word) k 0) c.args.limit (low_bytes-below 8 c.args.word k) c.requires;
}
