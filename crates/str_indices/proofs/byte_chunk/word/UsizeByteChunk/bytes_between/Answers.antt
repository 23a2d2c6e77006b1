use Rattle.std.proofs.Common.{ℕ, ◌-◌, ◌∙◌, get_or, cond, leb, bit_and, refl, ap, sym, arith}
use Rattle.std.specs.Prelude.{◌&&◌}
use Rattle.std.proofs.lemmas.Nat.{and_le_l}
use Rattle.str_indices.specs.Lanes.{low_bytes}
use Rattle.str_indices.proofs.Words.{low_bytes-below, between_last, between_limits}
use Rattle.str_indices.proofs.byte_chunk.word.UsizeByteChunk.bytes_between.Goals as goal

pub sub-requires : goal.sub-requires
sub-requires c = λ k l. omega (arith, c.bitand.ensures.each k l, and_le_l (get_or (low_bytes 8 c.at_least-from_low.result) k 0) (get_or (low_bytes 8 c.at_least.result) k 0))

pub returns-then-high-eq255 : goal.returns-then-high-eq255
returns-then-high-eq255 c = record {
  long = refl;
  each = λ k l.
      let x = get_or (low_bytes 8 c.args.self) k 0 in
      c.at_least-from_low.ensures.each k l
      ∙ between_last x c.args.low (low_bytes-below 8 c.args.self k)
      ∙ ap (λ high. cond {A = ℕ} (leb c.args.low x && leb x high) 1 0) (sym c.if-high-eq255.true);
}

pub returns-else-high-eq255 : goal.returns-else-high-eq255
returns-else-high-eq255 c = record {
  long = refl;
  each = λ k l.
      let x = get_or (low_bytes 8 c.args.self) k 0 in
      let from_low = c.at_least-from_low.ensures.each k l in
      c.sub.ensures.each k l
      ∙ (λ i. from_low i - c.bitand.ensures.each k l i)
      ∙ (λ i. cond {A = ℕ} (leb c.args.low x) 1 0 - bit_and (from_low i) (c.at_least.ensures.each k l i))
      ∙ between_limits x c.args.low c.args.high;
}
