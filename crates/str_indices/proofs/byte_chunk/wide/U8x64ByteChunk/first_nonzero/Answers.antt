use Rattle.std.proofs.Common.{eqb, not, sym, ◌∙◌, arith, w8}
use Rattle.std.proofs.lemmas.Simd.{bitmask_splat}
use Rattle.str_indices.proofs.FirstLanes.{no_bits, lowest_bit}
use Rattle.str_indices.proofs.byte_chunk.wide.U8x64ByteChunk.first_nonzero.Goals as goal

pub returns-then-mask-eq0 : goal.returns-then-mask-eq0
returns-then-mask-eq0 c =
    let v = c.args.self in
    sym c.fits-self.0 ∙ no_bits v _ (omega (arith, c.fits-self.0)) (bitmask_splat w8 (λ a b. not (eqb a b)) v 64 0 c.fits-self.0 (omega arith)) c.if-mask-eq0.true

pub returns-else-mask-eq0 : goal.returns-else-mask-eq0
returns-else-mask-eq0 c =
    let v = c.args.self in
    lowest_bit v _ (omega (arith, c.fits-self.0)) (bitmask_splat w8 (λ a b. not (eqb a b)) v 64 0 c.fits-self.0 (omega arith)) c.if-mask-eq0.false
