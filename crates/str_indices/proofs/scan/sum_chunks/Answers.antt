use Rattle.std.proofs.Common.{◌≡◌, ◌≤◌, ◌+◌, length, sum, take, ap, arith}
use Rattle.str_indices.proofs.Chunks.{no_lanes-sum, no_lanes-small, more-sum, more-small}
use Rattle.str_indices.proofs.scan.sum_chunks.Goals as goal

pub loop-taken-init : goal.loop-taken-init
loop-taken-init g c = record {
  long = c.splat-acc.ensures.long;
  small = no_lanes-small _ _ c.splat-acc.ensures;
  counted = omega (arith, no_lanes-sum _ _ c.splat-acc.ensures);
  taken = omega arith;
  low = omega arith;
  high = omega arith;
  none = λ h. omega arith;
  one = λ h. absurd (omega arith);
  some = λ h. absurd (omega arith);
}

pub loop-taken-preserved : goal.loop-taken-preserved
loop-taken-preserved g c =
    let size = g.C.ByteChunk.SIZE in
    let ws = g.M.Measure.weights c.args.bytes.now in
    let lanes = g.C.ByteChunk.lanes c.loop-taken.acc in
    let part = g.C.ByteChunk.lanes c.chunk_weights.result in
    let next = g.C.ByteChunk.lanes c.add-acc.result in
    let read : c.SIZE-at.result ≡ size = c.SIZE-at.ensures in
    let last : c.loop-taken.at + size ≤ c.args.last = omega arith in
    let room : c.loop-taken.at + size ≤ length ws = omega (arith, last, c.requires.after, g.met.M.Measure.weights_len c.args.bytes.now) in
    let before = c.loop-taken.invariant in
    let more = more-sum size c.loop-taken.at ws lanes part next room before.long c.chunk_weights.ensures c.add-acc.ensures in
    record {
      long = c.add-acc.ensures.long;
      small = more-small size c.loop-taken.at c.loop-taken.taken ws lanes part next (g.met.M.Measure.weights_small c.args.bytes.now) before.small c.chunk_weights.ensures c.add-acc.ensures;
      counted = omega (arith, more, before.counted, ap (λ n. sum (take (c.loop-taken.at + n) ws)) read);
      taken = omega arith;
      low = omega (arith, before.low);
      high = omega (arith, last, read);
      none = λ h. absurd (omega arith);
      one = λ h. omega (arith, read, before.none (omega arith));
      some = λ h. omega (arith, read, before.low);
    }
