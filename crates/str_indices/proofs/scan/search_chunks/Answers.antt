use Rattle.std.proofs.Common.{◌≡◌, ◌+◌, ◌≤◌, length, sum, take, subst, sym, ◌∙◌, ap, arith}
use Rattle.str_indices.specs.Bytes.{IsFirstPast}
use Rattle.str_indices.proofs.FirstLanes.{zeros_pass, first_past-lane}
use Rattle.str_indices.proofs.scan.search_chunks.Goals as goal

pub returns-then-lane-SIZE-clause-found : goal.returns-then-lane-SIZE-clause-found
returns-then-lane-SIZE-clause-found g c =
    let size = g.C.ByteChunk.SIZE in
    let ws = g.M.Measure.weights c.args.bytes.now in
    let part = g.C.ByteChunk.lanes c.chunk_weights.result in
    let room : c.loop-lane.at + size ≤ length ws = omega (arith, c.SIZE.ensures, g.met.M.Measure.weights_len c.args.bytes.now) in
    let found = first_past-lane size c.loop-lane.at ws part room c.chunk_weights.ensures c.loop-lane.invariant.none (omega (arith, c.first_nonzero-lane.ensures, c.SIZE-in-loop-lane.ensures)) in
    let place = ap (λ lane. c.loop-lane.at + lane) c.first_nonzero-lane.ensures in
    λ b e. let same : c.loop-lane.at + c.first_nonzero-lane.result ≡ b = cc in subst (IsFirstPast ws 0) (sym place ∙ same) found

pub loop-lane-preserved : goal.loop-lane-preserved
loop-lane-preserved g c =
    let size = g.C.ByteChunk.SIZE in
    let ws = g.M.Measure.weights c.args.bytes.now in
    let part = g.C.ByteChunk.lanes c.chunk_weights.result in
    let room : c.loop-lane.at + size ≤ length ws = omega (arith, c.SIZE.ensures, g.met.M.Measure.weights_len c.args.bytes.now) in
    let none = zeros_pass size c.loop-lane.at ws part room c.chunk_weights.ensures c.loop-lane.invariant.none size (omega arith) (omega (arith, c.first_nonzero-lane.ensures, c.SIZE-in-loop-lane.ensures)) in
    record {
      none = ap (λ n. sum (take (c.loop-lane.at + n) ws)) c.SIZE-at.ensures ∙ none;
      low = omega (arith, c.loop-lane.invariant.low);
      high = omega (arith, room, c.SIZE-at.ensures, g.met.M.Measure.weights_len c.args.bytes.now);
    }
