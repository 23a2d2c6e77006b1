use Rattle.std.proofs.Common.{cond, leb, get_or, replicate, sym, subst, w8}
use Rattle.std.proofs.lemmas.Simd.{tops_compared}
use Rattle.std.specs.Simd.Lanes.{sel_l}
use Rattle.str_indices.specs.Lanes.{HasLanes}
use Rattle.str_indices.proofs.Vectors.{HasLanes-right}
use Rattle.str_indices.proofs.byte_chunk.vector.at_most.Goals as goal

pub returns : goal.returns
returns g c =
    let v = c.args.lanes in
    let b = c.args.byte in
    subst (λ ms. HasLanes g.row.N (sel_l ms (replicate g.row.N 1) (replicate g.row.N 0)) (λ k. cond (leb (get_or v k 0) b) 1 0))
    (sym (tops_compared w8 leb v (replicate g.row.N b))) (HasLanes-right g.row.N leb v b c.fits-lanes.0)
