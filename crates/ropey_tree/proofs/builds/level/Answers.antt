use Rattle.std.proofs.Common.{◌≡◌, ◌+◌, ◌-◌, ◌++◌, drop, ◌<◌, ◌≤◌, ◌⊎◌, inl, inr, ◌∷◌, [], length, take, ap, sym, ◌∙◌, arith, length-append, length-take-le}
use Rattle.std.proofs.lemmas.List.{map-append, length-map}
use Rattle.std.proofs.Math.Seq.{take-add}
use Rattle.ropey_tree.specs.Siblings.{views}
use Rattle.ropey_tree.specs.Counts.{total}
use Rattle.ropey_tree.specs.Nodes.{all_pieces}
use Rattle.ropey_tree.proofs.InRow.{bytes-part-le}
use Rattle.ropey_tree.proofs.Running.{views-part}
use Rattle.ropey_tree.proofs.Levels.{level_step}
use Rattle.ropey_tree.proofs.Packing.{part_inner}
use Rattle.ropey_tree.proofs.builds.level.Goals as goal
use Rattle.ropey_tree.proofs.builds.level.Goals.{In_ok-children}

pub gather-requires-clause-fits : goal.gather-requires-clause-fits
gather-requires-clause-fits c =
    let nodes = c.args.nodes.now in
    let n = c.loop-from.from + c.share.result - c.loop-from.from in
    omega (arith, ap (λ us. (total (all_pieces us)).bytes) (views-part n c.loop-from.from nodes), bytes-part-le (views nodes) c.loop-from.from n, c.requires.text.fits)

taken : (c : In_ok-children) → take c.loop-from.from (views c.args.nodes.now) ++ c.in_ok-children.children ≡ take (c.loop-from.from + c.share.result) (views c.args.nodes.now)
taken c =
    let from = c.loop-from.from in
    let nodes = c.args.nodes.now in
    let n : from + c.share.result - from ≡ c.share.result = omega arith in
    let part = ap (λ k. views (take k (drop from nodes))) n ∙ views-part c.share.result from nodes in
    ap (λ us. take from (views nodes) ++ us) (c.in_ok-children.ensures ∙ part) ∙ sym (take-add from c.share.result (views nodes))

pub over-requires : goal.over-requires
over-requires c =
    let is = taken (goal.at.over-requires c).In_ok-children in
    let below = views c.args.nodes.now in
    let to = c.loop-from.from + c.share.result in
    let len : length below ≡ length c.args.nodes.now = length-map c.args.nodes.now (λ node. node.value) in
    let within : to ≤ length below = omega (arith, len, c.share.ensures.within, c.loop-from-test.true) in
    let sums = sym (length-append (take c.loop-from.from below) c.in_ok-children.children) ∙ ap length is in
    let front = length-take-le c.loop-from.from below (omega (arith, within)) in
    let whole = length-take-le to below within in
    part_inner c.args.height below c.in_ok-children.children c.loop-from.from to c.requires is (omega (arith, sums, front, whole, c.share.ensures.some))

pub loop-from-preserved : goal.loop-from-preserved
loop-from-preserved c =
    let below = views c.args.nodes.now in
    let above = views c.loop-from.above.items in
    let to = c.loop-from.from + c.share.result in
    let len : length below ≡ length c.args.nodes.now = length-map c.args.nodes.now (λ node. node.value) in
    let more : c.loop-from.from < length below = omega (arith, len, c.loop-from-test.true) in
    let within : to ≤ length below = omega (arith, len, c.share.ensures.within, c.loop-from-test.true) in
    let enough : (to ≡ length below) ⊎ ((c.loop-from.from + 12 ≤ to) × (to + 12 ≤ length below)) = elim c.share.ensures.full [
      | inl all ↦ inl (omega (arith, all, len, c.loop-from-test.true))
      | inr big ↦ inr (omega (arith, big.0), omega (arith, big.1, len))
    ] in
    let pushed = ap views c.in_ok-push.ensures.items ∙ map-append (λ node. node.value) c.loop-from.above.items (c.in_ok-node.node ∷ []) in
    rw pushed (level_step c.args.height below above c.in_ok-children.children c.loop-from.from to c.in_ok-node.node.value c.loop-from.invariant c.requires more (taken (goal.at.loop-from-preserved c).In_ok-children) within (omega (arith, c.share.ensures.some)) c.in_ok-node.ensures.node enough)
