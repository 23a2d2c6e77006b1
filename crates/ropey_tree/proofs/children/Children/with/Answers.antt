use Rattle.std.proofs.Common.{◌≡◌, [], ◌∷◌, ◌++◌, ap, sym, ◌∙◌, arith, length}
use Rattle.std.proofs.lemmas.List.{map-append}
use Rattle.ropey_tree.specs.Children.{views}
use Rattle.ropey_tree.specs.Counts.{total}
use Rattle.ropey_tree.specs.Nodes.{all_pieces}
use Rattle.ropey_tree.proofs.Running.{adds, in_step-more}
use Rattle.ropey_tree.proofs.children.Children.with.Goals as goal
use Rattle.ropey_tree.proofs.children.Children.with.Goals.{In_ok-push-2}

pub plus-total-requires-clause-chars : goal.plus-total-requires-clause-chars
plus-total-requires-clause-chars c = (adds c.args.self c.args.node.value c.sum.result c.args.counts c.requires.fits c.sum.ensures c.requires.counted).fits.chars

pub plus-total-requires-clause-units : goal.plus-total-requires-clause-units
plus-total-requires-clause-units c = (adds c.args.self c.args.node.value c.sum.result c.args.counts c.requires.fits c.sum.ensures c.requires.counted).fits.units

pub plus-total-requires-clause-breaks : goal.plus-total-requires-clause-breaks
plus-total-requires-clause-breaks c = (adds c.args.self c.args.node.value c.sum.result c.args.counts c.requires.fits c.sum.ensures c.requires.counted).fits.breaks

pushed : (c : In_ok-push-2) → views c.push.new.self.items ≡ views c.self.inside.nodes.items ++ c.args.node.value ∷ []
pushed c = ap views c.in_ok-push.ensures.items ∙ map-append (λ node. node.value) c.self.inside.nodes.items (c.args.node ∷ [])

pub invariant_of-result : goal.invariant_of-result
invariant_of-result c =
    let v = c.args.node.value in
    let vs = views c.self.inside.nodes.items in
    let sums = adds c.args.self v c.sum.result c.args.counts c.requires.fits c.sum.ensures c.requires.counted in
    let is = c.plus-total.ensures ∙ sums.is ∙ ap (λ vs. total (all_pieces (vs ++ v ∷ []))) (sym c.self.view_is) in
    rw (pushed (goal.at.invariant_of-result c).In_ok-push-2, c.in_ok-push-2.ensures) (in_step-more vs c.self.inside.totals v c.plus-total.result c.self.invariant (omega (arith, c.requires.room, ap length c.self.view_is)) is)

pub returns : goal.returns
returns c = pushed (goal.at.returns c).In_ok-push-2 ∙ ap (λ vs. vs ++ c.args.node.value ∷ []) c.self.view_is
