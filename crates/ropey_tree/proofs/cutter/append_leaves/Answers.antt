use Rattle.std.proofs.Common.{◌≡◌, ◌≤◌, ◌++◌, ◌∷◌, [], length, take, ap, ◌∙◌, arith, length-drop, length-append, refl}
use Rattle.std.proofs.lemmas.Bool.Decides.{nat_tests}
use Rattle.std.specs.Str.{chars}
use Rattle.std.proofs.lemmas.List.{map-append, take_at}
use Rattle.ropey_tree.specs.Siblings.{views}
use Rattle.ropey_tree.proofs.Filling.{filling_starts, filling_some, filled_some, filling_goes_on, filling_last, no_chars}
use Rattle.ropey_tree.proofs.cutter.append_leaves.Goals as goal

pub loop-left-init : goal.loop-left-init
loop-left-init c =
    let leaves = views c.args.leaves.now.items in
    let text = c.args.text.now in
    let e = c.fill-end.ensures in
    let made : views c.new-made.result.items ≡ [] = ap views c.new-made.ensures.items in
    let rest = e.text ∙ ap (λ t. t ++ chars (take c.fill-end.result text)) c.copy-filled.ensures in (
      c.range_from-left.utf8,
      rw c.range_from-left.ensures.value (filling_starts leaves (views c.new-made.result.items) c.args.rest.now c.fill-end.new.self text c.fill-end.result made c.utf8.text e.boundary c.requires rest e.whole e.full),
    )

pub leaf_node-requires : goal.leaf_node-requires
leaf_node-requires c =
    let more : 1 ≤ length c.loop-left.left.now = grind (arith, nat_tests, c.loop-left-test.ensures, c.is_empty.ensures, c.loop-left-test.true) in
    filling_some _ c.loop-left.left.now c.loop-left.filled _ c.loop-left.invariant.1 c.loop-left.invariant.0 more

pub loop-left-smaller : goal.loop-left-smaller
loop-left-smaller c =
    let left = c.loop-left.left.now in
    let e = c.fill-end-in-loop-left.ensures in
    let more : 1 ≤ length left = grind (arith, nat_tests, c.loop-left-test.ensures, c.is_empty.ensures, c.loop-left-test.true) in
    let rest = e.text ∙ ap (λ t. t ++ chars (take c.fill-end-in-loop-left.result left)) c.new-filled.ensures in
    let some = filled_some left c.fill-end-in-loop-left.new.self c.fill-end-in-loop-left.result c.loop-left.invariant.0 e.boundary e.within more rest e.full in
    omega (arith, some, more, ap length c.range_from-left-in-loop-left.ensures.value, length-drop c.fill-end-in-loop-left.result left)

pub loop-left-preserved : goal.loop-left-preserved
loop-left-preserved c =
    let left = c.loop-left.left.now in
    let leaves = views c.args.leaves.now.items in
    let made = views c.loop-left.made.items in
    let e = c.fill-end-in-loop-left.ensures in
    let more : 1 ≤ length left = grind (arith, nat_tests, c.loop-left-test.ensures, c.is_empty.ensures, c.loop-left-test.true) in
    let rest = e.text ∙ ap (λ t. t ++ chars (take c.fill-end-in-loop-left.result left)) c.new-filled.ensures in
    let pushed = ap views c.in_ok-push.ensures.items ∙ map-append (λ node. node.value) c.loop-left.made.items (c.in_ok-leaf_node.field-0 ∷ []) in (
      c.range_from-left-in-loop-left.utf8,
      rw (c.range_from-left-in-loop-left.ensures.value, pushed)
          (filling_goes_on _ left c.loop-left.filled c.fill-end-in-loop-left.new.self leaves made c.in_ok-leaf_node.field-0.value c.fill-end-in-loop-left.result c.loop-left.invariant.1 c.loop-left.invariant.0 e.boundary e.within more
          c.in_ok-leaf_node.ensures.node c.in_ok-leaf_node.ensures.piece rest e.whole e.full),
    )

pub returns-clause-cut : goal.returns-clause-cut
returns-clause-cut c =
    let items = ap views c.in_ok-append.ensures.items ∙ map-append (λ node. node.value) c.args.leaves.now.items c.loop-left.made.items in
    rw items c.loop-left.invariant.1.before

pub returns-clause-text : goal.returns-clause-text
returns-clause-text c =
    let left = c.loop-left.left.now in
    let empty : length left ≡ 0 = grind (arith, nat_tests, c.loop-left-test.ensures, c.is_empty.ensures, c.loop-left-test.false) in
    let items = ap views c.in_ok-append.ensures.items ∙ map-append (λ node. node.value) c.args.leaves.now.items c.loop-left.made.items in
    let text = filling_last _ (chars left) c.loop-left.filled _ c.loop-left.invariant.1 (no_chars left empty) in
    rw items text

pub returns-clause-front : goal.returns-clause-front
returns-clause-front c = ap (take (length c.args.leaves.now.items)) c.in_ok-append.ensures.items ∙ take_at c.args.leaves.now.items c.loop-left.made.items (length c.args.leaves.now.items) refl

pub returns-clause-longer : goal.returns-clause-longer
returns-clause-longer c = omega (arith, ap length c.in_ok-append.ensures.items, length-append c.args.leaves.now.items c.loop-left.made.items)
