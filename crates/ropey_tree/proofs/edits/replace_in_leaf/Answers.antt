use Rattle.std.proofs.Common.{◌-◌}
use Rattle.std.specs.Str.{chars}
use Rattle.ropey_tree.proofs.Editing.{one_tree, two_nodes, two_tree}
use Rattle.ropey_tree.proofs.edits.replace_in_leaf.Goals as goal

pub returns-in-None-clause-none : goal.returns-in-None-clause-none
returns-in-None-clause-none c = λ w h. let none = rw c.in-None.is at c.in_ok-replaced.ensures in none.none w.pieces h.edited

pub returns-in-Some-One-clause-edited : goal.returns-in-Some-One-clause-edited
returns-in-Some-One-clause-edited c =
    let by = rw (c.in-Some-One.is, c.in-Some-One.field-0-is) at c.in_ok-replaced.ensures in
    one_tree c.args.node.now.value c.in-Some-One.only.value c.args.from c.args.to (chars c.args.text.now) (c.replaced.new.made.nodes - c.args.made.now.nodes) by.edited

pub over_two-requires-clause-inner : goal.over_two-requires-clause-inner
over_two-requires-clause-inner c =
    let v = c.args.node.now.value in
    let first = c.in-Some-Two.first.value in
    let second = c.in-Some-Two.second.value in
    let by = rw (c.in-Some-Two.is, c.in-Some-Two.field-0-is) at c.in_ok-replaced.ensures in
    let made = c.replaced.new.made.nodes - c.args.made.now.nodes in
    let is_text = rw c.deref.ensures at c.height-height.ensures.tree.text in
    rw (c.height-height.ensures.value, c.deref.ensures) (two_nodes v first second c.args.from c.args.to (chars c.args.text.now) made by.edited is_text c.requires.fits)

pub returns-in_ok-root-in-Some-Two-clause-edited : goal.returns-in_ok-root-in-Some-Two-clause-edited
returns-in_ok-root-in-Some-Two-clause-edited c =
    let v = c.args.node.now.value in
    let first = c.in-Some-Two.first.value in
    let second = c.in-Some-Two.second.value in
    let by = rw (c.in-Some-Two.is, c.in-Some-Two.field-0-is) at c.in_ok-replaced.ensures in
    let made = c.replaced.new.made.nodes - c.args.made.now.nodes in
    let w_is = rw (c.height-height.ensures.value, c.deref.ensures) at c.in_ok-root-in-Some-Two.ensures.node in
    two_tree v first second c.in_ok-root-in-Some-Two.root.value c.args.from c.args.to (chars c.args.text.now) made by.edited w_is
