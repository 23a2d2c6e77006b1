use Rattle.std.proofs.Common.{◌∷◌, [], ◌++◌, false, true, ◌≤◌, length, sym, ap, subst, ◌∙◌, refl, arith}
use Rattle.std.proofs.lemmas.List.{length-append}
use Rattle.rx_steps.specs.Nodes.{index_from, end_from}
use Rattle.rx_lists.specs.Sets.{AreOf, IsAdded}
use Rattle.rx_steps.proofs.IndexLaws.{new_index}
use Rattle.rx_lists.proofs.SetLaws.{not_inserted, inserted_before, of_same, of_more}
use Rattle.rx_lists.proofs.node_set.NodeSet.add.Goals as goal

pub invariant_of-self : goal.invariant_of-self
invariant_of-self c =
    let v = c.self.inside.visited in
    let same = not_inserted (index_from 0 v.widths c.args.node.0 c.args.node.1) c.insert.result v.ids c.insert.new.self.ids c.if-not-insert.true c.insert.ensures.inserted in
    (of_same v.widths c.insert.new.self.widths v.ids c.insert.new.self.ids c.self.inside.nodes.items c.insert.ensures.widths same c.self.invariant.0, c.self.invariant.1 ∙ ap (λ xs. length xs) (sym same))

pub returns-then-not-insert-clause-added : goal.returns-then-not-insert-clause-added
returns-then-not-insert-clause-added c =
    let v = c.self.inside.visited in
    subst (λ s. IsAdded s.widths s.nodes c.args.node false c.self.inside.nodes.items) c.self.view_is
    (refl, λ k at. inserted_before v.widths v.ids c.insert.new.self.ids c.self.inside.nodes.items c.args.node c.insert.result (index_from 0 v.widths c.args.node.0 c.args.node.1) k c.if-not-insert.true at refl c.insert.ensures.inserted c.self.invariant.0)

pub invariant_of-self-in-Ok : goal.invariant_of-self-in-Ok
invariant_of-self-in-Ok c =
    let v = c.self.inside.visited in
    let new = new_index (index_from 0 v.widths c.args.node.0 c.args.node.1) c.insert.result v.ids c.insert.new.self.ids c.if-not-insert.false c.insert.ensures.inserted in
    let more = of_more v.widths v.ids c.self.inside.nodes.items c.args.node new.0 new.1 c.self.invariant.0 in (
      subst (λ w. AreOf w c.insert.new.self.ids c.push.new.self.items) (sym c.insert.ensures.widths)
          (subst (λ xs. AreOf v.widths xs c.push.new.self.items) (sym new.3)
          (subst (λ xs. AreOf v.widths (v.ids ++ new.0 ∷ []) xs) (sym c.in-Ok.ensures.items) more)),
      omega (arith, ap (λ xs. length xs) new.3, ap (λ xs. length xs) c.in-Ok.ensures.items, length-append v.ids (new.0 ∷ []), length-append c.self.inside.nodes.items (c.args.node ∷ []), c.self.invariant.1),
    )

pub returns-in-Ok-clause-added : goal.returns-in-Ok-clause-added
returns-in-Ok-clause-added c =
    let v = c.self.inside.visited in
    let new = new_index (index_from 0 v.widths c.args.node.0 c.args.node.1) c.insert.result v.ids c.insert.new.self.ids c.if-not-insert.false c.insert.ensures.inserted in
    let room : length c.insert.new.self.ids ≤ end_from 0 v.widths = c.insert.ensures.room c.if-not-insert.false in
    subst (λ s. IsAdded s.widths s.nodes c.args.node true c.push.new.self.items) c.self.view_is (
      c.in-Ok.ensures.items,
      omega (arith, room, ap (λ xs. length xs) new.3, ap (λ xs. length xs) c.in-Ok.ensures.items, length-append v.ids (new.0 ∷ []), length-append c.self.inside.nodes.items (c.args.node ∷ []), c.self.invariant.1),
    )
