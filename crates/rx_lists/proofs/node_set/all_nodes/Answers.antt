use Rattle.std.proofs.Common.{◌≡◌, ◌-◌, ◌<◌, Some, length, slice_get, Contains, inl, inr, sym, subst, ◌∙◌, arith}
use Rattle.std.proofs.lemmas.Bool.{cases_lt}
use Rattle.std.proofs.lemmas.Option.{get_or_from_slice_get, slice_get_within}
use Rattle.rx_steps.specs.Nodes.{width_of}
use Rattle.rx_lists.proofs.node_set.all_nodes.Goals as goal

pub loop-done-preserved : goal.loop-done-preserved
loop-done-preserved c = λ q s x at within below.
    let states = c.states-states.result.now in
    let n = length states - 1 - c.loop-done.done in
    let new = c.push_nodes.new.nodes.items in
    elim (cases_lt n q) [
      | inl past ↦ c.in_ok-push_nodes.ensures.others (q, s) (c.loop-done.invariant q s x at (omega (arith, within, past, c.loop-done-test.true)) below)
      | inr on ↦
          let same : n ≡ q = omega (arith, within, on, slice_get_within states q x at, c.loop-done-test.true) in
          let y = c.index-states-number.result in
          let state : y ≡ x = c.index-states-number.is ∙ get_or_from_slice_get states n x y (subst (λ j. slice_get states j ≡ Some x) (sym same) at) in
          subst (λ j. Contains new (j, s)) (c.new.ensures ∙ same) (c.in_ok-push_nodes.ensures.these s (subst (λ z. s < width_of z) (sym state) below))
    ]

pub returns : goal.returns
returns c = λ q s x at below.
    c.loop-done.invariant q s x (subst (λ xs. slice_get xs q ≡ Some x) (sym c.states-states.ensures.states) at) (omega (arith, c.loop-done-test.false)) below
