use Rattle.std.proofs.Common.{◌≡◌, ◌+◌, ◌-◌, ◌/◌, ◌≤◌, get_or, true, false, refl, ap, inl, inr, arith}
use Rattle.std.proofs.lemmas.Bool.{cases_lt}
use Rattle.ropey_tree.specs.Counts.{amount}
use Rattle.ropey_tree.proofs.Halving.{few_left}
use Rattle.ropey_tree.proofs.running_totals.RunningTotals.find.Goals as goal

pub loop-left-preserved : goal.loop-left-preserved
loop-left-preserved c =
    let h = c.loop-left.invariant in
    let low = c.loop-left.low in
    let left = c.loop-left.left in
    let rest = left / 2 in
    let test = c.loop-left-test.true in
    let old = c.args.visits.now.comparisons in
    let n = c.loop-left.visits.comparisons - old in
    let few = few_left n left rest h.6 test (omega arith) in
    let counted : c.is_past.new.visits.comparisons - old ≡ n + 1 = omega (arith, h.4, c.is_past.ensures.compared) in (
      omega (arith, test, h.0),
      h.1,
      λ d. (low + (left - rest) - 1, omega (arith, test), omega (arith, test), omega (arith, test), inl ((c.if-not-is_past.ensures.past d).0 refl)),
      omega (arith, h.3, c.is_past.ensures.visited),
      omega (arith, h.4, c.is_past.ensures.compared),
      omega (arith, few.0, counted, h.4, c.is_past.ensures.compared),
      rw counted few.1,
      inr (omega (arith, h.4, c.is_past.ensures.compared)),
    )

pub loop-left-preserved-then-not-is_past : goal.loop-left-preserved-then-not-is_past
loop-left-preserved-then-not-is_past c =
    let h = c.loop-left.invariant in
    let low = c.loop-left.low in
    let left = c.loop-left.left in
    let rest = left / 2 in
    let test = c.loop-left-test.true in
    let old = c.args.visits.now.comparisons in
    let n = c.loop-left.visits.comparisons - old in
    let few = few_left n left rest h.6 test (omega arith) in
    let counted : c.is_past.new.visits.comparisons - old ≡ n + 1 = omega (arith, h.4, c.is_past.ensures.compared) in
    let not_past : (d : _) → amount c.args.by (get_or c.args.self.now (low + (left - rest) - 1) d) ≤ c.args.i = λ d.
    elim (cases_lt c.args.i (amount c.args.by (get_or c.args.self.now (low + (left - rest) - 1) d))) [
      | inl p ↦ absurd (let e : false ≡ true = (c.if-not-is_past.ensures.past d).1 p in cc)
      | inr p ↦ p
    ]
    in (
      omega (arith, test, h.0),
      λ d _. not_past d,
      λ d.
          let k = h.2 d in
          let behind : low + (left - rest) ≤ k.0 =
          elim (cases_lt k.0 (low + (left - rest))) [
            | inl p ↦
                let last : k.0 ≡ low + (left - rest) - 1 = omega (arith, p, k.3, test) in
                absurd (elim k.4 [
                  | inl q ↦ let same = ap (λ k. amount c.args.by (get_or c.args.self.now k d)) last in omega (arith, q, same, not_past d)
                  | inr e ↦ omega (arith, e, p, h.0, k.3)
                ])
            | inr p ↦ p
          ]
          in
          (k.0, behind, omega (arith, k.2), omega (arith, k.3), k.4),
      omega (arith, h.3, c.is_past.ensures.visited),
      omega (arith, h.4, c.is_past.ensures.compared),
      omega (arith, few.0, counted, h.4, c.is_past.ensures.compared),
      rw counted few.1,
      inr (omega (arith, h.4, c.is_past.ensures.compared)),
    )

pub returns-clause-passed : goal.returns-clause-passed
returns-clause-passed c = λ d.
    let h = c.loop-left.invariant.2 d in
    let at : h.0 ≡ c.loop-left.low = omega (arith, h.1, h.2, c.loop-left-test.false) in
    rw at at h.4
