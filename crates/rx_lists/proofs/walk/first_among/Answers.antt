use Rattle.std.proofs.Common.{◌≡◌, Some, slice_get, true, sym, ap, subst, ◌∙◌, arith, inl, inr}
use Rattle.std.proofs.lemmas.Bool.{cases_lt}
use Rattle.std.proofs.lemmas.Option.{slice_get_within}
use Rattle.rx_steps.specs.Threads.{Thread}
use Rattle.rx_lists.specs.Bits.{HasNode}
use Rattle.rx_lists.proofs.WayLaws.{some_and}
use Rattle.rx_lists.proofs.walk.first_among.Goals as goal

same_thread : (t u : Thread) → Some t ≡ Some u → t ≡ u
same_thread t u e = cc e

pub returns-then-has : goal.returns-then-has
returns-then-has c =
    let threads = c.args.threads.now.threads in
    let t = some_and (λ x. c.node.result ≡ x.1) (slice_get threads c.loop-number.number) c.node.ensures in
    (t.0, t.1, subst (λ q. HasNode c.args.index.now c.args.set.now q) t.2 (c.has.ensures.0 c.if-has.true), λ k u below get there. c.loop-number.invariant k u below get there)

pub loop-number-preserved : goal.loop-number-preserved
loop-number-preserved c = λ k t below get there.
    let threads = c.args.threads.now.threads in
    let u = some_and (λ x. c.node.result ≡ x.1) (slice_get threads c.loop-number.number) c.node.ensures in
    elim (cases_lt k c.loop-number.number) [
      | inl before ↦ c.loop-number.invariant k t before get there
      | inr on ↦
          let here : k ≡ c.loop-number.number = omega (arith, below, on) in
          let same : u.0 ≡ t = same_thread u.0 t (sym u.1 ∙ ap (λ j. slice_get threads j) (sym here) ∙ get) in
          let yes' : c.has.result ≡ true = c.has.ensures.1 (subst (λ q. HasNode c.args.index.now c.args.set.now q) (ap (λ x. x.1) (sym same) ∙ sym u.2) there) in
          cc (yes', c.if-has.false)
    ]

pub returns : goal.returns
returns c = λ k t get there. c.loop-number.invariant k t (omega (arith, slice_get_within c.args.threads.now.threads k t get, c.loop-number-test.false, c.len-number-end.ensures)) get there
