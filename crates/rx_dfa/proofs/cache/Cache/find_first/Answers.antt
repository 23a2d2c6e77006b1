use Rattle.std.proofs.Common.{inl, inr, ◌≡◌, length, Some, slice_get, ap, subst, arith, vec_len}
use Rattle.std.proofs.lemmas.Grind.{common_steps}
use Rattle.std.proofs.lemmas.Option.{slice_get_within}
use Rattle.rx_dfa.specs.Caches.{CacheView}
use Rattle.rx_dfa.proofs.ClassLaws.{same_or_not}
use Rattle.rx_dfa.proofs.TableLaws.{there_is}
use Rattle.rx_dfa.proofs.cache.Cache.find_first.Goals as goal

pub returns-then-is_first_at-clause-some : goal.returns-then-is_first_at-clause-some
returns-then-is_first_at-clause-some c =
    let states = c.self.inside.states in
    let long : vec_len states ≡ length states.items = grind (arith, common_steps) in
    let here = there_is c.args.self.now.states c.loop-number.number (omega (arith, c.loop-number-test.true, long, ap (λ (v : CacheView). length v.states) c.self.view_is, c.len-number-end.ensures)) in
    record { state = here.0; stands = here.1; first = c.is_first_at.ensures.yes c.if-is_first_at.true here.0 here.1 }

pub loop-number-preserved : goal.loop-number-preserved
loop-number-preserved c = λ k x lt at first. elim (same_or_not k c.loop-number.number) [
  | inl e ↦ c.is_first_at.ensures.no c.if-is_first_at.false x (subst (λ j. slice_get c.args.self.now.states j ≡ Some x) e at) first
  | inr other ↦ c.loop-number.invariant k x (omega (arith, lt, other)) at first
]

pub returns-clause-none : goal.returns-clause-none
returns-clause-none c = λ e has.
    let states = c.self.inside.states in
    let long : vec_len states ≡ length states.items = grind (arith, common_steps) in
    let lt = slice_get_within c.args.self.now.states has.0 has.1.state has.1.stands in
    c.loop-number.invariant has.0 has.1.state (omega (arith, lt, c.loop-number-test.false, long, ap (λ (v : CacheView). length v.states) c.self.view_is, c.len-number-end.ensures)) has.1.stands has.1.first
