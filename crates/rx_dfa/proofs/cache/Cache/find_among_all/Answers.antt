use Rattle.std.proofs.Common.{inl, inr, ◌≡◌, length, Some, slice_get, ap, subst, arith, vec_len}
use Rattle.std.proofs.lemmas.Grind.{common_steps}
use Rattle.std.proofs.lemmas.Option.{slice_get_within}
use Rattle.rx_dfa.specs.Caches.{CacheView}
use Rattle.rx_dfa.proofs.ClassLaws.{same_or_not}
use Rattle.rx_dfa.proofs.cache.Cache.find_among_all.Goals as goal

pub loop-number-preserved : goal.loop-number-preserved
loop-number-preserved c = λ k x lt at same. elim (same_or_not k c.loop-number.number) [
  | inl e ↦ c.is_at.ensures.differs c.if-is_at.false x (subst (λ j. slice_get c.args.self.now.states j ≡ Some x) e at) same
  | inr other ↦ c.loop-number.invariant k x (omega (arith, lt, other)) at same
]

pub returns-clause-none : goal.returns-clause-none
returns-clause-none c = λ e k x stands same.
    let states = c.self.inside.states in
    let long : vec_len states ≡ length states.items = grind (arith, common_steps) in
    let lt = slice_get_within c.args.self.now.states k x stands in
    c.loop-number.invariant k x (omega (arith, lt, c.loop-number-test.false, long, ap (λ (v : CacheView). length v.states) c.self.view_is, c.len-number-end.ensures)) stands same
