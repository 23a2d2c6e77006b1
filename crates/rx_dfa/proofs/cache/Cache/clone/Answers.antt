use Rattle.std.proofs.Common.{subst}
use Rattle.rx_dfa.specs.Caches.{AreNumbered}
use Rattle.rx_dfa.proofs.cache.Cache.clone.Goals as goal

pub invariant_of-result : goal.invariant_of-result
invariant_of-result c = subst (λ xs. AreNumbered xs c.in_ok-numbers.numbers) c.deref-2.ensures.value c.in_ok-numbers.ensures
