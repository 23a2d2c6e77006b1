use Rattle.std.proofs.Common.{◌≡◌, Some, slice_get, sym, subst}
use Rattle.rx_dfa.specs.Caches.{CacheView, HasFirst}
use Rattle.rx_dfa.proofs.TableLaws.{found_first}
use Rattle.rx_dfa.proofs.cache.Cache.add_first.Goals as goal

pub returns-clause-first : goal.returns-clause-first
returns-clause-first c =
    let number = c.in_ok-number.number in
    (number, subst (λ (v : CacheView). HasFirst v.states c.args.starting c.args.side number) (sym c.keep_first.ensures) (found_first c.found_or_added.new.self.states c.args.starting c.args.side c.first-state.result number c.first-state.ensures c.in_ok-number.ensures.number))

pub returns-clause-kept : goal.returns-clause-kept
returns-clause-kept c = λ number x e. subst (λ (v : CacheView). slice_get v.states number ≡ Some x) (sym c.keep_first.ensures) (c.in_ok-number.ensures.grows.numbers number x e)
