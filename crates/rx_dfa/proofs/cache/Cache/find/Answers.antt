use Rattle.std.proofs.Common.{◌==◌, slice_get, sym, ap, ◌∙◌}
use Rattle.std.specs.HashMap.{get}
use Rattle.rx_dfa.specs.Caches.{CacheView}
use Rattle.rx_dfa.proofs.StateLaws.{unnumbered_new}
use Rattle.rx_dfa.proofs.cache.Cache.find.Goals as goal

pub returns-in_err-number-clause-none : goal.returns-in_err-number-clause-none
returns-in_err-number-clause-none c = λ told number y stands same.
    let numbers = c.self.inside.numbers in
    unnumbered_new c.self.inside.states.items numbers c.args.state.now c.self.invariant
    (sym (ap (λ h. get ◌==◌ numbers h) c.hash.ensures) ∙ sym c.in_err-number.ensures.value)
    number y (ap (λ (v : CacheView). slice_get v.states number) c.self.view_is ∙ stands) same
