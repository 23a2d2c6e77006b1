use Rattle.std.proofs.Common.{◌==◌, Some, sym, subst}
use Rattle.std.specs.HashMap.{Updates}
use Rattle.rx_dfa.specs.Caches.{AreNumbered}
use Rattle.rx_dfa.proofs.StateLaws.{numbered_more, on_not_err}
use Rattle.rx_dfa.proofs.cache.Cache.push_state.Goals as goal

pub invariant_of-self-2 : goal.invariant_of-self-2
invariant_of-self-2 c =
    let before = c.self.inside.numbers in
    let after = c.insert.new.self in
    let noted = on_not_err c.insert.result c.is_err.result c.is_err.ensures.value c.if-is_err.false c.insert.ensures.updates in
    subst (λ xs. AreNumbered xs after) (sym c.in_ok-push.ensures.items)
    (numbered_more c.self.inside.states.items c.args.state before after c.len.result (subst (λ h. Updates ◌==◌ before after h (Some c.len.result)) c.hash.ensures noted) c.self.invariant)
