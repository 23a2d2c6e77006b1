use Rattle.std.proofs.Common.{◌≡◌, length, slice_get, ap, ◌∙◌, arith, vec_len}
use Rattle.std.proofs.lemmas.Grind.{common_steps}
use Rattle.rx_dfa.specs.Automata.{directed}
use Rattle.rx_dfa.specs.Caches.{CacheView}
use Rattle.rx_dfa.proofs.TableLaws.{cache_more, kept_more, stands_last}
use Rattle.rx_dfa.proofs.cache.Cache.add.Goals as goal

pub returns-in-Ok-clause-made : goal.returns-in-Ok-clause-made
returns-in-Ok-clause-made c =
    let push = c.push_state.ensures in
    cache_more (directed c.args.automaton.now) c.args.automaton.now.alphabet.now c.args.self.now _ c.args.state c.requires.made c.requires.state c.requires.is_new
    (ap (λ (v : CacheView). v.table) c.self-in-Ok.view_is ∙ c.in-Ok.ensures.table) (ap (λ (v : CacheView). v.states) c.self-in-Ok.view_is ∙ c.in-Ok.ensures.states)
    (ap (λ (v : CacheView). v.widths) c.self-in-Ok.view_is ∙ push.widths) (ap (λ (v : CacheView). v.width) c.self-in-Ok.view_is ∙ push.width) c.used_with-used.ensures

pub returns-in-Ok-clause-number : goal.returns-in-Ok-clause-number
returns-in-Ok-clause-number c =
    let states = c.self.inside.states in
    let long : vec_len states ≡ length states.items = grind (arith, common_steps) in
    let number : c.len-number.result ≡ length c.args.self.now.states = c.len-number.ensures ∙ long ∙ ap (λ (v : CacheView). length v.states) c.self.view_is in
    ap (λ (v : CacheView). slice_get v.states c.len-number.result) c.self-in-Ok.view_is
    ∙ stands_last c.args.self.now.states c.push_state.new.self.states c.args.state c.len-number.result c.in-Ok.ensures.states number

pub returns-in-Ok-clause-kept : goal.returns-in-Ok-clause-kept
returns-in-Ok-clause-kept c = λ number x e.
    ap (λ (v : CacheView). slice_get v.states number) c.self-in-Ok.view_is ∙ kept_more c.args.self.now.states c.push_state.new.self.states c.args.state c.in-Ok.ensures.states number x e

pub returns-in-Ok-clause-last : goal.returns-in-Ok-clause-last
returns-in-Ok-clause-last c =
    let states = c.self.inside.states in
    let long : vec_len states ≡ length states.items = grind (arith, common_steps) in
    c.len-number.ensures ∙ long ∙ ap (λ (v : CacheView). length v.states) c.self.view_is
