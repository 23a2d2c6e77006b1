use Rattle.std.proofs.Common.{◌/◌, ap, subst, ◌∙◌}
use Rattle.rx_dfa.specs.Caches.{CacheView}
use Rattle.rx_dfa.specs.Passing.{IsNoted}
use Rattle.rx_dfa.proofs.PassLaws.{noted_last}
use Rattle.rx_dfa.proofs.cache.Cache.met_last.Goals as goal

pub returns-in-Some : goal.returns-in-Some
returns-in-Some c = λ last noted.
    let w = c.args.self.now.width in
    let end = c.in-Some.end in
    c.last_met.ensures ∙ noted_last w c.args.self.now.states end.row end.at (end.row / c.self.inside.width) c.end_before.result last c.args.met c.requires.width
    (ap (λ (v : CacheView). end.row / v.width) c.self.view_is) c.end_before.ensures (subst (λ e. IsNoted w c.args.self.now.states c.args.met e last) c.in-Some.is noted)
