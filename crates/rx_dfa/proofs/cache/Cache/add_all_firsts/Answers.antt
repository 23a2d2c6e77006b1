use Rattle.rx_dfa.proofs.DenseLaws.{starts_three}
use Rattle.rx_dfa.proofs.cache.Cache.add_all_firsts.Goals as goal

pub returns-clause-starts : goal.returns-clause-starts
returns-clause-starts c = starts_three c.add_first.new.self.states c.add_first-2.new.self.states c.add_first-3.new.self.states c.args.start c.args.side c.in_ok-add_first-2.ensures.kept c.in_ok-add_first-3.ensures.kept c.in_ok-add_first.ensures.first c.in_ok-add_first-2.ensures.first c.in_ok-add_first-3.ensures.first

pub returns-clause-kept : goal.returns-clause-kept
returns-clause-kept c = λ number x e. c.in_ok-add_first-3.ensures.kept number x (c.in_ok-add_first-2.ensures.kept number x (c.in_ok-add_first.ensures.kept number x e))
