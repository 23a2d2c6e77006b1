use Rattle.std.proofs.Common.{subst}
use Rattle.rx_engine.specs.Engines.{IsEngine}
use Rattle.rx_engine.proofs.CountLaws.{as_many}
use Rattle.rx_engine.proofs.compiled.Compiled.group_info.Goals as goal

pub returns-clause-engine : goal.returns-clause-engine
returns-clause-engine c = subst (λ e. IsEngine e) c.self.view_is c.self.invariant

pub returns-clause-patterns : goal.returns-clause-patterns
returns-clause-patterns c = as_many _ (subst (λ e. IsEngine e) c.self.view_is c.self.invariant)
