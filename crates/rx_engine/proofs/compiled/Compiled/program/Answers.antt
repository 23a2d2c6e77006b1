use Rattle.std.proofs.Common.{subst}
use Rattle.rx_engine.specs.Engines.{IsEngine}
use Rattle.rx_engine.proofs.compiled.Compiled.program.Goals as goal

pub returns-clause-engine : goal.returns-clause-engine
returns-clause-engine c = subst (λ e. IsEngine e) c.self.view_is c.self.invariant
