use Rattle.std.proofs.Common.{IfOk, IfErr, subst}
use Rattle.rx_engine.specs.Engines.{Wanted, IsBuiltOf, IsRefused}
use Rattle.rx_engine.proofs.compiled.Compiled.new.Goals as goal

pub returns-clause-built : goal.returns-clause-built
returns-clause-built c = subst (λ (w : Wanted). IfOk c.build.result (λ vm. IsBuiltOf c.args.pattern.now w vm)) c.new.ensures c.build.ensures.built

pub returns-clause-refused : goal.returns-clause-refused
returns-clause-refused c = subst (λ (w : Wanted). IfErr c.build.result (λ error. IsRefused c.args.pattern.now w error)) c.new.ensures c.build.ensures.refused
