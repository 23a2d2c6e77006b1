use Rattle.std.proofs.Common.{IfOk, IfErr, map, subst}
use Rattle.rx_engine.specs.Engines.{Wanted, IsBuiltOfAll, IsRefusedOfAll}
use Rattle.rx_engine.proofs.compiled.Compiled.new_many.Goals as goal

pub returns-clause-built : goal.returns-clause-built
returns-clause-built c = subst (λ (w : Wanted). IfOk c.build_many.result (λ vm. IsBuiltOfAll (map (λ text. text.now) c.args.patterns.now) w vm)) c.new.ensures c.build_many.ensures.built

pub returns-clause-refused : goal.returns-clause-refused
returns-clause-refused c = subst (λ (w : Wanted). IfErr c.build_many.result (λ error. IsRefusedOfAll (map (λ text. text.now) c.args.patterns.now) w error)) c.new.ensures c.build_many.ensures.refused
