use Rattle.rx_engine.proofs.BuildLaws.{built_alone, refused_alone, if_ok, if_err}
use Rattle.rx_engine.proofs.builder.Builder.build.Goals as goal

pub returns-clause-built : goal.returns-clause-built
returns-clause-built c = if_ok c.build_many.result (λ e is. built_alone c.args.pattern.now c.args.self.now e is) c.build_many.ensures.built

pub returns-clause-refused : goal.returns-clause-refused
returns-clause-refused c = if_err c.build_many.result (λ error is. refused_alone c.args.pattern.now c.args.self.now error is) c.build_many.ensures.refused
