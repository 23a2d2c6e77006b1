use Rattle.rx_chunk.proofs.EngineLaws.{if_ok}
use Rattle.regex_cursor.specs.Configs.{engine_wanted}
use Rattle.regex_cursor.proofs.BuildLaws.{if_err, refused_alone, regex_alone}
use Rattle.regex_cursor.proofs.engines.meta.builder.Builder.build.Goals as goal

pub returns-clause-built : goal.returns-clause-built
returns-clause-built c = if_ok c.build_many.result (λ re is. regex_alone c.args.pattern.now c.args.self.now re is) c.build_many.ensures.built

pub returns-clause-refused : goal.returns-clause-refused
returns-clause-refused c = if_err c.build_many.result (λ error is. refused_alone c.args.pattern.now (engine_wanted c.args.self.now) error is) c.build_many.ensures.refused
