use Rattle.std.proofs.Common.{ap, ◌∙◌}
use Rattle.rx_program.specs.declared.error.BuildError.TheVariants as build
use Rattle.rx_engine.proofs.BuildLaws.{other_refusal}
use Rattle.rx_engine.proofs.builder.refusal.Goals as goal

pub returns-in_default : goal.returns-in_default
returns-in_default c = ap (λ k. build.Syntax k c.args.error) c.new.ensures ∙ other_refusal c.args.number c.args.error c.in_default.not-Memory
