use Rattle.std.proofs.Common.{refl}
use Rattle.rope_search.specs.declared.commands.CommandOf.TheVariants.{Replace}
use Rattle.rope_search_c.proofs.counting.CountingSession.replace.Goals as goal

pub returns : goal.returns
returns c = record {
  answer = c.apply-answer.result;
  carries = c.apply-answer.ensures (Replace c.args.template.now) refl;
  told = c.status_of.ensures;
  numbered = c.number_of.ensures;
}
