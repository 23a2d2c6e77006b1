use Rattle.std.proofs.Common.{refl}
use Rattle.rope_search.specs.declared.commands.CommandOf.TheVariants.{Next}
use Rattle.rope_search_c.proofs.counting.CountingSession.next.Goals as goal

pub returns : goal.returns
returns c = record {
  answer = c.apply-answer.result;
  carries = c.apply-answer.ensures (Next c.args.from) refl;
  told = c.status_of.ensures;
  tells = c.match_of.ensures;
}
