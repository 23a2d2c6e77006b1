use Rattle.rope_search.specs.declared.commands.CommandOf.TheVariants.{Fork}
use Rattle.rope_search_c.proofs.counting.CountingSession.fork.Goals as goal

pub returns : goal.returns
returns c = record {
  answer = c.apply-answer.result;
  carries = c.apply-answer.ensures Fork tt;
  told = c.status_of.ensures;
  numbered = c.number_of.ensures;
}
