use Rattle.rope_search.specs.declared.commands.CommandOf.TheVariants.{Off}
use Rattle.rope_search_c.proofs.counting.CountingSession.off.Goals as goal

pub returns : goal.returns
returns c = record {
  answer = c.apply.result;
  carries = c.apply.ensures Off tt;
  told = c.status_of.ensures;
}
