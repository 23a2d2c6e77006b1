use Rattle.rope_search.specs.declared.commands.CommandOf.TheVariants.{Undo}
use Rattle.rope_search_c.proofs.counting.CountingSession.undo.Goals as goal

pub returns : goal.returns
returns c = record {
  answer = c.apply.result;
  carries = c.apply.ensures Undo tt;
  told = c.status_of.ensures;
}
