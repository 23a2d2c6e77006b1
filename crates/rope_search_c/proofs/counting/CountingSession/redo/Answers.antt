use Rattle.rope_search.specs.declared.commands.CommandOf.TheVariants.{Redo}
use Rattle.rope_search_c.proofs.counting.CountingSession.redo.Goals as goal

pub returns : goal.returns
returns c = record {
  answer = c.apply.result;
  carries = c.apply.ensures Redo tt;
  told = c.status_of.ensures;
}
