use Rattle.std.proofs.Common.{refl}
use Rattle.rope_search.specs.declared.commands.CommandOf.TheVariants.{Use}
use Rattle.rope_search_c.proofs.counting.CountingSession.choose.Goals as goal

pub returns : goal.returns
returns c = record {
  answer = c.apply.result;
  carries = c.apply.ensures (Use c.args.number) refl;
  told = c.status_of.ensures;
}
