use Rattle.std.proofs.Common.{refl}
use Rattle.rope_search.specs.declared.commands.CommandOf.TheVariants.{Pattern}
use Rattle.rope_search_c.proofs.counting.CountingSession.set_pattern.Goals as goal

pub returns : goal.returns
returns c = record {
  answer = c.apply.result;
  carries = c.apply.ensures (Pattern c.args.pattern.now) refl;
  told = c.status_of.ensures;
}
