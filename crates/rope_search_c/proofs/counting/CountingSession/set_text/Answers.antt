use Rattle.std.proofs.Common.{refl}
use Rattle.rope_search.specs.declared.commands.CommandOf.TheVariants.{Text}
use Rattle.rope_search_c.proofs.counting.CountingSession.set_text.Goals as goal

pub returns : goal.returns
returns c = record {
  answer = c.apply.result;
  carries = c.apply.ensures (Text c.args.text.now) refl;
  told = c.status_of.ensures;
}
