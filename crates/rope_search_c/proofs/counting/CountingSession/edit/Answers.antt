use Rattle.std.proofs.Common.{refl}
use Rattle.rope_search.specs.declared.commands.CommandOf.TheVariants.{Edit}
use Rattle.rope_search_c.proofs.counting.CountingSession.edit.Goals as goal

pub returns : goal.returns
returns c = record {
  answer = c.apply.result;
  carries = c.apply.ensures (Edit c.args.from c.args.to c.args.text.now) (refl, refl, refl);
  told = c.status_of.ensures;
}
