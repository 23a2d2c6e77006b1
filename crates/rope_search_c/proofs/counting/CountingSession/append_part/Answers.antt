use Rattle.std.proofs.Common.{refl, ap, ◌∙◌}
use Rattle.rope_search_c.specs.Calls.{status_of}
use Rattle.rope_search_c.proofs.TextPartLemmas.{appends_none, appends_some}
use Rattle.rope_search_c.proofs.counting.CountingSession.append_part.Goals as goal

pub returns-in_default : goal.returns-in_default
returns-in_default c = appends_none _ c.args.part.now c.in_default.is

pub returns : goal.returns
returns c =
    appends_some _ _ c.args.part.now _ c.in-Some.text c.append_within.new.self c.in-Some.is refl refl refl (rw c.limits-limit.ensures at c.append_within.ensures)
    (c.status_of.ensures ∙ ap status_of c.check.ensures)
