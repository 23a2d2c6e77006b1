use Rattle.std.proofs.Common.{◌<◌, sym, subst}
use Rattle.rope_search_reports.specs.Drafts.{WalkState}
use Rattle.rope_search_reports.specs.Text.{line_count}
use Rattle.rope_search_reports.proofs.KeptLemmas.{teller-of-walk}
use Rattle.rope_search_reports.proofs.walk.Walk.teller.Goals as goal

pub with_rest-requires : goal.with_rest-requires
with_rest-requires c = teller-of-walk _ _ _ _ c.self.invariant (subst (λ (w : WalkState). w.line < line_count w.text) (sym c.self.view_is) c.requires)
