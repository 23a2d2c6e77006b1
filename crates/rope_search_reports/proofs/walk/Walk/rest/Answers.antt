use Rattle.std.proofs.Common.{◌+◌, ◌<◌, subst}
use Rattle.str_indices.specs.Text.{breaks}
use Rattle.ropey.specs.Chunks.{is_break}
use Rattle.rope_search_reports.specs.Text.{line_count}
use Rattle.rope_search_reports.specs.Drafts.{ShowsLines, WalkState}
use Rattle.rope_search_reports.proofs.WalkLemmas.{rest-few, shows-lines}
use Rattle.rope_search_reports.proofs.walk.Walk.rest.Goals as goal

pub returns-clause-lines : goal.returns-clause-lines
returns-clause-lines c = subst ShowsLines c.self.view_is (shows-lines _ _ _ _ c.self.invariant)

pub returns-clause-few : goal.returns-clause-few
returns-clause-few c =
    subst (λ (w : WalkState). w.line < line_count w.text → w.line + breaks is_break w.rest < line_count w.text) c.self.view_is (rest-few _ _ _ _ c.self.invariant)
