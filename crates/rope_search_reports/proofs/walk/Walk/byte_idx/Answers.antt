use Rattle.std.proofs.Common.{◌<◌, ap, sym, subst, ◌∙◌}
use Rattle.rope_search_reports.specs.Drafts.{WalkState}
use Rattle.rope_search_reports.specs.Position.{line_start}
use Rattle.rope_search_reports.specs.Text.{line_count}
use Rattle.rope_search_reports.proofs.walk.Walk.byte_idx.Goals as goal

pub returns : goal.returns
returns c =
    let below = subst (λ (w : WalkState). w.line < line_count w.text) (sym c.self.view_is) c.requires in
    (c.self.invariant.starts below).there ∙ ap (λ (w : WalkState). line_start w.text w.line) c.self.view_is
