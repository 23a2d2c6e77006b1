use Rattle.std.proofs.Common.{◌<◌, sym, ap, subst, ◌∙◌, arith}
use Rattle.ropey.specs.Chunks.{text_of}
use Rattle.ropey.specs.Slices.{slice_pieces, slice_text}
use Rattle.rope_search_reports.specs.Text.{line_count}
use Rattle.rope_search_reports.specs.Position.{line_text}
use Rattle.rope_search_reports.specs.Drafts.{HasOwnText, WalkState}
use Rattle.rope_search_reports.proofs.PartLemmas.{line-is}
use Rattle.rope_search_reports.proofs.TextPlaces.{places}
use Rattle.rope_search_reports.proofs.walk.Walk.next_far.Goals as goal

pub overflow_add-self-inside : goal.overflow_add-self-inside
overflow_add-self-inside c =
    let below = subst (λ (w : WalkState). w.line < line_count w.text) (sym c.self.view_is) c.requires in
    omega (arith, below, c.self.invariant.fits)

pub returns-clause-own : goal.returns-clause-own
returns-clause-own c =
    let below = subst (λ (w : WalkState). w.line < line_count w.text) (sym c.self.view_is) c.requires in
    let own = line_text (slice_text c.self.inside.text) c.self.inside.line_idx in
    let is : HasOwnText (slice_text c.line.result) own =
    subst (λ ps. HasOwnText (text_of ps) own) (sym c.line.ensures) (line-is places (slice_pieces c.self.inside.text) c.self.inside.line_idx below) in
    c.of.ensures.text ∙ c.without_break-line.ensures own is ∙ ap (λ (w : WalkState). line_text w.text w.line) c.self.view_is
