use Rattle.std.proofs.Common.{◌<◌, sym, subst}
use Rattle.ropey.specs.Slices.{slice_text}
use Rattle.rope_search_reports.specs.Text.{line_count}
use Rattle.rope_search_reports.specs.Drafts.{WalkState}
use Rattle.rope_search_reports.proofs.WalkLemmas.{starts-between}
use Rattle.rope_search_reports.proofs.walk.Walk.show.Goals as goal

pub chunk_from-self-inside-requires : goal.chunk_from-self-inside-requires
chunk_from-self-inside-requires c =
    let below = subst (λ (w : WalkState). w.line < line_count w.text) (sym c.self.view_is) c.requires in
    let start = c.self.invariant.starts below in
    starts-between (slice_text c.self.inside.text) start.before start.behind c.self.inside.byte_idx c.self.invariant.text_is start.parts start.place
