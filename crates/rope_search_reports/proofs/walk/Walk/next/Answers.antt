use Rattle.std.proofs.Common.{◌≡◌, chars, sym, ap, subst, ◌∙◌, arith}
use Rattle.str_indices.specs.Text.{byte_len, units}
use Rattle.ropey.specs.Slices.{slice_text}
use Rattle.rope_search_reports.specs.Position.{line_text}
use Rattle.rope_search_reports.specs.Drafts.{IsWalk, WalkState}
use Rattle.rope_search_reports.proofs.OwnLemmas.{narrow-line}
use Rattle.rope_search_reports.proofs.WalkLemmas.{from-start, next-line, shown-next}
use Rattle.rope_search_reports.proofs.walk.Walk.next.Goals as goal

pub overflow_add-self : goal.overflow_add-self
overflow_add-self c =
    let below = shown-next _ c.show.new.self c.args.self.now c.self.view_is c.show.ensures.text c.show.ensures.line c.requires in
    omega (arith, below, c.self.invariant.fits)

pub overflow_add-self-2 : goal.overflow_add-self-2
overflow_add-self-2 c =
    let below = shown-next _ c.show.new.self c.args.self.now c.self.view_is c.show.ensures.text c.show.ensures.line c.requires in
    let n = next-line _ _ _ _ _ _ c.self.invariant below c.in-Some.ensures.first in
    let near = n.walk.near in
    omega (arith, near, c.self.invariant.bytes_fit)

pub invariant_of-self : goal.invariant_of-self
invariant_of-self c =
    let below = shown-next _ c.show.new.self c.args.self.now c.self.view_is c.show.ensures.text c.show.ensures.line c.requires in
    subst (IsWalk (slice_text c.self.inside.text) _ _) (sym c.range_from-self-inside.ensures.value)
    (next-line _ _ _ _ _ _ c.self.invariant below c.in-Some.ensures.first).walk

pub line_in_chunk-line-requires-clause-narrow : goal.line_in_chunk-line-requires-clause-narrow
line_in_chunk-line-requires-clause-narrow c = λ narrow.
    let below = shown-next _ c.show.new.self c.args.self.now c.self.view_is c.show.ensures.text c.show.ensures.line c.requires in
    let own = ap chars (c.range.ensures.value ∙ from-start c.self.inside.rest.now c.in-Some.found.start) ∙ (next-line _ _ _ _ _ _ c.self.invariant below c.in-Some.ensures.first).own in
    subst (λ t. units t ≡ byte_len t) (sym own) (narrow-line (slice_text c.self.inside.text) c.self.inside.line_idx below narrow)

pub returns-clause-own : goal.returns-clause-own
returns-clause-own c =
    let below = shown-next _ c.show.new.self c.args.self.now c.self.view_is c.show.ensures.text c.show.ensures.line c.requires in
    c.line_in_chunk-line.ensures.own
    ∙ ap chars (c.range.ensures.value ∙ from-start c.self.inside.rest.now c.in-Some.found.start) ∙ (next-line _ _ _ _ _ _ c.self.invariant below c.in-Some.ensures.first).own
    ∙ ap (λ (w : WalkState). line_text w.text w.line) c.self.view_is ∙ ap (λ t. line_text t c.show.new.self.line) c.show.ensures.text ∙ ap (line_text c.args.self.now.text) c.show.ensures.line
