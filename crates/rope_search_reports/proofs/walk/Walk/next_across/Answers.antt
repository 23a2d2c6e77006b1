use Rattle.std.proofs.Common.{◌≡◌, ◌+◌, ◌<◌, ◌≤◌, length, sym, ap, subst, ◌∙◌, arith, chars}
use Rattle.str_indices.specs.Text.{breaks, byte_len}
use Rattle.ropey.specs.Chunks.{is_break}
use Rattle.ropey.specs.Slices.{slice_text}
use Rattle.rope_search_reports.specs.Text.{line_count}
use Rattle.rope_search_reports.specs.Position.{line_text}
use Rattle.rope_search_reports.specs.Drafts.{IsWalk, WalkState}
use Rattle.rope_search_reports.proofs.CrossLemmas.{crosses-to, crossing-text, rest-ends}
use Rattle.rope_search_reports.proofs.walk.Walk.next_across.Goals as goal

pub chunk_from-chunk-requires : goal.chunk_from-chunk-requires
chunk_from-chunk-requires c =
    let below = subst (λ (w : WalkState). w.line < line_count w.text) (sym c.self.view_is) c.requires.below in
    (rest-ends (slice_text c.self.inside.text) c.self.inside.line_idx c.self.inside.byte_idx c.self.inside.rest.now c.self.invariant below).0

pub overflow_add-behind-2 : goal.overflow_add-behind-2
overflow_add-behind-2 c =
    let below = subst (λ (w : WalkState). w.line < line_count w.text) (sym c.self.view_is) c.requires.below in
    let none : breaks is_break (chars c.self.inside.rest.now) ≡ 0 = ap (λ (w : WalkState). breaks is_break w.rest) c.self.view_is ∙ c.requires.goes_on in
    let h = crosses-to (slice_text c.self.inside.text) c.self.inside.line_idx c.self.inside.byte_idx c.self.inside.rest.now c.chunk_from-chunk.result.now c.self.invariant below none
    c.chunk_from-chunk.ensures.utf8 c.chunk_from-chunk.ensures.rest c.in-Some.found.start c.in-Some.found.end c.in-Some.ensures.first in
    let within : c.self.inside.byte_idx + length c.self.inside.rest.now + c.in-Some.found.start ≤ byte_len (slice_text c.self.inside.text) = h.stops.0 in
    omega (arith, within, c.self.invariant.bytes_fit)

pub byte_slice-line-requires : goal.byte_slice-line-requires
byte_slice-line-requires c =
    let below = subst (λ (w : WalkState). w.line < line_count w.text) (sym c.self.view_is) c.requires.below in
    let none : breaks is_break (chars c.self.inside.rest.now) ≡ 0 = ap (λ (w : WalkState). breaks is_break w.rest) c.self.view_is ∙ c.requires.goes_on in
    let h = crosses-to (slice_text c.self.inside.text) c.self.inside.line_idx c.self.inside.byte_idx c.self.inside.rest.now c.chunk_from-chunk.result.now c.self.invariant below none
    c.chunk_from-chunk.ensures.utf8 c.chunk_from-chunk.ensures.rest c.in-Some.found.start c.in-Some.found.end c.in-Some.ensures.first in
    record { range = record { order = omega arith; within = h.stops.0 }; starts = h.starts; stops = h.stops }

pub overflow_add-self-2 : goal.overflow_add-self-2
overflow_add-self-2 c =
    let below = subst (λ (w : WalkState). w.line < line_count w.text) (sym c.self.view_is) c.requires.below in
    let none : breaks is_break (chars c.self.inside.rest.now) ≡ 0 = ap (λ (w : WalkState). breaks is_break w.rest) c.self.view_is ∙ c.requires.goes_on in
    let h = crosses-to (slice_text c.self.inside.text) c.self.inside.line_idx c.self.inside.byte_idx c.self.inside.rest.now c.chunk_from-chunk.result.now c.self.invariant below none
    c.chunk_from-chunk.ensures.utf8 c.chunk_from-chunk.ensures.rest c.in-Some.found.start c.in-Some.found.end c.in-Some.ensures.first in
    let walk = h.walk in
    omega (arith, walk.near, c.self.invariant.bytes_fit)

pub invariant_of-self : goal.invariant_of-self
invariant_of-self c =
    let below = subst (λ (w : WalkState). w.line < line_count w.text) (sym c.self.view_is) c.requires.below in
    let none : breaks is_break (chars c.self.inside.rest.now) ≡ 0 = ap (λ (w : WalkState). breaks is_break w.rest) c.self.view_is ∙ c.requires.goes_on in
    let h = crosses-to (slice_text c.self.inside.text) c.self.inside.line_idx c.self.inside.byte_idx c.self.inside.rest.now c.chunk_from-chunk.result.now c.self.invariant below none
    c.chunk_from-chunk.ensures.utf8 c.chunk_from-chunk.ensures.rest c.in-Some.found.start c.in-Some.found.end c.in-Some.ensures.first in
    subst (IsWalk (slice_text c.self.inside.text) _ _) (sym c.range_from-self-inside.ensures.value) h.walk

pub returns-clause-own : goal.returns-clause-own
returns-clause-own c =
    let below = subst (λ (w : WalkState). w.line < line_count w.text) (sym c.self.view_is) c.requires.below in
    let none : breaks is_break (chars c.self.inside.rest.now) ≡ 0 = ap (λ (w : WalkState). breaks is_break w.rest) c.self.view_is ∙ c.requires.goes_on in
    let h = crosses-to (slice_text c.self.inside.text) c.self.inside.line_idx c.self.inside.byte_idx c.self.inside.rest.now c.chunk_from-chunk.result.now c.self.invariant below none
    c.chunk_from-chunk.ensures.utf8 c.chunk_from-chunk.ensures.rest c.in-Some.found.start c.in-Some.found.end c.in-Some.ensures.first in
    (crossing-text (slice_text c.self.inside.text) c.self.inside.line_idx c.self.inside.byte_idx c.self.inside.rest.now c.chunk_from-chunk.result.now
    c.in-Some.found.start c.in-Some.found.end (slice_text c.byte_slice-line.result) h c.byte_slice-line.ensures.bytes).0
    ∙ ap (λ (w : WalkState). line_text w.text w.line) c.self.view_is

pub returns-clause-holds : goal.returns-clause-holds
returns-clause-holds c =
    let below = subst (λ (w : WalkState). w.line < line_count w.text) (sym c.self.view_is) c.requires.below in
    let none : breaks is_break (chars c.self.inside.rest.now) ≡ 0 = ap (λ (w : WalkState). breaks is_break w.rest) c.self.view_is ∙ c.requires.goes_on in
    let h = crosses-to (slice_text c.self.inside.text) c.self.inside.line_idx c.self.inside.byte_idx c.self.inside.rest.now c.chunk_from-chunk.result.now c.self.invariant below none
    c.chunk_from-chunk.ensures.utf8 c.chunk_from-chunk.ensures.rest c.in-Some.found.start c.in-Some.found.end c.in-Some.ensures.first in
    (crossing-text (slice_text c.self.inside.text) c.self.inside.line_idx c.self.inside.byte_idx c.self.inside.rest.now c.chunk_from-chunk.result.now
    c.in-Some.found.start c.in-Some.found.end (slice_text c.byte_slice-line.result) h c.byte_slice-line.ensures.bytes).1
