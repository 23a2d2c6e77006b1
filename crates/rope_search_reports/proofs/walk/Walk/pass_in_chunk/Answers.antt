use Rattle.std.proofs.Common.{◌≤◌, chars, length, sym, ap, subst, ◌∙◌, arith}
use Rattle.str_indices.specs.Text.{breaks, break_ends, byte_len, end_place}
use Rattle.ropey.specs.Chunks.{is_break}
use Rattle.ropey.specs.Slices.{slice_text}
use Rattle.rope_search_reports.specs.Drafts.{IsWalk, WalkState}
use Rattle.rope_search_reports.proofs.PlaceLemmas.{line_inside}
use Rattle.rope_search_reports.proofs.WalkLemmas.{length-chars, skip-walk}
use Rattle.rope_search_reports.proofs.walk.Walk.pass_in_chunk.Goals as goal

pub line_start_before-start-requires : goal.line_start_before-start-requires
line_start_before-start-requires c =
    omega (arith, c.requires.within, ap (λ (w : WalkState). byte_len w.rest) c.self.view_is, length-chars c.self.inside.rest.now c.self.invariant.utf8)

pub overflow_add-self : goal.overflow_add-self
overflow_add-self c =
    let own = c.self.inside.rest.now in
    let inside : c.from_byte_idx-count.result ≤ breaks is_break (chars own) = omega (arith, c.from_byte_idx-count.ensures, line_inside (chars own) c.args.place) in
    let skips = skip-walk _ _ _ own c.from_byte_idx-count.result c.line_start_before-start.result c.self.invariant inside
    (c.line_start_before-start.ensures ∙ ap (λ n. end_place (break_ends is_break (chars own)) n (length own)) (sym c.from_byte_idx-count.ensures)) in
    let walk = skips.walk in
    omega (arith, walk.within, c.self.invariant.fits)

pub overflow_add-self-2 : goal.overflow_add-self-2
overflow_add-self-2 c =
    let own = c.self.inside.rest.now in
    let inside : c.from_byte_idx-count.result ≤ breaks is_break (chars own) = omega (arith, c.from_byte_idx-count.ensures, line_inside (chars own) c.args.place) in
    let skips = skip-walk _ _ _ own c.from_byte_idx-count.result c.line_start_before-start.result c.self.invariant inside
    (c.line_start_before-start.ensures ∙ ap (λ n. end_place (break_ends is_break (chars own)) n (length own)) (sym c.from_byte_idx-count.ensures)) in
    let walk = skips.walk in
    omega (arith, walk.near, c.self.invariant.bytes_fit)

pub range_from-self-inside-requires : goal.range_from-self-inside-requires
range_from-self-inside-requires c = λ _.
    let own = c.self.inside.rest.now in
    let inside : c.from_byte_idx-count.result ≤ breaks is_break (chars own) = omega (arith, c.from_byte_idx-count.ensures, line_inside (chars own) c.args.place) in
    let skips = skip-walk _ _ _ own c.from_byte_idx-count.result c.line_start_before-start.result c.self.invariant inside
    (c.line_start_before-start.ensures ∙ ap (λ n. end_place (break_ends is_break (chars own)) n (length own)) (sym c.from_byte_idx-count.ensures)) in
    skips.boundary

pub invariant_of-self : goal.invariant_of-self
invariant_of-self c =
    let own = c.self.inside.rest.now in
    let inside : c.from_byte_idx-count.result ≤ breaks is_break (chars own) = omega (arith, c.from_byte_idx-count.ensures, line_inside (chars own) c.args.place) in
    let skips = skip-walk _ _ _ own c.from_byte_idx-count.result c.line_start_before-start.result c.self.invariant inside
    (c.line_start_before-start.ensures ∙ ap (λ n. end_place (break_ends is_break (chars own)) n (length own)) (sym c.from_byte_idx-count.ensures)) in
    subst (IsWalk (slice_text c.self.inside.text) _ _) (sym c.range_from-self-inside.ensures.value) skips.walk
