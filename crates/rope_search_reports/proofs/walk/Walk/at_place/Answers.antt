use Rattle.std.proofs.Common.{◌+◌, ◌^◌, ◌<◌, chars, length, sym, ap, subst, ◌∙◌, arith}
use Rattle.str_indices.specs.Text.{break_ends, byte_len, end_place}
use Rattle.ropey.specs.Chunks.{is_break}
use Rattle.ropey.specs.Slices.{slice_pieces, slice_text}
use Rattle.rope_search_reports.specs.declared.line_start.LineStart.{LineStart}
use Rattle.rope_search_reports.specs.Drafts.{IsWalk}
use Rattle.rope_search_reports.proofs.ChunkColumns.{line-of-place, walk-in-chunk}
use Rattle.rope_search_reports.proofs.PlaceLemmas.{line_inside}
use Rattle.rope_search_reports.proofs.StartLemmas.{few-lines}
use Rattle.rope_search_reports.proofs.TellerLemmas.{reached-there}
use Rattle.rope_search_reports.proofs.walk.Walk.at_place.Goals as goal

pub overflow_sub-within : goal.overflow_sub-within
overflow_sub-within c =
    let e = c.chunk_at_byte-start.ensures in
    (reached-there (slice_pieces c.args.text) _ c.args.byte_idx _ _ _ e.utf8 e.chunk c.requires).0

pub at-requires : goal.at-requires
at-requires c =
    let e = c.chunk_at_byte-start.ensures in
    let line = line-of-place (slice_pieces c.args.text) _ c.args.byte_idx _ _ _ _ e.cut.cut e.utf8 (omega (arith, c.len_bytes.ensures.bytes, c.len_bytes.ensures.fits)) e.chunk c.requires c.from_byte_idx-count.ensures in
    omega (arith, line, line_inside (slice_text c.args.text) c.args.byte_idx)

pub returns-then-count-eq0-clause-line : goal.returns-then-count-eq0-clause-line
returns-then-count-eq0-clause-line c =
    let e = c.chunk_at_byte-start.ensures in
    let line = line-of-place (slice_pieces c.args.text) _ c.args.byte_idx _ _ _ _ e.cut.cut e.utf8 (omega (arith, c.len_bytes.ensures.bytes, c.len_bytes.ensures.fits)) e.chunk c.requires c.from_byte_idx-count.ensures in
    omega (arith, line, c.at.ensures.line, c.if-count-eq0.true)

pub line_start_before-at-requires : goal.line_start_before-at-requires
line_start_before-at-requires c =
    let e = c.chunk_at_byte-start.ensures in
    let high = (reached-there (slice_pieces c.args.text) _ c.args.byte_idx _ _ _ e.utf8 e.chunk c.requires).1 in
    omega (arith, high)

pub overflow_add-result : goal.overflow_add-result
overflow_add-result c =
    let e = c.chunk_at_byte-start.ensures in
    let line = line-of-place (slice_pieces c.args.text) _ c.args.byte_idx _ _ _ _ e.cut.cut e.utf8 (omega (arith, c.len_bytes.ensures.bytes, c.len_bytes.ensures.fits)) e.chunk c.requires c.from_byte_idx-count.ensures in
    omega (arith, line, line_inside (slice_text c.args.text) c.args.byte_idx, few-lines (slice_text c.args.text) (omega (arith, c.len_bytes.ensures.bytes, c.len_bytes.ensures.fits)))

pub overflow_add-result-2 : goal.overflow_add-result-2
overflow_add-result-2 c =
    let e = c.chunk_at_byte-start.ensures in
    let chunk = c.chunk_at_byte-start.result.0.now in
    let fits : byte_len (slice_text c.args.text) < 2 ^ 63 = omega (arith, c.len_bytes.ensures.bytes, c.len_bytes.ensures.fits) in
    let start : LineStart = record { chunk = c.chunk_at_byte-start.result.0; byte_idx = c.chunk_at_byte-start.result.1; char_idx = c.chunk_at_byte-start.result.2; at = c.line_start_before-at.result } in
    let h = walk-in-chunk (slice_pieces c.args.text) c.args.byte_idx c.chunk_at_byte-start.result.3 c.from_byte_idx-count.result start e.cut.cut e.utf8 fits e.chunk c.requires
    c.from_byte_idx-count.ensures (omega (arith, c.if-count-eq0.false))
    (c.line_start_before-at.ensures ∙ ap (λ n. end_place (break_ends is_break (chars chunk)) n (length chunk)) (sym c.from_byte_idx-count.ensures)) in
    let walk = h.0 in
    omega (arith, walk.near, fits)

pub range_from-requires : goal.range_from-requires
range_from-requires c = λ _.
    let e = c.chunk_at_byte-start.ensures in
    let chunk = c.chunk_at_byte-start.result.0.now in
    let fits : byte_len (slice_text c.args.text) < 2 ^ 63 = omega (arith, c.len_bytes.ensures.bytes, c.len_bytes.ensures.fits) in
    let start : LineStart = record { chunk = c.chunk_at_byte-start.result.0; byte_idx = c.chunk_at_byte-start.result.1; char_idx = c.chunk_at_byte-start.result.2; at = c.line_start_before-at.result } in
    let h = walk-in-chunk (slice_pieces c.args.text) c.args.byte_idx c.chunk_at_byte-start.result.3 c.from_byte_idx-count.result start e.cut.cut e.utf8 fits e.chunk c.requires
    c.from_byte_idx-count.ensures (omega (arith, c.if-count-eq0.false))
    (c.line_start_before-at.ensures ∙ ap (λ n. end_place (break_ends is_break (chars chunk)) n (length chunk)) (sym c.from_byte_idx-count.ensures)) in
    h.1

pub invariant_of-result : goal.invariant_of-result
invariant_of-result c =
    let e = c.chunk_at_byte-start.ensures in
    let chunk = c.chunk_at_byte-start.result.0.now in
    let fits : byte_len (slice_text c.args.text) < 2 ^ 63 = omega (arith, c.len_bytes.ensures.bytes, c.len_bytes.ensures.fits) in
    let start : LineStart = record { chunk = c.chunk_at_byte-start.result.0; byte_idx = c.chunk_at_byte-start.result.1; char_idx = c.chunk_at_byte-start.result.2; at = c.line_start_before-at.result } in
    let h = walk-in-chunk (slice_pieces c.args.text) c.args.byte_idx c.chunk_at_byte-start.result.3 c.from_byte_idx-count.result start e.cut.cut e.utf8 fits e.chunk c.requires
    c.from_byte_idx-count.ensures (omega (arith, c.if-count-eq0.false))
    (c.line_start_before-at.ensures ∙ ap (λ n. end_place (break_ends is_break (chars chunk)) n (length chunk)) (sym c.from_byte_idx-count.ensures)) in
    subst (IsWalk (slice_text c.args.text) (c.chunk_at_byte-start.result.3 + c.from_byte_idx-count.result) (c.chunk_at_byte-start.result.1 + c.line_start_before-at.result)) (sym c.range_from.ensures.value) h.0

pub returns-clause-line : goal.returns-clause-line
returns-clause-line c =
    let e = c.chunk_at_byte-start.ensures in
    let line = line-of-place (slice_pieces c.args.text) _ c.args.byte_idx _ _ _ _ e.cut.cut e.utf8 (omega (arith, c.len_bytes.ensures.bytes, c.len_bytes.ensures.fits)) e.chunk c.requires c.from_byte_idx-count.ensures in
    line
