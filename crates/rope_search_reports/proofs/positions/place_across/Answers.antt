use Rattle.std.proofs.Common.{◌+◌, chars, refl, ap, sym, ◌∙◌, arith}
use Rattle.ropey.specs.Slices.{slice_pieces, slice_text}
use Rattle.ropey.specs.Chunks.{is_break}
use Rattle.str_indices.specs.Text.{breaks}
use Rattle.rope_search_reports.proofs.AcrossLemmas.{behind-at, behind-is, by-unit, few-before, none-by-unit, one-line, told-by-unit}
use Rattle.rope_search_reports.proofs.PlaceLemmas.{rope-scalars}
use Rattle.rope_search_reports.proofs.WalkLemmas.{from-start}
use Rattle.rope_search_reports.proofs.positions.place_across.Goals as goal

pub returns-then-column-len_bytes : goal.returns-then-column-len_bytes
returns-then-column-len_bytes c = λ place at.
    let scalars = rope-scalars (slice_pieces c.args.text.now) c.len_bytes.ensures.cut.cut in
    let few = (behind-at (slice_text c.args.text.now) c.args.line_idx c.args.column _ scalars c.requires refl place at).few in
    omega (arith, few, c.if-column-len_bytes.true, c.len_bytes.ensures.bytes)

pub overflow_add-unit_idx : goal.overflow_add-unit_idx
overflow_add-unit_idx c =
    let scalars = rope-scalars (slice_pieces c.args.text.now) c.len_bytes.ensures.cut.cut in
    let few = few-before (slice_text c.args.text.now) c.args.line_idx c.args.column c.units_before.result scalars c.requires c.units_before.ensures in
    omega (arith, few, c.if-column-len_bytes.false, c.len_bytes.ensures.bytes, c.len_bytes.ensures.fits)

pub returns-in_err-own : goal.returns-in_err-own
returns-in_err-own c =
    let e = c.chunk-chunk.ensures in
    let text = slice_text c.args.text.now in
    let unit = c.units_before.result + c.args.column in
    let is = by-unit (slice_pieces c.args.text.now) _ unit c.chunk-chunk.result.start e.cut.cut e.stands in
    let scalars = rope-scalars (slice_pieces c.args.text.now) e.cut.cut in
    rw (c.from_residual.ensures)
    (λ place at. none-by-unit text _ unit c.args.line_idx _ is c.in_err-own.ensures (behind-at text c.args.line_idx c.args.column c.units_before.result scalars c.requires c.units_before.ensures place at))

pub range-requires-clause-end_boundary : goal.range-requires-clause-end_boundary
range-requires-clause-end_boundary c =
    let e = c.chunk-chunk.ensures in
    let unit = c.units_before.result + c.args.column in
    let is = by-unit (slice_pieces c.args.text.now) _ unit c.chunk-chunk.result.start e.cut.cut e.stands in
    (told-by-unit (slice_text c.args.text.now) _ unit _ c.in_ok-own.own e.utf8 is c.in_ok-own.ensures).between

pub overflow_add-ended : goal.overflow_add-ended
overflow_add-ended c =
    let e = c.chunk-chunk.ensures in
    let unit = c.units_before.result + c.args.column in
    let is = by-unit (slice_pieces c.args.text.now) _ unit c.chunk-chunk.result.start e.cut.cut e.stands in
    let few = (told-by-unit (slice_text c.args.text.now) _ unit _ c.in_ok-own.own e.utf8 is c.in_ok-own.ensures).few_breaks in
    let count = c.count_breaks.ensures ∙ ap (λ bs. breaks is_break (chars bs)) (c.range.ensures.value ∙ from-start c.chunk-chunk.result.text.now c.in_ok-own.own.byte_idx) in
    omega (arith, few, count, c.len_bytes.ensures.bytes, c.len_bytes.ensures.fits)

pub returns-then-ended-line_idx : goal.returns-then-ended-line_idx
returns-then-ended-line_idx c = λ place at.
    let e = c.chunk-chunk.ensures in
    let text = slice_text c.args.text.now in
    let unit = c.units_before.result + c.args.column in
    let is = by-unit (slice_pieces c.args.text.now) _ unit c.chunk-chunk.result.start e.cut.cut e.stands in
    let scalars = rope-scalars (slice_pieces c.args.text.now) e.cut.cut in
    let told = (told-by-unit text _ unit _ c.in_ok-own.own e.utf8 is c.in_ok-own.ensures).behind in
    let count = c.count_breaks.ensures ∙ ap (λ bs. breaks is_break (chars bs)) (c.range.ensures.value ∙ from-start c.chunk-chunk.result.text.now c.in_ok-own.own.byte_idx) in
    let there = behind-at text c.args.line_idx c.args.column c.units_before.result scalars c.requires c.units_before.ensures place at in
    c.if-ended-line_idx.true (ap (λ n. c.chunk-chunk.result.start.breaks + n) count ∙ one-line text unit _ c.args.line_idx told there)

pub overflow_add-result : goal.overflow_add-result
overflow_add-result c =
    let e = c.chunk-chunk.ensures in
    let unit = c.units_before.result + c.args.column in
    let is = by-unit (slice_pieces c.args.text.now) _ unit c.chunk-chunk.result.start e.cut.cut e.stands in
    let near = (told-by-unit (slice_text c.args.text.now) _ unit _ c.in_ok-own.own e.utf8 is c.in_ok-own.ensures).near in
    omega (arith, near, c.len_bytes.ensures.bytes, c.len_bytes.ensures.fits)

pub overflow_add-result-2 : goal.overflow_add-result-2
overflow_add-result-2 c =
    let e = c.chunk-chunk.ensures in
    let unit = c.units_before.result + c.args.column in
    let is = by-unit (slice_pieces c.args.text.now) _ unit c.chunk-chunk.result.start e.cut.cut e.stands in
    let few = (told-by-unit (slice_text c.args.text.now) _ unit _ c.in_ok-own.own e.utf8 is c.in_ok-own.ensures).few in
    omega (arith, few, c.len_bytes.ensures.bytes, c.len_bytes.ensures.fits)

pub returns : goal.returns
returns c =
    let e = c.chunk-chunk.ensures in
    let text = slice_text c.args.text.now in
    let unit = c.units_before.result + c.args.column in
    let is = by-unit (slice_pieces c.args.text.now) _ unit c.chunk-chunk.result.start e.cut.cut e.stands in
    let scalars = rope-scalars (slice_pieces c.args.text.now) e.cut.cut in
    let told = told-by-unit text _ unit _ c.in_ok-own.own e.utf8 is c.in_ok-own.ensures in
    let count = c.count_breaks.ensures ∙ ap (λ bs. breaks is_break (chars bs)) (c.range.ensures.value ∙ from-start c.chunk-chunk.result.text.now c.in_ok-own.own.byte_idx) in
    behind-is text c.args.line_idx c.args.column c.units_before.result scalars c.requires c.units_before.ensures _ told.behind _
    (ap (λ n. c.chunk-chunk.result.start.breaks + n) (sym count) ∙ c.if-ended-line_idx.false) told.byte_is told.char_is
