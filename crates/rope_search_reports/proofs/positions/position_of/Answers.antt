use Rattle.std.proofs.Common.{◌≡◌, ◌+◌, ◌-◌, ◌^◌, ◌<◌, chars, sym, ap, subst, ◌∙◌, arith}
use Rattle.std.specs.Str.{IsCharBoundary}
use Rattle.str_indices.specs.Text.{byte_len, units}
use Rattle.ropey.specs.Chunks.{text_of}
use Rattle.ropey.specs.Slices.{slice_pieces}
use Rattle.rope_search_reports.specs.Text.{bytes_of}
use Rattle.rope_search_reports.specs.Position.{column_at, line_at}
use Rattle.rope_search_reports.proofs.ChunkColumns.{in-chunk}
use Rattle.rope_search_reports.proofs.FinderLemmas.{whole-is}
use Rattle.rope_search_reports.proofs.UnitLemmas.{before-chunk, shown-at}
use Rattle.rope_search_reports.proofs.positions.position_of.Goals as goal

pub overflow_add-units : goal.overflow_add-units
overflow_add-units c =
    let place = c.args.byte_idx in
    let pieces = slice_pieces c.slice-whole.result in
    let own = ap text_of c.slice-whole.ensures ∙ whole-is c.args.text.now in
    let e = c.chunk-chunk.ensures in
    let boundary = subst (λ t. IsCharBoundary (bytes_of t) place) (sym own) c.requires in
    let fits : byte_len (text_of pieces) < 2 ^ 63 = omega (arith, ap byte_len own, c.len_bytes.ensures.bytes, c.len_bytes.ensures.fits) in
    let h = before-chunk pieces _ place c.chunk-chunk.result.start e.cut.cut e.utf8 fits e.stands boundary (sym c.if-count-eq0.true ∙ c.from_byte_idx-count.ensures) in
    let few = h.few in
    omega (arith, few, c.from_byte_idx.ensures, fits)

pub units_before-requires : goal.units_before-requires
units_before-requires c =
    let place = c.args.byte_idx in
    let pieces = slice_pieces c.slice-whole.result in
    let own = ap text_of c.slice-whole.ensures ∙ whole-is c.args.text.now in
    let e = c.chunk-chunk.ensures in
    let boundary = subst (λ t. IsCharBoundary (bytes_of t) place) (sym own) c.requires in
    let fits : byte_len (text_of pieces) < 2 ^ 63 = omega (arith, ap byte_len own, c.len_bytes.ensures.bytes, c.len_bytes.ensures.fits) in
    let h = before-chunk pieces _ place c.chunk-chunk.result.start e.cut.cut e.utf8 fits e.stands boundary (sym c.if-count-eq0.true ∙ c.from_byte_idx-count.ensures) in
    h.below

pub overflow_sub-result : goal.overflow_sub-result
overflow_sub-result c =
    let place = c.args.byte_idx in
    let pieces = slice_pieces c.slice-whole.result in
    let own = ap text_of c.slice-whole.ensures ∙ whole-is c.args.text.now in
    let e = c.chunk-chunk.ensures in
    let boundary = subst (λ t. IsCharBoundary (bytes_of t) place) (sym own) c.requires in
    let fits : byte_len (text_of pieces) < 2 ^ 63 = omega (arith, ap byte_len own, c.len_bytes.ensures.bytes, c.len_bytes.ensures.fits) in
    let h = before-chunk pieces _ place c.chunk-chunk.result.start e.cut.cut e.utf8 fits e.stands boundary (sym c.if-count-eq0.true ∙ c.from_byte_idx-count.ensures) in
    let order = h.order in
    omega (arith, order, c.from_byte_idx.ensures, c.units_before.ensures)

pub returns-then-count-eq0 : goal.returns-then-count-eq0
returns-then-count-eq0 c =
    let place = c.args.byte_idx in
    let pieces = slice_pieces c.slice-whole.result in
    let own = ap text_of c.slice-whole.ensures ∙ whole-is c.args.text.now in
    let e = c.chunk-chunk.ensures in
    let boundary = subst (λ t. IsCharBoundary (bytes_of t) place) (sym own) c.requires in
    let fits : byte_len (text_of pieces) < 2 ^ 63 = omega (arith, ap byte_len own, c.len_bytes.ensures.bytes, c.len_bytes.ensures.fits) in
    let h = before-chunk pieces _ place c.chunk-chunk.result.start e.cut.cut e.utf8 fits e.stands boundary (sym c.if-count-eq0.true ∙ c.from_byte_idx-count.ensures) in
    let start = c.chunk-chunk.result.start in
    let column = h.column in
    let order = h.order in
    let told : start.units + c.from_byte_idx.result - c.units_before.result ≡ column_at (text_of pieces) place = omega (arith, order, column, c.from_byte_idx.ensures, c.units_before.ensures) in
    ap (λ l. (l, start.units + c.from_byte_idx.result - c.units_before.result)) (h.line_is ∙ ap (λ t. line_at t place) own)
    ∙ ap (λ n. (line_at (text_of c.args.text.now) place, n)) (told ∙ ap (λ t. column_at t place) own)

pub overflow_add-result : goal.overflow_add-result
overflow_add-result c =
    let place = c.args.byte_idx in
    let pieces = slice_pieces c.slice-whole.result in
    let own = ap text_of c.slice-whole.ensures ∙ whole-is c.args.text.now in
    let e = c.chunk-chunk.ensures in
    let boundary = subst (λ t. IsCharBoundary (bytes_of t) place) (sym own) c.requires in
    let h = in-chunk pieces _ place _ _ _ _ _ e.cut.cut e.utf8 (omega (arith, ap byte_len own, c.len_bytes.ensures.bytes, c.len_bytes.ensures.fits)) (shown-at pieces place _ _ e.stands) boundary
    c.from_byte_idx-count.ensures (omega (arith, c.if-count-eq0.false)) c.to_byte_idx-at.ensures in
    let few = h.few in
    omega (arith, few)

pub range-requires-clause-start_le_end : goal.range-requires-clause-start_le_end
range-requires-clause-start_le_end c =
    let place = c.args.byte_idx in
    let pieces = slice_pieces c.slice-whole.result in
    let own = ap text_of c.slice-whole.ensures ∙ whole-is c.args.text.now in
    let e = c.chunk-chunk.ensures in
    let boundary = subst (λ t. IsCharBoundary (bytes_of t) place) (sym own) c.requires in
    let h = in-chunk pieces _ place _ _ _ _ _ e.cut.cut e.utf8 (omega (arith, ap byte_len own, c.len_bytes.ensures.bytes, c.len_bytes.ensures.fits)) (shown-at pieces place _ _ e.stands) boundary
    c.from_byte_idx-count.ensures (omega (arith, c.if-count-eq0.false)) c.to_byte_idx-at.ensures in
    h.low

pub range-requires-clause-start_boundary : goal.range-requires-clause-start_boundary
range-requires-clause-start_boundary c = λ _.
    let place = c.args.byte_idx in
    let pieces = slice_pieces c.slice-whole.result in
    let own = ap text_of c.slice-whole.ensures ∙ whole-is c.args.text.now in
    let e = c.chunk-chunk.ensures in
    let boundary = subst (λ t. IsCharBoundary (bytes_of t) place) (sym own) c.requires in
    let h = in-chunk pieces _ place _ _ _ _ _ e.cut.cut e.utf8 (omega (arith, ap byte_len own, c.len_bytes.ensures.bytes, c.len_bytes.ensures.fits)) (shown-at pieces place _ _ e.stands) boundary
    c.from_byte_idx-count.ensures (omega (arith, c.if-count-eq0.false)) c.to_byte_idx-at.ensures in
    h.starts

pub range-requires-clause-end_boundary : goal.range-requires-clause-end_boundary
range-requires-clause-end_boundary c =
    let place = c.args.byte_idx in
    let pieces = slice_pieces c.slice-whole.result in
    let own = ap text_of c.slice-whole.ensures ∙ whole-is c.args.text.now in
    let e = c.chunk-chunk.ensures in
    let boundary = subst (λ t. IsCharBoundary (bytes_of t) place) (sym own) c.requires in
    let h = in-chunk pieces _ place _ _ _ _ _ e.cut.cut e.utf8 (omega (arith, ap byte_len own, c.len_bytes.ensures.bytes, c.len_bytes.ensures.fits)) (shown-at pieces place _ _ e.stands) boundary
    c.from_byte_idx-count.ensures (omega (arith, c.if-count-eq0.false)) c.to_byte_idx-at.ensures in
    h.ends

pub returns : goal.returns
returns c =
    let place = c.args.byte_idx in
    let pieces = slice_pieces c.slice-whole.result in
    let own = ap text_of c.slice-whole.ensures ∙ whole-is c.args.text.now in
    let e = c.chunk-chunk.ensures in
    let boundary = subst (λ t. IsCharBoundary (bytes_of t) place) (sym own) c.requires in
    let h = in-chunk pieces _ place _ _ _ _ _ e.cut.cut e.utf8 (omega (arith, ap byte_len own, c.len_bytes.ensures.bytes, c.len_bytes.ensures.fits)) (shown-at pieces place _ _ e.stands) boundary
    c.from_byte_idx-count.ensures (omega (arith, c.if-count-eq0.false)) c.to_byte_idx-at.ensures in
    let column = c.count.ensures ∙ ap (λ bs. units (chars bs)) c.range.ensures.value ∙ h.column_is ∙ ap (λ t. column_at t place) own in
    ap (λ l. (l, c.count.result)) (h.line_is ∙ ap (λ t. line_at t place) own) ∙ ap (λ n. (line_at (text_of c.args.text.now) place, n)) column
