use Rattle.std.proofs.Common.{◌+◌, sym, ap, ◌∙◌, arith}
use Rattle.str_indices.specs.Text.{ends_up_to, unit_ends}
use Rattle.ropey.specs.Slices.{slice_pieces, slice_text}
use Rattle.rope_search_reports.specs.Position.{line_start}
use Rattle.rope_search_reports.proofs.UnitLemmas.{none-before, starts-behind}
use Rattle.rope_search_reports.proofs.positions.units_before.Goals as goal

pub returns-then-line_idx-eq0 : goal.returns-then-line_idx-eq0
returns-then-line_idx-eq0 c =
    let text = slice_text c.args.text.now in
    none-before text ∙ ap (λ n. ends_up_to (line_start text n) (unit_ends text)) (sym c.if-line_idx-eq0.true)

pub overflow_add-result : goal.overflow_add-result
overflow_add-result c =
    let e = c.chunk-chunk.ensures in
    let few = (starts-behind (slice_pieces c.args.text.now) c.args.line_idx _ c.chunk-chunk.result.start _ e.cut.cut e.utf8 (omega (arith, c.if-line_idx-eq0.false)) e.stands c.to_byte_idx-at.ensures).units_are.few in
    omega (arith, few, c.from_byte_idx.ensures, c.len_bytes.ensures.bytes, c.len_bytes.ensures.fits)

pub returns : goal.returns
returns c =
    let e = c.chunk-chunk.ensures in
    let start = c.chunk-chunk.result.start in
    ap (λ n. start.units + n) c.from_byte_idx.ensures
    ∙ (starts-behind (slice_pieces c.args.text.now) c.args.line_idx _ start _ e.cut.cut e.utf8 (omega (arith, c.if-line_idx-eq0.false)) e.stands c.to_byte_idx-at.ensures).units_are.are
