use Rattle.std.proofs.Common.{chars, ap, arith}
use Rattle.str_indices.specs.Text.{units}
use Rattle.rope_search_reports.specs.Drafts.{own_text}
use Rattle.rope_search_reports.specs.Report.{column}
use Rattle.rope_search_reports.proofs.ColumnLemmas.{ascii-column}
use Rattle.rope_search_reports.proofs.OwnLemmas.{counts-on, narrow-units, own-scalars, whole-bytes}
use Rattle.rope_search_reports.proofs.TextPlaces.{places}
use Rattle.rope_search_reports.proofs.line.Line.column_from.Goals as goal

pub range-requires-clause-start_boundary : goal.range-requires-clause-start_boundary
range-requires-clause-start_boundary c = λ _.
    let r = c.requires in
    (counts-on places c.args.self.now c.in-Whole.text c.args.place c.args.end c.in-Whole.is r.holds r.starts r.ends r.ordered).starts

pub range-requires-clause-end_boundary : goal.range-requires-clause-end_boundary
range-requires-clause-end_boundary c =
    let r = c.requires in
    (counts-on places c.args.self.now c.in-Whole.text c.args.place c.args.end c.in-Whole.is r.holds r.starts r.ends r.ordered).ends

pub overflow_add-result : goal.overflow_add-result
overflow_add-result c =
    let r = c.requires in
    let on = counts-on places c.args.self.now c.in-Whole.text c.args.place c.args.end c.in-Whole.is r.holds r.starts r.ends r.ordered in
    let few = on.few in
    let counted = on.counted in
    omega (
      arith,
      few,
      counted,
      c.count.ensures,
      ap (λ bs. units (chars bs)) c.range.ensures.value,
      r.counted,
      ap (λ bs. column bs c.args.place) (whole-bytes c.args.self.now c.in-Whole.text c.in-Whole.is r.holds),
      c.ranges.end.fits,
    )

pub returns-in-Whole : goal.returns-in-Whole
returns-in-Whole c =
    let r = c.requires in
    let bytes = whole-bytes c.args.self.now c.in-Whole.text c.in-Whole.is r.holds in
    let on = counts-on places c.args.self.now c.in-Whole.text c.args.place c.args.end c.in-Whole.is r.holds r.starts r.ends r.ordered in
    let counted = on.counted in
    omega (
      arith,
      counted,
      c.count.ensures,
      ap (λ bs. units (chars bs)) c.range.ensures.value,
      r.counted,
      ap (λ bs. column bs c.args.place) bytes,
      ap (λ bs. column bs c.args.end) bytes,
    )

pub returns-in-Narrow : goal.returns-in-Narrow
returns-in-Narrow c =
    let r = c.requires in
    let line = c.args.self.now in
    ascii-column places (own_text line) c.args.end (own-scalars line r.holds) r.ends (narrow-units line _ c.in-Narrow.is r.holds)
