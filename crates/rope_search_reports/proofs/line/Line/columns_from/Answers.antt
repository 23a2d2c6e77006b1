use Rattle.std.proofs.Common.{◌≡◌, ◌-◌, ℕ, ap₂, arith}
use Rattle.rope_search_reports.specs.Text.{bytes_of}
use Rattle.rope_search_reports.specs.Report.{column}
use Rattle.rope_search_reports.specs.Drafts.{own_text}
use Rattle.rope_search_reports.proofs.OwnLemmas.{own-utf8}
use Rattle.rope_search_reports.proofs.SpanLemmas.{column-between, column-rises}
use Rattle.rope_search_reports.proofs.TextPlaces.{places}
use Rattle.rope_search_reports.proofs.line.Line.columns_from.Goals as goal

pub overflow_sub-end_column : goal.overflow_sub-end_column
overflow_sub-end_column c =
    let r = c.requires in
    let content = bytes_of (own_text c.args.self.now) in
    let low = r.span.ordered in
    omega (
      arith,
      r.counted,
      c.column_from-end_column.ensures,
      column-rises content c.args.place c.args.span.1 (own-utf8 c.args.self.now r.holds) r.place (omega (arith, r.behind, low)),
    )

pub returns-then-end_column-place_column : goal.returns-then-end_column-place_column
returns-then-end_column-place_column c =
    let r = c.requires in
    let content = bytes_of (own_text c.args.self.now) in
    let narrow : column content c.args.span.1 - column content c.args.place ≡ c.args.span.1 - c.args.place =
    omega (arith, c.if-end_column-place_column.true, c.column_from-end_column.ensures, r.counted) in
    let between = column-between places content c.args.place c.args.span.0 c.args.span.1 (own-utf8 c.args.self.now r.holds) r.place r.span.starts r.span.stops r.behind r.span.ordered narrow in
    let pair : ℕ → ℕ → ℕ × ℕ = λ m n. (m, n) in
    ap₂ pair (omega (arith, between, r.counted)) c.column_from-end_column.ensures
