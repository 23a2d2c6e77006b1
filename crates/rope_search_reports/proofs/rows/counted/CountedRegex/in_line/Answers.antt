use Rattle.std.proofs.Common.{sym, subst}
use Rattle.regex_cursor.specs.Patterns.{AsksFrom}
use Rattle.rope_search_reports.proofs.rows.counted.CountedRegex.in_line.Goals as goal

pub begun-requires : goal.begun-requires
begun-requires g c =
    let asks = c.input_over.ensures in
    subst (λ cs. AsksFrom cs 0 c.input_over.result) (sym asks.content_is) asks
