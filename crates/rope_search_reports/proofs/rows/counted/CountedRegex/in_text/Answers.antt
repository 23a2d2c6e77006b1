use Rattle.std.proofs.Common.{sym, subst}
use Rattle.regex_cursor.specs.Patterns.{AsksFrom}
use Rattle.ropey.specs.Slices.{slice_pieces}
use Rattle.rope_search_reports.proofs.PlaceLemmas.{rope-scalars}
use Rattle.rope_search_reports.proofs.rows.counted.CountedRegex.in_text.Goals as goal

pub returns-clause-scalars : goal.returns-clause-scalars
returns-clause-scalars c = rope-scalars (slice_pieces c.args.text) c.len_bytes-len.ensures.cut.cut

pub begun-requires : goal.begun-requires
begun-requires c =
    let asks = c.input_over.ensures in
    subst (λ cs. AsksFrom cs 0 c.input_over.result) (sym asks.content_is) asks
