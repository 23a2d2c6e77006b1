use Rattle.std.proofs.Common.{◌≡◌, ℕ, ◌++◌, List, [], length, map, ap, sym, subst, ◌∙◌, append-nil}
use Rattle.std.specs.Prelude.{All}
use Rattle.ropey.specs.Chunks.{text_of}
use Rattle.ropey.specs.Slices.{slice_text}
use Rattle.rope_search_reports.specs.Position.{line_text}
use Rattle.rope_search.specs.LineColumns.{AreColumnsOf, columns_as}
use Rattle.rope_search_c.specs.Reading.{span_in, with_front}
use Rattle.rope_search_c.specs.declared.matches.Span.{Span}
use Rattle.rope_search_c.proofs.lines.put_line_as.Goals as goal

pub put_row_as-requires-clause-columns : goal.put_row_as-requires-clause-columns
put_row_as-requires-clause-columns c = subst (λ t. All (AreColumnsOf t) c.args.row.now) (sym c.line_text.ensures) c.requires.columns

pub returns : goal.returns
returns c = λ done first was here.
    c.put_row_as.ensures done first was here
    ∙ ap (λ t. with_front (done ++ map (span_in c.args.line) (map (columns_as c.args.encoding t) c.args.row.now)) first) c.line_text.ensures
