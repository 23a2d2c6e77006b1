use Rattle.std.proofs.Common.{◌≡◌, ◌∷◌, min, ap, sym, ◌∙◌}
use Rattle.std.specs.Option.{option_copied}
use Rattle.std.specs.Prelude.{Some, slice_get}
use Rattle.rope_search_reports.specs.Position.{line_at}
use Rattle.rope_search.specs.Histories.{text_at}
use Rattle.rope_search.specs.Pending.{done_before}
use Rattle.rope_search.specs.TextChanges.{ranges_in}
use Rattle.rope_search.proofs.PendingLemmas.{begins-with, first-start}
use Rattle.rope_search.proofs.buffer.pending.lines_kept.Goals as goal

pub returns-in-Some : goal.returns-in-Some
returns-in-Some c =
    let hist = c.args.history.now in
    let text = text_at hist.texts hist.current in
    let change = c.in-Some.change.now in
    let got : slice_get c.last.result.now 0 ≡ Some change = sym c.first.ensures.value ∙ ap option_copied c.in-Some.is in
    let whole = begins-with c.last.result.now change got in
    let is : hist.last ≡ change ∷ whole.0 = sym c.last.ensures.changes ∙ whole.1 in
    let start = first-start hist.is_back change whole.0 in
    let ranges : ranges_in hist.is_back hist.last ≡ start.0 ∷ start.1 = ap (ranges_in hist.is_back) is ∙ start.2 in
    let line : c.byte_to_line.result ≡ line_at text (start.0).new_start =
    c.byte_to_line.ensures ∙ ap (λ t. line_at t change.new_start) c.current-text.ensures.text ∙ ap (line_at text) (sym start.3) in
    c.min.ensures ∙ ap (min c.args.done) line ∙ sym (ap (λ rs. done_before text rs c.args.done) ranges)
