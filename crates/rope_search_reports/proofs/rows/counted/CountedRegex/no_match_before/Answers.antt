use Rattle.std.proofs.Common.{ℕ, List, ap, subst}
use Rattle.std.specs.Prelude.{IfSome}
use Rattle.regex_cursor.specs.Patterns.{Asked, HasNoMatchBetween}
use Rattle.regex_cursor.specs.Regexes.{IsRegexOf, RegexView}
use Rattle.rope_search_reports.proofs.rows.counted.CountedRegex.no_match_before.Goals as goal

pub returns-clause-no_match : goal.returns-clause-no_match
returns-clause-no_match g c =
    let asks = c.input_over.ensures in
    let place = c.no_match_before.result in
    let Told : RegexView → List ℕ → ℕ → Type 0 = λ re content from. (text : List ℕ) → (built : IsRegexOf text re) → IfSome place (λ p. HasNoMatchBetween built.tree content from p) in
    let told : Told c.self.inside.regex c.input_over.result.cursor.content c.input_over.result.asked.span.start = c.no_match_before.ensures.no_match in
    let in_content = subst (λ content. Told c.self.inside.regex content c.input_over.result.asked.span.start) asks.content_is told in
    let from_there = subst (λ from. Told c.self.inside.regex (g.C.Cursor.state c.args.cursor).content from) (ap (λ (a : Asked). a.span.start) asks.asked_is) in_content in
    subst (λ re. Told re (g.C.Cursor.state c.args.cursor).content c.args.from) c.self.view_is from_there
