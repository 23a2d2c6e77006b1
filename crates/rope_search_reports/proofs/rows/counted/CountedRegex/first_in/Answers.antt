use Rattle.std.proofs.Common.{ℕ, List, Option, subst}
use Rattle.std.specs.Prelude.{IfOk}
use Rattle.std.proofs.lemmas.Result.{IfOk-weaker}
use Rattle.ropey.specs.Slices.{slice_bytes}
use Rattle.regex_cursor.specs.Patterns.{AsksFrom, TreeFinds}
use Rattle.regex_cursor.specs.Regexes.{IsRegexOf, RegexView}
use Rattle.rope_search_reports.specs.Finders.{FinderTells}
use Rattle.rope_search_reports.proofs.rows.counted.CountedRegex.first_in.Goals as goal

pub returns-clause-found : goal.returns-clause-found
returns-clause-found c =
    let content = slice_bytes c.args.text in
    let from = c.args.from in
    let asks : AsksFrom content from c.input_over-input.result = subst (λ cs. AsksFrom cs from c.input_over-input.result) c.at.ensures.content c.input_over-input.ensures in
    let Told : RegexView → Type 0 = λ re. (text : List ℕ) → (built : IsRegexOf text re) → IfOk c.find.result (λ span. (slots : List (Option ℕ)) × FinderTells (TreeFinds built.tree content from) span slots) in
    let told : Told c.self.inside.regex = λ text built.
    IfOk-weaker c.find.result (λ span. FinderTells (TreeFinds built.tree content from) span c.find.new.slots) (λ span. (slots : List (Option ℕ)) × FinderTells (TreeFinds built.tree content from) span slots)
    (λ span is. (c.find.new.slots, is)) (c.find.ensures.found text content from built asks) in
    subst Told c.self.view_is told
