use Rattle.std.proofs.Common.{◌≡◌, ℕ, List, Option, ap, sym, subst, ◌∙◌, arith}
use Rattle.std.specs.Prelude.{IfOk}
use Rattle.std.proofs.lemmas.Result.{IfOk-weaker}
use Rattle.str_indices.specs.Text.{byte_len}
use Rattle.ropey.specs.Chunks.{text_of}
use Rattle.ropey.specs.Slices.{slice_text}
use Rattle.regex_cursor.specs.Patterns.{SpellsTree, TreeFinds}
use Rattle.rope_search_reports.specs.Text.{bytes_of}
use Rattle.rope_search_reports.specs.Pattern.{FindsSpan}
use Rattle.rope_search_reports.specs.Finders.{FinderTells}
use Rattle.rope_search_reports.proofs.FinderLemmas.{finds-told, whole-is}
use Rattle.rope_search_reports.proofs.rows.engine.Finder.first_in.Goals as goal

pub first_in-requires : goal.first_in-requires
first_in-requires c =
    let whole : slice_text c.slice.result ≡ text_of c.args.text.now = ap text_of c.slice.ensures ∙ whole-is c.args.text.now in
    omega (arith, c.requires.0, ap byte_len whole)

pub returns-clause-found : goal.returns-clause-found
returns-clause-found c =
    let content = bytes_of (text_of c.args.text.now) in
    let from = c.args.from in
    let built = c.self.invariant.built in
    let whole : slice_text c.slice.result ≡ text_of c.args.text.now = ap text_of c.slice.ensures ∙ whole-is c.args.text.now in
    let told = c.first_in.ensures.found c.self.invariant.text built in
    let spells : SpellsTree c.args.self.now built.tree =
    subst (λ p. SpellsTree p built.tree) (sym c.self.invariant.pattern_is ∙ c.self.view_is) built.spells in
    let P : List ℕ → Option (ℕ × ℕ) → Type 0 = λ t span. (slots : List (Option ℕ)) × FinderTells (TreeFinds built.tree (bytes_of t) from) span slots in
    IfOk-weaker c.first_in.result (P (text_of c.args.text.now)) (λ span. FindsSpan c.args.self.now content from span)
    (λ span is. finds-told c.args.self.now content from built.tree span is.0 spells is.1) (subst (λ t. IfOk c.first_in.result (P t)) whole told)
