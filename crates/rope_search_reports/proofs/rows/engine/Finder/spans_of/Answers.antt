use Rattle.std.proofs.Common.{◌≡◌, ℕ, List, map, ap, sym, subst, ◌∙◌}
use Rattle.std.specs.Prelude.{IfOk}
use Rattle.std.proofs.lemmas.Result.{IfOk-weaker}
use Rattle.ropey.specs.Chunks.{text_of}
use Rattle.ropey.specs.Slices.{slice_text}
use Rattle.regex_cursor.specs.Patterns.{SpellsTree}
use Rattle.rope_search_reports.specs.Text.{bytes_of}
use Rattle.rope_search_reports.specs.Finders.{AreSpansOf}
use Rattle.rope_search_reports.specs.Matches.{IsMatches}
use Rattle.rope_search_reports.specs.Replacement.{AreMatchesIn, alone}
use Rattle.rope_search_reports.proofs.FinderLemmas.{whole-is}
use Rattle.rope_search_reports.proofs.RowLemmas.{spans-are}
use Rattle.rope_search_reports.proofs.rows.engine.Finder.spans_of.Goals as goal

pub returns-clause-found : goal.returns-clause-found
returns-clause-found c =
    let built = c.self.invariant.built in
    let whole : slice_text c.slice.result ≡ text_of c.args.text.now = ap text_of c.slice.ensures ∙ whole-is c.args.text.now in
    let spells : SpellsTree c.args.self.now built.tree =
    subst (λ p. SpellsTree p built.tree) (sym c.self.invariant.pattern_is ∙ c.self.view_is) built.spells in
    let P : List ℕ → List (ℕ × ℕ) → Type 0 = λ t spans. AreSpansOf built.tree (bytes_of t) spans in
    IfOk-weaker c.all_spans.result (λ spans. P (text_of c.args.text.now) spans.items) (λ spans. IsMatches c.args.self.now (bytes_of (text_of c.args.text.now)) spans.items)
    (λ spans is. spans-are c.args.self.now (bytes_of (text_of c.args.text.now)) built.tree spans.items spells is)
    (subst (λ t. IfOk c.all_spans.result (λ spans. P t spans.items)) whole (c.all_spans.ensures.spans c.self.invariant.text built))

pub returns-clause-stand : goal.returns-clause-stand
returns-clause-stand c =
    let whole : slice_text c.slice.result ≡ text_of c.args.text.now = ap text_of c.slice.ensures ∙ whole-is c.args.text.now in
    subst (λ t. IfOk c.all_spans.result (λ spans. AreMatchesIn (bytes_of t) (map alone spans.items))) whole c.all_spans.ensures.stand
