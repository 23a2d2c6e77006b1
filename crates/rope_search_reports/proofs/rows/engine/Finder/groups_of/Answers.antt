use Rattle.std.proofs.Common.{◌≡◌, ℕ, List, Option, ap, sym, subst, ◌∙◌}
use Rattle.std.specs.Prelude.{IfOk}
use Rattle.std.proofs.lemmas.Result.{IfOk-weaker}
use Rattle.ropey.specs.Chunks.{text_of}
use Rattle.ropey.specs.Slices.{slice_text}
use Rattle.regex_cursor.specs.Patterns.{SpellsTree}
use Rattle.rope_search_reports.specs.Text.{bytes_of}
use Rattle.rope_search_reports.specs.Finders.{AreFirstGroupsOf}
use Rattle.rope_search_reports.specs.Matches.{AreFirstGroups}
use Rattle.rope_search_reports.specs.Replacement.{AreMatchesIn}
use Rattle.rope_search_reports.proofs.FinderLemmas.{whole-is}
use Rattle.rope_search_reports.proofs.FirstLemmas.{first-of-pattern}
use Rattle.rope_search_reports.proofs.rows.engine.Finder.groups_of.Goals as goal

pub returns-clause-found : goal.returns-clause-found
returns-clause-found c =
    let built = c.self.invariant.built in
    let whole : slice_text c.slice.result ≡ text_of c.args.text.now = ap text_of c.slice.ensures ∙ whole-is c.args.text.now in
    let spells : SpellsTree c.args.self.now built.tree =
    subst (λ p. SpellsTree p built.tree) (sym c.self.invariant.pattern_is ∙ c.self.view_is) built.spells in
    let P : List ℕ → List (List (Option (ℕ × ℕ))) → Type 0 = λ t groups. AreFirstGroupsOf c.args.count built.tree (bytes_of t) groups in
    IfOk-weaker c.all_groups.result (λ groups. P (text_of c.args.text.now) groups.items) (λ groups. AreFirstGroups c.args.count c.args.self.now (bytes_of (text_of c.args.text.now)) groups.items)
    (λ groups is. first-of-pattern c.args.count c.args.self.now (bytes_of (text_of c.args.text.now)) built.tree groups.items spells is)
    (subst (λ t. IfOk c.all_groups.result (λ groups. P t groups.items)) whole (c.all_groups.ensures.groups c.self.invariant.text built))

pub returns-clause-stand : goal.returns-clause-stand
returns-clause-stand c =
    let whole : slice_text c.slice.result ≡ text_of c.args.text.now = ap text_of c.slice.ensures ∙ whole-is c.args.text.now in
    subst (λ t. IfOk c.all_groups.result (λ groups. AreMatchesIn (bytes_of t) groups.items)) whole c.all_groups.ensures.stand
