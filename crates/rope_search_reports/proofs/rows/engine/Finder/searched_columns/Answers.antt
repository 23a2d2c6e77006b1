use Rattle.std.proofs.Common.{◌≡◌, sym, subst, ◌∙◌}
use Rattle.regex_cursor.specs.Patterns.{SpellsTree}
use Rattle.rope_search_reports.specs.Report.{IsRow}
use Rattle.rope_search_reports.specs.Drafts.{own_text}
use Rattle.rope_search_reports.specs.Finders.{IsRowOf, matches_in}
use Rattle.rope_search_reports.proofs.RowLemmas.{row-is}
use Rattle.rope_search_reports.proofs.rows.engine.Finder.searched_columns.Goals as goal

pub returns-clause-row : goal.returns-clause-row
returns-clause-row c =
    let pattern = c.args.self.now in
    let own = own_text c.args.line in
    let built = c.self.invariant.built in
    let spells : SpellsTree pattern built.tree =
    subst (λ p. SpellsTree p built.tree) (sym c.self.invariant.pattern_is ∙ c.self.view_is) built.spells in
    let items = c.columns_in_line.new.columns.items in
    let is : IsRowOf built.tree own items = c.in_ok-columns_in_line.ensures.row c.self.invariant.text built in
    let told : matches_in c.in_ok-of.field-0 ≡ items = c.in_ok-of.ensures ∙ c.as_slice.ensures.value in
    subst (IsRow pattern own) (sym told) (row-is pattern own built.tree items spells is)
