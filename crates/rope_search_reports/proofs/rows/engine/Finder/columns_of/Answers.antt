use Rattle.std.proofs.Common.{sym, subst, ◌∙◌}
use Rattle.regex_cursor.specs.Patterns.{SpellsTree}
use Rattle.regex_cursor.proofs.TreeLaws.{finds_of_trees}
use Rattle.rope_search_reports.specs.Drafts.{own_text}
use Rattle.rope_search_reports.proofs.BareLemmas.{empty-row}
use Rattle.rope_search_reports.proofs.rows.engine.Finder.columns_of.Goals as goal

pub returns-then-len_bytes-eq0-clause-row : goal.returns-then-len_bytes-eq0-clause-row
returns-then-len_bytes-eq0-clause-row c =
    let built = c.self.invariant.built in
    let spells : SpellsTree c.args.self.now built.tree =
    subst (λ p. SpellsTree p built.tree) (sym c.self.invariant.pattern_is ∙ c.self.view_is) built.spells in
    empty-row finds_of_trees c.args.self.now (own_text c.args.line) built.tree spells (c.self.invariant.never_empty c.if-self.true) (sym c.len_bytes.ensures ∙ c.if-len_bytes-eq0.true)
