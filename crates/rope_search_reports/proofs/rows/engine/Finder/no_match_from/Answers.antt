use Rattle.std.proofs.Common.{sym, refl, subst, ◌∙◌}
use Rattle.ropey.specs.Slices.{slice_bytes}
use Rattle.regex_cursor.specs.Patterns.{SpellsTree}
use Rattle.rope_search_reports.proofs.BareLemmas.{none-told}
use Rattle.rope_search_reports.proofs.rows.engine.Finder.no_match_from.Goals as goal

pub returns-clause-no_match : goal.returns-clause-no_match
returns-clause-no_match c =
    let built = c.self.invariant.built in
    let spells : SpellsTree c.args.self.now built.tree =
    subst (λ p. SpellsTree p built.tree) (sym c.self.invariant.pattern_is ∙ c.self.view_is) built.spells in
    none-told c.args.self.now (slice_bytes c.args.text) c.at.result.content c.args.from c.args.from built.tree c.no_match_before.result spells
    c.at.ensures.content refl (c.no_match_before.ensures.no_match c.self.invariant.text built)
