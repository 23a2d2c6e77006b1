use Rattle.std.proofs.Common.{Some, sym, subst, ◌∙◌}
use Rattle.std.specs.Prelude.{IfOk, Option, option_map}
use Rattle.ropey.specs.Slices.{slice_text}
use Rattle.regex_cursor.specs.Patterns.{SpellsTree}
use Rattle.rope_search_reports.specs.Text.{bytes_of}
use Rattle.rope_search_reports.specs.LineGroups.{TellsGroups, in_columns}
use Rattle.rope_search_reports.specs.Replacement.{Groups}
use Rattle.rope_search_reports.proofs.AmongLemmas.{tells-groups}
use Rattle.rope_search_reports.proofs.rows.engine.Finder.groups_at.Goals.{in-None, in-Some}
use Rattle.rope_search_reports.proofs.rows.engine.Finder.groups_at.Goals as goal

pub returns-clause-told : goal.returns-clause-told
returns-clause-told c =
    let pattern = c.args.self.now in
    let own = slice_text c.args.line in
    let number = c.args.number in
    let built = c.self.invariant.built in
    let spells : SpellsTree pattern built.tree =
    subst (λ p. SpellsTree p built.tree) (sym c.self.invariant.pattern_is ∙ c.self.view_is) built.spells in
    let Told : Option Groups → Type 0 = λ told. TellsGroups pattern own number (option_map (in_columns (bytes_of own)) told) in
    let tells : Told c.in_ok-groups_of_match.field-0 =
    tells-groups pattern own built.tree number c.in_ok-groups_of_match.field-0 spells (c.in_ok-groups_of_match.ensures.groups c.self.invariant.text built) in
    elim c.match-branch-2.branch [
      | in-None w ↦ subst (λ r. IfOk r (TellsGroups pattern own number)) (sym w.result-is) (subst Told w.in-None.is tells)
      | in-Some w ↦
          subst (λ r. IfOk r (TellsGroups pattern own number)) (sym w.result-is)
          (subst (λ groups. TellsGroups pattern own number (Some groups)) (sym w.groups_by_columns.ensures) (subst Told w.in-Some.is tells))
    ]
