use Rattle.std.proofs.Common.{◌≡◌, ◌⊎◌, Result, Ok, Err, IfOk, IfErr, Some, None, [], ◌∷◌, inl, inr, refl, ap, sym, subst, ◌∙◌}
use Rattle.std.proofs.lemmas.Result.{IfOk-weaker}
use Rattle.ropey.specs.Chunks.{text_of}
use Rattle.rope_search_io.specs.declared.faults.Fault.{Fault}
use Rattle.rope_search_io.specs.declared.faults.Fault.TheVariants.{Range, Memory}
use Rattle.rope_search_reports.specs.Replacement.{Groups}
use Rattle.rope_search.specs.GroupsAt.{TellsGroupsIn}
use Rattle.rope_search.specs.MatchEdits.{ServeFor}
use Rattle.rope_search.proofs.MatchEditLemmas.{memory-alone, not-none-in, serve-alone, serve-own}
use Rattle.rope_search.proofs.search.Search.groups_for.Goals as goal

pub returns-then-names_explicit_groups-clause-groups : goal.returns-then-names_explicit_groups-clause-groups
returns-then-names_explicit_groups-clause-groups c =
    let text = text_of c.args.text.now in
    let finder = c.args.self.now.finder in
    IfOk-weaker c.groups_at.result (λ groups. TellsGroupsIn text finder c.args.line c.args.number (Some groups))
    (λ groups. ServeFor text finder c.args.line c.args.number c.args.template.now groups)
    (λ groups found. serve-own text finder c.args.line c.args.number c.args.template.now groups found) c.groups_at.ensures.told

pub returns-then-names_explicit_groups-clause-fault : goal.returns-then-names_explicit_groups-clause-fault
returns-then-names_explicit_groups-clause-fault c =
    let text = text_of c.args.text.now in
    let finder = c.args.self.now.finder in
    memory-alone c.groups_at.result c.groups_at.ensures.fault
    (λ e. not-none-in c.a_row_a_line.ensures text finder c.args.self.now.rows.items c.requires.report c.args.line c.args.number c.groups_are_of_rows.ensures c.args.columns c.requires.listed
    (c.groups_at.ensures.range e))

pub returns-clause-groups : goal.returns-clause-groups
returns-clause-groups c =
    serve-alone c.a_row_a_line.ensures (text_of c.args.text.now) c.args.self.now.finder c.args.self.now.rows.items c.requires.report c.args.line c.args.number c.args.template.now
    c.args.columns (None ∷ None ∷ None ∷ None ∷ None ∷ None ∷ None ∷ None ∷ None ∷ []) c.requires.listed (sym c.names_explicit_groups.ensures ∙ c.if-names_explicit_groups.false)
