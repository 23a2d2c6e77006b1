use Rattle.std.proofs.Common.{map, sym, subst}
use Rattle.ropey.specs.Chunks.{text_of}
use Rattle.rope_search_changes.specs.Text.{bytes_of}
use Rattle.rope_search_templates.specs.Substitutions.{told, AreUtf8, SubstitutionsFollow}
use Rattle.rope_search.specs.Edits.{LieInOrder, in_full}
use Rattle.rope_search.proofs.PartLaws.{cutting_scalars}
use Rattle.rope_search.proofs.EditAllLemmas.{accepts-told, changes-told, follow_on}
use Rattle.rope_search.proofs.edits.edited.Goals as goal

pub substitute_all-requires-clause-follow : goal.substitute_all-requires-clause-follow
substitute_all-requires-clause-follow c =
    let text = text_of c.args.text.now in
    subst (λ gs. SubstitutionsFollow (bytes_of text) 0 (map told gs)) (sym c.deref.ensures.value)
    (follow_on text 0 (map in_full c.args.edits.now) (map told c.in_ok-substitutions.substitutions.items) c.in_ok-substitutions.ensures.lie)

pub substitute_all-requires-clause-utf8 : goal.substitute_all-requires-clause-utf8
substitute_all-requires-clause-utf8 c = subst AreUtf8 (sym c.deref.ensures.value) c.in_ok-substitutions.ensures.texts

pub returns-clause-changes : goal.returns-clause-changes
returns-clause-changes c =
    let text = text_of c.args.text.now in
    let all = map in_full c.args.edits.now in
    let is = cutting_scalars c.args.text.now c.len_bytes.ensures.cut.cut in
    let lie = subst (λ gs. LieInOrder text 0 all (map told gs)) (sym c.deref.ensures.value) c.in_ok-substitutions.ensures.lie in
    changes-told c.substitutions_are_changes.ensures text is all (map told c.deref.result.now) lie c.substitute_all.result c.substitute_all.ensures.text c.substitute_all.ensures.changes

pub returns-clause-accepted : goal.returns-clause-accepted
returns-clause-accepted c =
    let text = text_of c.args.text.now in
    let all = map in_full c.args.edits.now in
    let is = cutting_scalars c.args.text.now c.len_bytes.ensures.cut.cut in
    let lie = subst (λ gs. LieInOrder text 0 all (map told gs)) (sym c.deref.ensures.value) c.in_ok-substitutions.ensures.lie in
    accepts-told c.args.limits.text c.one_place.ensures text is all (map told c.deref.result.now) lie c.in_ok-substitutions.ensures.utf8 c.substitute_all.result c.substitute_all.ensures.fits
