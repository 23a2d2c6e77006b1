use Rattle.std.proofs.Common.{◌≡◌, ◌+◌, true, [], ◌∷◌, ◌++◌, drop, map, slice_index_or, ap, sym, subst, ◌∙◌, arith, IsUtf8}
use Rattle.std.proofs.lemmas.List.{map-append}
use Rattle.std.proofs.lemmas.List.Elements.{All-nil, All-push}
use Rattle.ropey.specs.Chunks.{text_of}
use Rattle.rope_search_templates.specs.Substitutions.{told, AreUtf8}
use Rattle.rope_search_templates.specs.declared.substitutions.Substitution.{Substitution as Given}
use Rattle.rope_search.specs.declared.edits.Edit.{Edit}
use Rattle.rope_search.specs.Edits.{in_full}
use Rattle.rope_search.proofs.PartLaws.{cutting_scalars}
use Rattle.rope_search.proofs.EditAllLemmas.{AreSoFar, edit-next, edit-last, so_far-start, so_far-more, so_far-none, so_far-end, so_far-placed}
use Rattle.rope_search.proofs.edits.substitutions_of.Goals as goal

abbrev nothing : Edit
nothing = record { from = record { line = 0; column = 0 }; to = record { line = 0; column = 0 }; text = record { ref_ptr = (0, 0); now = [] } }

pub loop-edit-init : goal.loop-edit-init
loop-edit-init c = (
  so_far-start (text_of c.args.text.now) (map in_full c.args.edits.now) _ (ap (map told) c.in_ok-substitutions.ensures.items),
  subst AreUtf8 (sym c.in_ok-substitutions.ensures.items) (All-nil (λ (given : Given). IsUtf8 given.text.now)),
  c.in_ok-substitutions.ensures.len,
  c.in_ok-substitutions.ensures.exact,
)

pub returns-in_default-clause-range : goal.returns-in_default-clause-range
returns-in_default-clause-range c = λ _.
    let given = c.args.edits.now in
    let i = c.loop-edit.edit-index in
    so_far-none _ _ (in_full (slice_index_or given i nothing)) (drop (i + 1) (map in_full given)) _ _ _
    (edit-next _ _ given i nothing _ _ _ c.loop-edit-test.true c.loop-edit.invariant.0) c.in_default.ensures.none

pub loop-edit-preserved : goal.loop-edit-preserved
loop-edit-preserved c =
    let text = text_of c.args.text.now in
    let given = c.args.edits.now in
    let all = map in_full given in
    let i = c.loop-edit.edit-index in
    let is = cutting_scalars c.args.text.now c.len_bytes.ensures.cut.cut in
    let so = c.loop-edit.invariant in
    let made = c.loop-edit.substitutions.items in
    let one : Given = record { start = c.in-Some.start; end = c.in-Some.end; text = c.text_in-is_known.result.0 } in
    let more : map told c.push_reserved.new.self.items ≡ map told made ++ told one ∷ [] = ap (map told) c.push_reserved.ensures.items ∙ map-append told made (one ∷ []) in (
      so_far-more c.one_place.ensures text is c.loop-edit.at (in_full (slice_index_or given i nothing)) (drop (i + 1) all) all (map told made) (map told c.push_reserved.new.self.items)
          c.loop-edit.is_utf8 c.text_in-is_known.result.1 (told one) (edit-next text c.loop-edit.at given i nothing all (map told made) c.loop-edit.is_utf8 c.loop-edit-test.true so.0)
          c.in-Some.ensures.span more c.text_in-is_known.ensures.utf8 c.text_in-is_known.ensures.broken,
      subst AreUtf8 (sym c.push_reserved.ensures.items) (All-push (λ (g : Given). IsUtf8 g.text.now) made one so.1 c.text_in-is_known.ensures.text),
      c.push_reserved.ensures.len ∙ ap (λ n. n + 1) so.2,
      c.push_reserved.ensures.capacity ∙ so.3,
    )

pub returns-then-not-is_utf8-clause-placed : goal.returns-then-not-is_utf8-clause-placed
returns-then-not-is_utf8-clause-placed c = λ _.
    so_far-placed _ _ _ _ _ (edit-last _ _ c.args.edits.now c.loop-edit.edit-index _ _ _ (omega (arith, c.loop-edit-test.false)) c.loop-edit.invariant.0)

pub returns-clause-lie : goal.returns-clause-lie
returns-clause-lie c =
    let text = text_of c.args.text.now in
    let all = map in_full c.args.edits.now in
    let made = map told c.loop-edit.substitutions.items in
    let is : c.loop-edit.is_utf8 ≡ true = cc in
    so_far-end text c.loop-edit.at all made
    (subst (AreSoFar text c.loop-edit.at [] all made) is
    (edit-last text c.loop-edit.at c.args.edits.now c.loop-edit.edit-index all made c.loop-edit.is_utf8 (omega (arith, c.loop-edit-test.false)) c.loop-edit.invariant.0))
