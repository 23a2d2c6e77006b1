use Rattle.std.proofs.Common.{◌≡◌, ◌==◌, true, List, ◌+◌, ◌∷◌, [], ◌++◌, length, map, take, slice_index_or, refl, ap, sym, subst, ◌∙◌, append_assoc, append-nil, arith}
use Rattle.std.proofs.lemmas.Bool.Decides.{nat_tests}
use Rattle.std.proofs.lemmas.List.{map-append, take_all, take_more}
use Rattle.str_indices.specs.Text.{byte_len}
use Rattle.ropey.specs.Chunks.{text_of}
use Rattle.ropey.specs.Slices.{slice_text}
use Rattle.rope_search_reports.specs.LineGroups.{moved_span}
use Rattle.rope_search_reports.specs.Position.{line_start, line_text}
use Rattle.rope_search.specs.LineColumns.{AreColumnsOf, columns_as}
use Rattle.rope_search.specs.ListedReplacing.{listed_span}
use Rattle.rope_search.specs.declared.encodings.Encoding.TheVariants.{Utf8}
use Rattle.rope_search.proofs.PartLaws.{byte_len-append}
use Rattle.rope_search.proofs.listed_matches.add_spans.Goals as goal

empty-map : {A : Type 0} {B : Type 0} (f : A → B) (row : List A) → true ≡ (length row == 0) → map f row ≡ []
empty-map {A} {B} f row is = by row (grind (arith, nat_tests, is))
  where
    by : (row : List A) → length row ≡ 0 → map f row ≡ []
    by [] none = refl
    by (a ∷ row) none = absurd (omega (arith, none))

pub returns-then-is_empty-clause-spans : goal.returns-then-is_empty-clause-spans
returns-then-is_empty-clause-spans c = sym (ap (λ l. c.args.spans.now.items ++ l) (empty-map _ c.args.row.now c.if-is_empty.ensures) ∙ append-nil c.args.spans.now.items)

pub loop-columns-init : goal.loop-columns-init
loop-columns-init c = sym (append-nil _)

pub span_at-requires-clause-columns : goal.span_at-requires-clause-columns
span_at-requires-clause-columns c =
    subst (λ t. AreColumnsOf t (slice_index_or c.args.row.now c.loop-columns.columns-index (0, 0))) (sym c.line_text-line.ensures)
    (c.requires.columns c.loop-columns.columns-index (0, 0) c.loop-columns-test.true)

pub span_at-requires-clause-fits : goal.span_at-requires-clause-fits
span_at-requires-clause-fits c =
    let text = text_of c.args.text.now in
    let h = c.lines_in_place.ensures text c.args.line_idx c.requires.inside in
    let own = line_text text c.args.line_idx in
    omega (
      arith,
      c.line_to_byte-start.ensures,
      h.starts,
      ap byte_len c.line_text-line.ensures,
      ap byte_len h.parts,
      byte_len-append h.before (own ++ h.behind),
      byte_len-append own h.behind,
      c.len_bytes.ensures.bytes,
      c.len_bytes.ensures.fits,
    )

pub loop-columns-preserved : goal.loop-columns-preserved
loop-columns-preserved c =
    let text = text_of c.args.text.now in
    let f = listed_span text c.args.line_idx in
    let row = c.args.row.now in
    let i = c.loop-columns.columns-index in
    let shown = slice_index_or row i (0, 0) in
    let told : c.span_at.result ≡ f shown =
    c.span_at.ensures ∙ ap (λ n. moved_span n (columns_as Utf8 (slice_text c.line_text-line.result) shown)) c.line_to_byte-start.ensures
    ∙ ap (λ t. moved_span (line_start text c.args.line_idx) (columns_as Utf8 t shown)) c.line_text-line.ensures in
    c.in_ok-push.ensures.items
    ∙ ap (λ s. c.loop-columns.spans.items ++ s ∷ []) told
    ∙ ap (λ l. l ++ f shown ∷ []) c.loop-columns.invariant
    ∙ append_assoc c.args.spans.now.items (map f (take i row)) (f shown ∷ [])
    ∙ ap (λ l. c.args.spans.now.items ++ l) (sym (ap (map f) (take_more row i (0, 0) c.loop-columns-test.true) ∙ map-append f (take i row) (shown ∷ [])))

pub returns-clause-spans : goal.returns-clause-spans
returns-clause-spans c =
    c.loop-columns.invariant
    ∙ ap (λ l. c.args.spans.now.items ++ map (listed_span (text_of c.args.text.now) c.args.line_idx) l) (take_all c.loop-columns.columns-index c.args.row.now (omega (arith, c.loop-columns-test.false)))
