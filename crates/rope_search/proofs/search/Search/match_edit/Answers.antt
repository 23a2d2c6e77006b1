use Rattle.std.proofs.Common.{◌≡◌, ℕ, ◌<◌, ◌⊎◌, List, [], ◌∷◌, None, Some, Ok, Err, inl, inr, map, option_map, chars, string_bytes, slice_index_or, refl, ap, sym, subst, ◌∙◌}
use Rattle.std.specs.Prelude.{slice_get}
use Rattle.std.proofs.lemmas.Result.{err_from_is_err_and}
use Rattle.std.proofs.lemmas.Str.{chars-encodes, scalars-chars}
use Rattle.ropey.specs.Chunks.{text_of}
use Rattle.rope_search_io.specs.declared.faults.Fault.TheVariants.{Range, Size, Memory}
use Rattle.rope_search_reports.specs.Position.{StandsAtBoundaries, line_text}
use Rattle.rope_search_reports.specs.Replacement.{HasSpansIn, expand, replaced, whole}
use Rattle.rope_search_reports.specs.Text.{IsText, bytes_of, line_count}
use Rattle.rope_search_reports.specs.declared.positions.Position.{Position}
use Rattle.str_indices.specs.Text.{byte_len}
use Rattle.rope_search.specs.MatchEdits.{expansion, placed}
use Rattle.rope_search.proofs.MatchEditLemmas.{expand-scalars, first-in, in-lines, none-in, not-none-in, some-between, stands-at, too-long}
use Rattle.rope_search.proofs.PartLaws.{cutting_scalars}
use Rattle.rope_search.proofs.PlacedLemmas.{placed-expand, placed-spans}
use Rattle.rope_search.proofs.search.Search.match_edit.Goals as goal

pub returns-in_default-clause-range : goal.returns-in_default-clause-range
returns-in_default-clause-range c =
    let text = text_of c.args.text.now in
    let finder = c.args.self.now.finder in
    let rows = c.args.self.now.rows.items in
    let count = c.a_row_a_line.ensures in
    let law = c.groups_are_of_rows.ensures in
    let line = c.args.line in
    let number = c.args.number in
    let none : slice_get (slice_index_or rows line []) number ≡ None =
    ap (λ (rs : List (List (ℕ × ℕ))). slice_get (slice_index_or rs line []) number) (sym c.deref.ensures.value) ∙ sym c.columns_at.ensures ∙ c.in_default.is in
    (λ _. none-in count text finder rows c.requires.report line number none, λ _. refl)

pub returns-in_err-groups-clause-range : goal.returns-in_err-groups-clause-range
returns-in_err-groups-clause-range c =
    let text = text_of c.args.text.now in
    let finder = c.args.self.now.finder in
    let rows = c.args.self.now.rows.items in
    let count = c.a_row_a_line.ensures in
    let law = c.groups_are_of_rows.ensures in
    let line = c.args.line in
    let number = c.args.number in
    let columns = c.in-Some.columns in
    let listed : slice_get (slice_index_or rows line []) number ≡ Some columns =
    ap (λ (rs : List (List (ℕ × ℕ))). slice_get (slice_index_or rs line []) number) (sym c.deref.ensures.value) ∙ sym c.columns_at.ensures ∙ c.in-Some.is in
    let p = err_from_is_err_and c.from_residual.result c.from_residual.ensures.1 in
    let fault = c.in_err-groups.ensures.fault in
    (λ e. absurd (cc), λ none. absurd (not-none-in count text finder rows c.requires.report line number law columns listed none))

pub expanded-requires-clause-spans : goal.expanded-requires-clause-spans
expanded-requires-clause-spans c =
    let text = text_of c.args.text.now in
    let finder = c.args.self.now.finder in
    let rows = c.args.self.now.rows.items in
    let count = c.a_row_a_line.ensures in
    let law = c.groups_are_of_rows.ensures in
    let line = c.args.line in
    let number = c.args.number in
    let columns = c.in-Some.columns in
    let listed : slice_get (slice_index_or rows line []) number ≡ Some columns =
    ap (λ (rs : List (List (ℕ × ℕ))). slice_get (slice_index_or rs line []) number) (sym c.deref.ensures.value) ∙ sym c.columns_at.ensures ∙ c.in-Some.is in
    let serve = c.in_ok-groups.ensures.groups in
    let whole_is : whole serve.own ≡ columns = first-in count text finder rows c.requires.report line number law columns serve.own listed serve.found in
    let some : c.in_ok-groups.groups ≡ Some columns ∷ serve.others = serve.some ∙ ap (λ v. Some v ∷ serve.others) (serve.same ∙ whole_is) in
    let inside : line < line_count text = in-lines count text finder rows c.requires.report line number columns listed in
    let scalars : IsText text = cutting_scalars c.args.text.now c.len_bytes.ensures.cut.cut in
    subst (HasSpansIn (bytes_of text)) (sym c.groups_in_text-groups.ensures) (placed-spans text line scalars inside c.in_ok-groups.groups)

pub returns-in_err-inserted-clause-range : goal.returns-in_err-inserted-clause-range
returns-in_err-inserted-clause-range c =
    let text = text_of c.args.text.now in
    let finder = c.args.self.now.finder in
    let rows = c.args.self.now.rows.items in
    let count = c.a_row_a_line.ensures in
    let law = c.groups_are_of_rows.ensures in
    let line = c.args.line in
    let number = c.args.number in
    let columns = c.in-Some.columns in
    let listed : slice_get (slice_index_or rows line []) number ≡ Some columns =
    ap (λ (rs : List (List (ℕ × ℕ))). slice_get (slice_index_or rs line []) number) (sym c.deref.ensures.value) ∙ sym c.columns_at.ensures ∙ c.in-Some.is in
    let p = err_from_is_err_and c.from_residual-in_err-inserted.result c.from_residual-in_err-inserted.ensures.1 in (
      λ e. absurd (elim c.in_err-inserted.ensures.fault [
        | inl size ↦ absurd (cc)
        | inr memory ↦ absurd (cc)
      ]),
      λ none. absurd (not-none-in count text finder rows c.requires.report line number law columns listed none),
    )

pub returns-in_err-inserted-clause-size : goal.returns-in_err-inserted-clause-size
returns-in_err-inserted-clause-size c = λ told.
    let text = text_of c.args.text.now in
    let finder = c.args.self.now.finder in
    let rows = c.args.self.now.rows.items in
    let count = c.a_row_a_line.ensures in
    let law = c.groups_are_of_rows.ensures in
    let line = c.args.line in
    let number = c.args.number in
    let columns = c.in-Some.columns in
    let listed : slice_get (slice_index_or rows line []) number ≡ Some columns =
    ap (λ (rs : List (List (ℕ × ℕ))). slice_get (slice_index_or rs line []) number) (sym c.deref.ensures.value) ∙ sym c.columns_at.ensures ∙ c.in-Some.is in
    let serve = c.in_ok-groups.ensures.groups in
    let whole_is : whole serve.own ≡ columns = first-in count text finder rows c.requires.report line number law columns serve.own listed serve.found in
    let some : c.in_ok-groups.groups ≡ Some columns ∷ serve.others = serve.some ∙ ap (λ v. Some v ∷ serve.others) (serve.same ∙ whole_is) in
    let inside : line < line_count text = in-lines count text finder rows c.requires.report line number columns listed in
    let scalars : IsText text = cutting_scalars c.args.text.now c.len_bytes.ensures.cut.cut in
    let p = err_from_is_err_and c.from_residual-in_err-inserted.result c.from_residual-in_err-inserted.ensures.1 in
    let fault : c.in_err-inserted.field-0.0 ≡ Size = cc in
    let long = c.in_err-inserted.ensures.size (ap Err fault) in
    let template = chars c.args.template.now in
    let own = line_text text line in
    let at = stands-at text finder rows line number columns scalars c.requires.report c.matches_at_boundaries.ensures listed in
    let by = expansion own serve.own template in
    let alike : by ≡ expansion own c.in_ok-groups.groups c.new-template.result = ap (expansion own serve.own) (sym c.new-template.ensures) ∙ sym serve.alike in
    record {
      from = record { line = line; column = columns.0 };
      to = record { line = line; column = columns.1 };
      inserted = by;
      replaces = record {
        groups = serve.own;
        found = serve.found;
        starts = ap (λ (p : ℕ × ℕ). record { line = line; column = p.0 }) (sym whole_is);
        ends = ap (λ (p : ℕ × ℕ). record { line = line; column = p.1 }) (sym whole_is);
        expands = refl;
      };
      scalars = subst IsText (placed-expand text line scalars inside c.in_ok-groups.groups c.new-template.result ∙ sym alike)
          (expand-scalars (bytes_of text) (map (option_map (placed text line)) c.in_ok-groups.groups) c.new-template.result (text, (scalars, refl))
          (placed-spans text line scalars inside c.in_ok-groups.groups) (subst IsText (sym c.new-template.ensures) (scalars-chars c.args.template.now c.utf8.template)));
      long = too-long text line scalars inside c.args.limits.text c.in_ok-groups.groups columns serve.others c.new-template.result by at some alike
          (subst (λ g. c.args.limits.text < byte_len (replaced (bytes_of text) c.new-template.result 0 (g ∷ []))) c.groups_in_text-groups.ensures long);
    }

pub returns-clause-edit : goal.returns-clause-edit
returns-clause-edit c =
    let text = text_of c.args.text.now in
    let finder = c.args.self.now.finder in
    let rows = c.args.self.now.rows.items in
    let count = c.a_row_a_line.ensures in
    let law = c.groups_are_of_rows.ensures in
    let line = c.args.line in
    let number = c.args.number in
    let columns = c.in-Some.columns in
    let listed : slice_get (slice_index_or rows line []) number ≡ Some columns =
    ap (λ (rs : List (List (ℕ × ℕ))). slice_get (slice_index_or rs line []) number) (sym c.deref.ensures.value) ∙ sym c.columns_at.ensures ∙ c.in-Some.is in
    let serve = c.in_ok-groups.ensures.groups in
    let whole_is : whole serve.own ≡ columns = first-in count text finder rows c.requires.report line number law columns serve.own listed serve.found in
    let some : c.in_ok-groups.groups ≡ Some columns ∷ serve.others = serve.some ∙ ap (λ v. Some v ∷ serve.others) (serve.same ∙ whole_is) in
    let inside : line < line_count text = in-lines count text finder rows c.requires.report line number columns listed in
    let scalars : IsText text = cutting_scalars c.args.text.now c.len_bytes.ensures.cut.cut in
    let own = line_text text line in
    let told = c.in_ok-inserted.ensures in
    record {
      groups = serve.own;
      found = serve.found;
      starts = ap (λ (p : ℕ × ℕ). record { line = line; column = p.0 }) (sym whole_is);
      ends = ap (λ (p : ℕ × ℕ). record { line = line; column = p.1 }) (sym whole_is);
      expands = ap chars told.text ∙ chars-encodes (expand (bytes_of text) c.groups_in_text-groups.result c.new-template.result) told.scalars
          ∙ ap (λ g. expand (bytes_of text) g c.new-template.result) c.groups_in_text-groups.ensures
          ∙ placed-expand text line scalars inside c.in_ok-groups.groups c.new-template.result ∙ serve.alike ∙ ap (expansion own serve.own) c.new-template.ensures;
    }

pub returns-clause-utf8 : goal.returns-clause-utf8
returns-clause-utf8 c =
    let told = c.in_ok-inserted.ensures in
    (expand (bytes_of (text_of c.args.text.now)) c.groups_in_text-groups.result c.new-template.result, (told.scalars, sym told.text))

pub returns-clause-there : goal.returns-clause-there
returns-clause-there c =
    let text = text_of c.args.text.now in
    let finder = c.args.self.now.finder in
    let rows = c.args.self.now.rows.items in
    let count = c.a_row_a_line.ensures in
    let law = c.groups_are_of_rows.ensures in
    let line = c.args.line in
    let number = c.args.number in
    let columns = c.in-Some.columns in
    let listed : slice_get (slice_index_or rows line []) number ≡ Some columns =
    ap (λ (rs : List (List (ℕ × ℕ))). slice_get (slice_index_or rs line []) number) (sym c.deref.ensures.value) ∙ sym c.columns_at.ensures ∙ c.in-Some.is in
    let serve = c.in_ok-groups.ensures.groups in
    let whole_is : whole serve.own ≡ columns = first-in count text finder rows c.requires.report line number law columns serve.own listed serve.found in
    let some : c.in_ok-groups.groups ≡ Some columns ∷ serve.others = serve.some ∙ ap (λ v. Some v ∷ serve.others) (serve.same ∙ whole_is) in
    let inside : line < line_count text = in-lines count text finder rows c.requires.report line number columns listed in
    let scalars : IsText text = cutting_scalars c.args.text.now c.len_bytes.ensures.cut.cut in
    some-between text line scalars inside columns (stands-at text finder rows line number columns scalars c.requires.report c.matches_at_boundaries.ensures listed)

pub returns-clause-range : goal.returns-clause-range
returns-clause-range c =
    let text = text_of c.args.text.now in
    let finder = c.args.self.now.finder in
    let rows = c.args.self.now.rows.items in
    let count = c.a_row_a_line.ensures in
    let law = c.groups_are_of_rows.ensures in
    let line = c.args.line in
    let number = c.args.number in
    let columns = c.in-Some.columns in
    let listed : slice_get (slice_index_or rows line []) number ≡ Some columns =
    ap (λ (rs : List (List (ℕ × ℕ))). slice_get (slice_index_or rs line []) number) (sym c.deref.ensures.value) ∙ sym c.columns_at.ensures ∙ c.in-Some.is in
    (λ e. absurd (cc), λ none. absurd (not-none-in count text finder rows c.requires.report line number law columns listed none))
