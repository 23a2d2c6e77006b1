-- Each match is at two boundaries of the text.
use Rattle.std.proofs.Common.{◌≡◌, ℕ, zero, suc, ◌+◌, ◌-◌, ◌<◌, ◌≤◌, true, ◌⊎◌, inl, inr, List, [], ◌∷◌, ◌++◌, length, map, take, drop, slice_index_or, refl, sym, ap, ◌∙◌, subst, All, append_assoc, arith, chars}
use Rattle.std.specs.Str.{all_scalars, IsUtf8, IsCharBoundary}
use Rattle.std.proofs.lemmas.Bool.{cases_lt}
use Rattle.std.proofs.lemmas.List.{take-take}
use Rattle.std.proofs.lemmas.List.Elements.{All-nil, All-cons, All-head, All-tail}
use Rattle.std.proofs.lemmas.Str.{len_utf8_bounds}
use Rattle.str_indices.specs.Text.{byte_len, units}
use Rattle.str_indices.specs.FirstBreak.{IsBreak}
use Rattle.ropey.specs.Chunks.{is_break}
use Rattle.rope_search_reports.specs.Text.{IsText, bytes_of, line_count}
use Rattle.regex_cursor.specs.Patterns.{FoundMatch, search_from, start_of, end_of}
use Rattle.regex_cursor.specs.PatternLaws as found
use Rattle.regex_cursor.specs.PatternLaws.{LiesBetween}
use Rattle.rope_search_reports.specs.Report.{line_texts, column, columns, IsRow, AreRows, IsReport}
use Rattle.rope_search_reports.specs.Matches.{IsMatches}
use Rattle.rope_search_reports.specs.Pattern.{span_of}
use Rattle.rope_search_reports.specs.Position.{line_at, line_start, line_text, text_end, IsAt, StandsAtBoundaries}
use Rattle.rope_search_reports.proofs.TextPlaces.{PlaceLaws}
use Rattle.rope_search_reports.proofs.LineLemmas.{byte_len-append, byte_len-one, lines-counted, lines-in-place}
use Rattle.rope_search_reports.proofs.MatchLemmas.{AllHaveFinds}
use Rattle.rope_search_reports.proofs.PlaceLemmas.{scalars-parts, split_at, front_of, line_inside}

-- ---- the rows of a report

row_at : (pattern : List ℕ) (lines : List (List ℕ)) (rows : List (List (ℕ × ℕ))) (k : ℕ) → AreRows pattern lines rows
    → ((k < length lines) × IsRow pattern (slice_index_or lines k []) (slice_index_or rows k [])) ⊎ (slice_index_or rows k [] ≡ [])
row_at p [] [] k are = inr refl
row_at p [] (r ∷ rows) k are = absurd are
row_at p (l ∷ lines) [] k are = absurd are
row_at p (l ∷ lines) (r ∷ rows) zero are = inl (omega arith, are.0)
row_at p (l ∷ lines) (r ∷ rows) (suc k) are = elim (row_at p lines rows k are.1) [
  | inl h ↦ inl (omega (arith, h.0), h.1)
  | inr none ↦ inr none
]

break_some : (one rest : List ℕ) → IsBreak is_break one rest → 0 < byte_len one
break_some [] rest is = absurd is
break_some (c ∷ cs) rest is = omega (arith, byte_len-one c cs, (len_utf8_bounds c).0)

module _ (law : PlaceLaws) (text : List ℕ) (scalars : all_scalars text ≡ true) (line : ℕ) (inside : line < line_count text) where
  abbrev own : List ℕ
  own = line_text text line

  pub own_scalars : all_scalars own ≡ true
  own_scalars =
      let h = lines-in-place text line inside in
      (scalars-parts own h.behind (scalars-parts h.before (own ++ h.behind) (sym (ap all_scalars h.parts) ∙ scalars)).1).0

  -- an offset in the line's text is in that line
  line_there : (i : ℕ) → i ≤ byte_len own → line_at text (line_start text line + i) ≡ line
  line_there i low =
      let h = lines-in-place text line inside in
      let place = line_start text line + i in
      let up : line ≤ line_at text place = (law.lines_agree text line place (omega (arith, inside))).0 (omega arith) in
      let below = line_inside text place in
      elim h.ended [
        | inl is_last ↦
            let last = is_last.last in
            omega (arith, up, below, last)
        | inr broken ↦
            let next = broken.next in
            let more = broken.more in
            let some = break_some broken.one broken.rest broken.is in
            elim (cases_lt line (line_at text place)) [
              | inl above ↦
                  let far = (law.lines_agree text (line + 1) place (omega (arith, more))).1 (omega (arith, above)) in
                  absurd (omega (arith, far, next, some, low))
              | inr not_above ↦ omega (arith, up, not_above)
            ]
      ]

  -- a boundary of the line's text is one of the text
  boundary_there : (i : ℕ) → IsCharBoundary (bytes_of own) i → IsCharBoundary (bytes_of text) (line_start text line + i)
  boundary_there i boundary =
      let h = lines-in-place text line inside in
      let s = split_at own i own_scalars boundary in
      let front = h.before ++ s.front in
      let parts : text ≡ front ++ (s.back ++ h.behind) =
      h.parts ∙ ap (λ o. h.before ++ (o ++ h.behind)) s.parts ∙ ap (λ t. h.before ++ t) (append_assoc s.front s.back h.behind) ∙ sym (append_assoc h.before s.front (s.back ++ h.behind)) in
      let starts = h.starts in
      let place_is = s.place_is in
      let there : line_start text line + i ≡ byte_len front = omega (arith, starts, place_is, byte_len-append h.before s.front) in
      let f = front_of law text front (s.back ++ h.behind) parts in
      subst (IsCharBoundary (bytes_of text)) (f.back_from_chars ∙ sym there) (law.char_boundaries text (length front) scalars)

  -- the column of an offset in the line's text
  column_there : (i : ℕ) → i ≤ byte_len own → column (bytes_of own) i ≡ units (chars (take (line_start text line + i - line_start text line) (drop (line_start text line) (bytes_of text))))
  column_there i low =
      let h = lines-in-place text line inside in
      let start = line_start text line in
      let width : text_end text line - start ≡ byte_len own = omega arith in
      let bytes : take (byte_len own) (drop start (bytes_of text)) ≡ bytes_of own = ap (λ n. take n (drop start (bytes_of text))) (sym width) ∙ h.bytes in
      let own_width : start + i - start ≡ i = omega arith in
      let taken : take i (bytes_of own) ≡ take (start + i - start) (drop start (bytes_of text)) =
      ap (take i) (sym bytes) ∙ take-take i (byte_len own) (drop start (bytes_of text)) low ∙ ap (λ n. take n (drop start (bytes_of text))) (sym own_width) in
      ap (λ bs. units (chars bs)) taken

  -- the position of a boundary of the line's text
  pub at_column : (i : ℕ) → IsCharBoundary (bytes_of own) i → IsAt text (line, column (bytes_of own) i) (line_start text line + i)
  at_column i boundary = record {
    boundary = boundary_there i boundary;
    same = ap (λ n. (line, n)) (column_there i boundary.0)
        ∙ ap (λ l. (l, units (chars (take (line_start text line + i - line_start text l) (drop (line_start text l) (bytes_of text)))))) (sym (line_there i boundary.0));
    within = up_to_end i boundary.0;
  }
    where
      up_to_end : (i : ℕ) → i ≤ byte_len own → line_start text line + i ≤ text_end text line
      up_to_end i low = omega (arith, low)

  -- of one match
  stands : (t : FoundMatch) → found.StandsAtBoundaries (bytes_of own) t → LiesBetween (search_from (bytes_of own) 0) (start_of t) (end_of t)
      → StandsAtBoundaries text line (columns (bytes_of own) (span_of t))
  stands t at between =
      let order = between.1 in
      record {
        start = line_start text line + start_of t;
        end = line_start text line + end_of t;
        starts = at_column (start_of t) at.start;
        ends = at_column (end_of t) at.end;
        ordered = omega (arith, order);
      }

  stand-all : (ms : List FoundMatch) → All (found.StandsAtBoundaries (bytes_of own)) ms
      → All (λ t. LiesBetween (search_from (bytes_of own) 0) (start_of t) (end_of t)) ms
      → All (StandsAtBoundaries text line) (map (columns (bytes_of own)) (map span_of ms))
  stand-all [] at between = All-nil (StandsAtBoundaries text line)
  stand-all (t ∷ ms) at between =
      let At : FoundMatch → Type 0 = found.StandsAtBoundaries (bytes_of own) in
      let Between : FoundMatch → Type 0 = λ u. LiesBetween (search_from (bytes_of own) 0) (start_of u) (end_of u) in
      All-cons (StandsAtBoundaries text line) (columns (bytes_of own) (span_of t)) (map (columns (bytes_of own)) (map span_of ms))
      (stands t (All-head At t ms at) (All-head Between t ms between)) (stand-all ms (All-tail At t ms at) (All-tail Between t ms between))

  all_stand : AllHaveFinds → (pattern : List ℕ) (spans : List (ℕ × ℕ)) → IsMatches pattern (bytes_of own) spans → All (StandsAtBoundaries text line) (map (columns (bytes_of own)) spans)
  all_stand finds pattern spans is =
      let has = finds is.are.tree in
      let content : IsUtf8 (bytes_of own) = (own, (own_scalars, refl)) in
      let search_it = search_from (bytes_of own) 0 in
      let at = has.list_at_boundaries search_it is.matches content refl is.are.are in
      let between = (has.rise search_it is.matches is.are.are).inside in
      subst (λ (ss : List (ℕ × ℕ)). All (StandsAtBoundaries text line) (map (columns (bytes_of own)) ss)) (sym is.spans_are) (stand-all is.matches at between)

-- each match of a report is at boundaries
pub stand : PlaceLaws → AllHaveFinds → (text pattern : List ℕ) (rows : List (List (ℕ × ℕ))) (line : ℕ) → IsText text → IsReport text pattern rows
    → All (StandsAtBoundaries text line) (slice_index_or rows line [])
stand law finds text pattern rows line scalars report = elim (row_at pattern (line_texts text) rows line report) [
  | inl h ↦
      let row = h.1 in
      let inside : line < line_count text = omega (arith, h.0, lines-counted text) in
      subst (All (StandsAtBoundaries text line)) (sym row.shown) (all_stand law text scalars line inside finds pattern row.spans row.are)
  | inr none ↦ subst (All (StandsAtBoundaries text line)) (sym none) (All-nil (StandsAtBoundaries text line))
]
