-- Positions in their lines' texts: a prefix of a line's text ends at a position, and each position
-- of the line ends a prefix.
use Rattle.std.proofs.Common.{◌≡◌, ℕ, ◌+◌, ◌-◌, ◌<◌, ◌≤◌, inl, inr, List, [], ◌∷◌, ◌++◌, length, take, refl, ap, sym, subst, ◌∙◌, arith, append_assoc}
use Rattle.std.specs.Prelude.{All, slice_index_or}
use Rattle.std.specs.Str.{IsCharBoundary}
use Rattle.std.proofs.lemmas.Bool.{cases_lt}
use Rattle.std.proofs.lemmas.List.{length-append}
use Rattle.std.proofs.lemmas.List.Elements.{All-weaker}
use Rattle.std.proofs.lemmas.List.Sums.{sum_by-append}
use Rattle.std.proofs.lemmas.Str.{len_utf8_bounds}
use Rattle.str_indices.specs.FirstBreak.{IsBreak}
use Rattle.str_indices.specs.Text.{byte_len, char_ends, ends_up_to, units, units_of}
use Rattle.ropey.specs.Chunks.{is_break}
use Rattle.rope_search_reports.specs.Laws.{MatchesStandAtBoundaries}
use Rattle.rope_search_reports.specs.Position.{IsAt, StandsAtBoundaries, column_at, line_at, line_start, line_text, position, text_end}
use Rattle.rope_search_reports.specs.Report.{IsReport}
use Rattle.rope_search_reports.specs.Text.{IsText, bytes_of, line_count}
use Rattle.rope_search_reports.specs.declared.positions.Position.{Position}
use Rattle.rope_search_reports.proofs.LineLemmas.{byte_len-append, byte_len-one, lines-in-place}
use Rattle.rope_search_reports.proofs.PlaceLemmas.{front_of, in_line, line_inside}
use Rattle.rope_search_reports.proofs.SpotLemmas.{spot-one}
use Rattle.rope_search_reports.proofs.SpotsInLines.{in_own}
use Rattle.rope_search_reports.proofs.TextPlaces.{places}
use Rattle.rope_search.specs.Encodings.{IsAtIn, column_in}
use Rattle.rope_search.specs.LineColumns.{AreColumnsOf, IsClamped, IsColumnOf, IsLongestFront, ReportsHaveColumns, length_in}
use Rattle.rope_search.specs.declared.encodings.Encoding.{Encoding}
use Rattle.rope_search.specs.declared.encodings.Encoding.TheVariants.{Utf8, Utf16, Utf32}
use Rattle.rope_search.proofs.FrontLemmas.{is-column}
use Rattle.rope_search.proofs.PartLaws.{fronts_one}

-- ---- a prefix of a line's text

break_some : (one rest : List ℕ) → IsBreak is_break one rest → 0 < byte_len one
break_some [] rest is = absurd is
break_some (c ∷ cs) rest is = omega (arith, byte_len-one c cs, (len_utf8_bounds c).0)

-- an offset up to the end of a line's text is in that line
line-there : (text : List ℕ) (line place : ℕ) → line < line_count text → line_start text line ≤ place → place ≤ text_end text line → line_at text place ≡ line
line-there text line place inside low high =
    let h = lines-in-place text line inside in
    let up : line ≤ line_at text place = (places.lines_agree text line place (omega (arith, inside))).0 low in
    let below = line_inside text place in
    elim h.ended [
      | inl is_last ↦
          let last = is_last.last in
          omega (arith, up, below, last)
      | inr broken ↦
          let next = broken.next in
          let more = broken.more in
          let some = break_some broken.one broken.rest broken.is in
          elim (cases_lt line (line_at text place)) [
            | inl above ↦
                let far = (places.lines_agree text (line + 1) place (omega (arith, more))).1 (omega (arith, above)) in
                absurd (omega (arith, far, next, some, high))
            | inr not_above ↦ omega (arith, up, not_above)
          ]
    ]

pub front-at : (text : List ℕ) (line : ℕ) (front back : List ℕ) → IsText text → line < line_count text → line_text text line ≡ front ++ back
    → IsAt text (line, units front) (line_start text line + byte_len front)
front-at text line front back scalars inside parts =
    let h = lines-in-place text line inside in
    let starts = h.starts in
    let place = line_start text line + byte_len front in
    let whole : text ≡ (h.before ++ front) ++ (back ++ h.behind) =
    h.parts ∙ ap (λ o. h.before ++ (o ++ h.behind)) parts ∙ ap (λ t. h.before ++ t) (append_assoc front back h.behind) ∙ sym (append_assoc h.before front (back ++ h.behind)) in
    let there : place ≡ byte_len (h.before ++ front) = omega (arith, starts, byte_len-append h.before front) in
    let f = front_of places text (h.before ++ front) (back ++ h.behind) whole in
    let boundary : IsCharBoundary (bytes_of text) place =
    subst (IsCharBoundary (bytes_of text)) (f.back_from_chars ∙ sym there) (places.char_boundaries text (length (h.before ++ front)) scalars) in
    let high : place ≤ text_end text line = omega (arith, ap byte_len parts, byte_len-append front back) in
    let line_is = line-there text line place inside (omega arith) high in
    let i = in_line places text scalars place boundary in
    let i_starts : line_start text (line_at text place) ≡ byte_len i.before = i.line.starts ∙ ap byte_len i.same in
    let len : byte_len i.before ≡ byte_len h.before = sym i_starts ∙ ap (line_start text) line_is ∙ starts in
    let joined : i.before ++ (i.mid ++ i.back) ≡ h.before ++ (front ++ (back ++ h.behind)) =
    sym (append_assoc i.before i.mid i.back) ∙ sym i.parts ∙ whole ∙ append_assoc h.before front (back ++ h.behind) in
    let first = fronts_one i.before (i.mid ++ i.back) h.before (front ++ (back ++ h.behind)) joined len in
    let place_is = i.place_is in
    let width : byte_len i.mid ≡ byte_len front = omega (arith, place_is, byte_len-append i.before i.mid, starts, len) in
    let second = fronts_one i.mid i.back front (back ++ h.behind) first.1 width in
    let column_is : column_at text place ≡ units front = i.column ∙ ap units second.0 in
    record {
      boundary = boundary;
      same = ap (λ l. (l, units front)) (sym line_is) ∙ ap (λ n. (line_at text place, n)) (sym column_is);
      within = high;
    }

-- the column at its end is its length
pub column-of-front : (encoding : Encoding) (text : List ℕ) (line : ℕ) (front back : List ℕ) → IsText text → line < line_count text → line_text text line ≡ front ++ back
    → column_in encoding text (line_start text line + byte_len front) ≡ length_in encoding front
column-of-front Utf8 text line front back scalars inside parts =
    let place = line_start text line + byte_len front in
    let at = front-at text line front back scalars inside parts in
    let line_is : line ≡ line_at text place = ap (λ (p : ℕ × ℕ). p.0) at.same in
    let less : place - line_start text line ≡ byte_len front = omega arith in
    ap (λ l. place - line_start text l) (sym line_is) ∙ less
column-of-front Utf16 text line front back scalars inside parts = sym (ap (λ (p : ℕ × ℕ). p.1) (front-at text line front back scalars inside parts).same)
column-of-front Utf32 text line front back scalars inside parts =
    let place = line_start text line + byte_len front in
    let at = front-at text line front back scalars inside parts in
    let line_is : line ≡ line_at text place = ap (λ (p : ℕ × ℕ). p.0) at.same in
    let h = lines-in-place text line inside in
    let whole : text ≡ (h.before ++ front) ++ (back ++ h.behind) =
    h.parts ∙ ap (λ o. h.before ++ (o ++ h.behind)) parts ∙ ap (λ t. h.before ++ t) (append_assoc front back h.behind) ∙ sym (append_assoc h.before front (back ++ h.behind)) in
    let there : place ≡ byte_len (h.before ++ front) = omega (arith, h.starts, byte_len-append h.before front) in
    let first : ends_up_to (line_start text line) (char_ends text) ≡ length h.before =
    ap (λ n. ends_up_to n (char_ends text)) h.starts ∙ (front_of places text h.before (line_text text line ++ h.behind) h.parts).chars_are in
    let last : ends_up_to place (char_ends text) ≡ length (h.before ++ front) =
    ap (λ n. ends_up_to n (char_ends text)) there ∙ (front_of places text (h.before ++ front) (back ++ h.behind) whole).chars_are in
    let same : ends_up_to (line_start text (line_at text place)) (char_ends text) ≡ ends_up_to (line_start text line) (char_ends text) =
    ap (λ l. ends_up_to (line_start text l) (char_ends text)) (sym line_is) in
    omega (arith, first, last, same, length-append h.before front)

-- ---- a position of a line

-- a prefix of the line's text ends there
pub record EndsFront (text : List ℕ) (line place : ℕ) : Type 0 where
  pub inside : line < line_count text
  pub front : List ℕ
  pub back : List ℕ
  pub parts : line_text text line ≡ front ++ back
  pub units_are : column_at text place ≡ units front
  pub place_is : place ≡ line_start text line + byte_len front

pub ends-front : (text : List ℕ) (line column place : ℕ) → IsText text → IsAt text (line, column) place → EndsFront text line place
ends-front text line column place scalars at =
    let own = in_own places text scalars line column place at in
    let told : column ≡ column_at text place = ap (λ (p : ℕ × ℕ). p.1) at.same in
    let there = front-at text line own.front own.back scalars own.inside own.parts in
    record {
      inside = own.inside;
      front = own.front;
      back = own.back;
      parts = own.parts;
      units_are = sym told ∙ own.units_are;
      place_is = spot-one places text scalars (line, column) place (line_start text line + byte_len own.front) at
          (subst (λ n. IsAt text (line, n) (line_start text line + byte_len own.front)) (sym own.units_are) there);
    }

-- ---- clamped positions

pub clamped-inside : (encoding : Encoding) (text : List ℕ) (line column told : ℕ) (front : List ℕ) → IsText text → line < line_count text
    → IsLongestFront encoding (line_text text line) column front → told ≡ units front → IsClamped encoding text line column (record { line = line; column = told })
clamped-inside encoding text line column told front scalars inside longest is =
    let place = line_start text line + byte_len front in
    let at = front-at text line front longest.back scalars inside longest.parts in
    let fits = longest.fits in
    record {
      place = place;
      at = subst (λ n. IsAt text (line, n) place) (sym is) at;
      inside = λ _. record {
        line_is = ap (λ (p : ℕ × ℕ). p.0) at.same;
        fits = omega (arith, fits, column-of-front encoding text line front longest.back scalars inside longest.parts);
        last = λ other own there low.
            let spot : IsAt text (line, column_at text other) other = record {
              boundary = there.boundary;
              same = ap (λ n. (n, column_at text other)) there.line_is;
              within = there.within;
            } in
            let f = ends-front text line (column_at text other) other scalars spot in
            let told_is : own ≡ length_in encoding f.front =
            there.column_is ∙ ap (column_in encoding text) f.place_is ∙ column-of-front encoding text line f.front f.back scalars inside f.parts in
            let shorter = longest.longest f.front f.back f.parts (omega (arith, told_is, low)) in
            omega (arith, shorter, f.place_is);
      };
      past = λ over. absurd (omega (arith, over, inside));
    }

-- the position of the text's end is there
pub end-at : (text : List ℕ) → IsText text → IsAt text (position text (byte_len text)) (byte_len text)
end-at text scalars =
    let place = byte_len text in
    let line = line_at text place in
    let inside = line_inside text place in
    let h = lines-in-place text line inside in
    record {
      boundary = (omega arith, λ low high. absurd (omega (arith, low)));
      same = refl;
      within = elim h.ended [
        | inl last ↦ omega (arith, last.ends)
        | inr broken ↦
            let more = broken.more in
            let next = broken.next in
            let starts = h.starts in
            let ends : line_start text (line + 1) ≤ place =
            omega (
              arith,
              next,
              starts,
              ap byte_len h.parts,
              byte_len-append h.before (line_text text line ++ h.behind),
              byte_len-append (line_text text line) h.behind,
              ap byte_len broken.splits,
              byte_len-append broken.one broken.rest,
            ) in
            let up = (places.lines_agree text (line + 1) place (omega (arith, more))).0 ends in
            absurd (omega (arith, up))
      ];
    }

pub clamped-past : (encoding : Encoding) (text : List ℕ) (line column place : ℕ) (told : Position) → IsText text → line_count text ≤ line → place ≡ byte_len text
    → (told.line, told.column) ≡ position text place → IsClamped encoding text line column told
clamped-past encoding text line column place told scalars past end is = record {
  place = byte_len text;
  at = subst (λ p. IsAt text p (byte_len text)) (sym (is ∙ ap (position text) end)) (end-at text scalars);
  inside = λ low. absurd (omega (arith, low, past));
  past = λ _. refl;
}

-- ---- columns of a report

stand-in : (text : List ℕ) (line : ℕ) → IsText text → (shown : ℕ × ℕ) → StandsAtBoundaries text line shown → AreColumnsOf (line_text text line) shown
stand-in text line scalars shown at =
    let first = ends-front text line shown.0 at.start scalars at.starts in
    let last = ends-front text line shown.1 at.end scalars at.ends in
    let start_is : shown.0 ≡ column_at text at.start = ap (λ (p : ℕ × ℕ). p.1) at.starts.same in
    let end_is : shown.1 ≡ column_at text at.end = ap (λ (p : ℕ × ℕ). p.1) at.ends.same in (
      is-column (line_text text line) first.front first.back shown.0 first.parts (start_is ∙ first.units_are),
      is-column (line_text text line) last.front last.back shown.1 last.parts (end_is ∙ last.units_are),
    )

pub reports-have-columns : MatchesStandAtBoundaries → ReportsHaveColumns
reports-have-columns stand text pattern rows line scalars are =
    All-weaker (StandsAtBoundaries text line) (AreColumnsOf (line_text text line)) (stand-in text line scalars) (slice_index_or rows line [])
    (stand text pattern rows line scalars are)
