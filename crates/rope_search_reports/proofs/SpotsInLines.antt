-- Where a position is in its line's text.
use Rattle.std.proofs.Common.{◌≡◌, ℕ, ◌<◌, ◌≤◌, true, List, [], ◌∷◌, ◌++◌, length, take, sym, ap, subst, ◌∙◌, arith, append_assoc}
use Rattle.std.specs.Str.{all_scalars}
use Rattle.std.proofs.lemmas.Str.{len_utf8_bounds}
use Rattle.str_indices.specs.Text.{byte_len, units}
use Rattle.rope_search_reports.specs.Text.{line_count}
use Rattle.rope_search_reports.proofs.TextPlaces.{PlaceLaws}
use Rattle.rope_search_reports.specs.Position.{line_at, line_text, text_end, IsAt, IsNowhere}
use Rattle.rope_search_reports.proofs.LineLemmas.{byte_len-append, byte_len-one}
use Rattle.rope_search_reports.proofs.PlaceLemmas.{cut_off, front_within, in_line, line_inside}

-- a text has no more characters than bytes
pub few-chars : (t : List ℕ) → length t ≤ byte_len t
few-chars [] = omega arith
few-chars (c ∷ cs) = omega (arith, few-chars cs, byte_len-one c cs, (len_utf8_bounds c).0)

module _ (law : PlaceLaws) (text : List ℕ) (scalars : all_scalars text ≡ true) (line column : ℕ) where
  -- a position's offset is in its line's text, after `column` code units
  pub record InOwn (place : ℕ) : Type 0 where
    pub inside : line < line_count text
    pub front : List ℕ
    pub back : List ℕ
    pub parts : line_text text line ≡ front ++ back
    pub units_are : column ≡ units front

  pub in_own : (place : ℕ) → IsAt text (line, column) place → InOwn place
  in_own place at =
      let h = in_line law text scalars place at.boundary in
      let line_is : line ≡ line_at text place = ap (λ p. p.0) at.same in
      let column_is = ap (λ p. p.1) at.same in
      let own = line_text text (line_at text place) in
      let behind = h.line.behind in
      let same = h.same in
      let e : h.mid ++ h.back ≡ own ++ behind =
      cut_off h.before (h.mid ++ h.back) (own ++ behind) (sym (append_assoc h.before h.mid h.back) ∙ sym h.parts ∙ h.line.parts ∙ ap (λ s. s ++ (own ++ behind)) same) in
      let starts = h.line.starts in
      let place_is = h.place_is in
      let low = at.within in
      let low' : place ≤ text_end text (line_at text place) = subst (λ (l : ℕ). place ≤ text_end text l) line_is low in
      let below : byte_len h.mid ≤ byte_len own = omega (arith, low', starts, ap byte_len same, place_is, byte_len-append h.before h.mid) in
      let rest = front_within h.mid h.back own behind e below in
      let column' = h.column in
      record {
        inside = omega (arith, line_is, line_inside text place);
        front = h.mid;
        back = rest.0;
        parts = ap (line_text text) line_is ∙ rest.1;
        units_are = omega (arith, column_is, column');
      }

  -- the text has no such line
  pub no_line : line_count text ≤ line → IsNowhere text (line, column)
  no_line past place at = let inside = (in_own place at).inside in omega (arith, past, inside)

  -- its offset, from the line's start
  pub record IsFoundAt (byte_idx char_idx : ℕ) : Type 0 where
    pub at : IsAt text (line, column) byte_idx
    pub within : char_idx ≤ length text
    pub bytes : byte_len (take char_idx text) ≡ byte_idx
