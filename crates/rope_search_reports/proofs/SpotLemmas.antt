-- Where a position is: its offset in code units, at which no CR LF is split.
use Rattle.std.proofs.Common.{◌≡◌, ℕ, ◌+◌, ◌<◌, ◌≤◌, ◌&&◌, true, false, List, [], ◌∷◌, ◌++◌, take, drop, slice_index_or, refl, ap, arith, sym, ◌∙◌, subst, append-nil, append_assoc}
use Rattle.std.specs.Str.{all_scalars, NonePass}
use Rattle.std.proofs.lemmas.Bool.Decides.{nat_tests}
use Rattle.std.proofs.lemmas.List.Sums.{sum_by-append}
use Rattle.str_indices.specs.Text.{byte_len, units, units_of, char_ends, unit_ends, unit_starts, ends_up_to, end_place, cuts_cr_lf, ends_with_cr, starts_with_lf, NoCrLfBetween}
use Rattle.ropey.specs.Chunks.{is_break}
use Rattle.rope_search_reports.specs.Text.{line_count}
use Rattle.rope_search_reports.proofs.TextPlaces.{PlaceLaws}
use Rattle.rope_search_reports.specs.Position.{line_at, line_start, line_text, text_end, position, IsAt}
use Rattle.rope_search_reports.proofs.LineLemmas.{byte_len-append, ends-joined_cr}
use Rattle.rope_search_reports.proofs.PlaceLemmas.{front_within, InLine, in_line, line_inside, cut_off, IsFrontOf, front_of, units_there}

-- ---- no CR LF is split in a line's text or at its end

not_cr : (s : List ℕ) → NonePass is_break s → ends_with_cr s ≡ false
not_cr [] plain = refl
not_cr (c ∷ []) plain = grind (arith, nat_tests, plain.0)
not_cr (c ∷ d ∷ s) plain = not_cr (d ∷ s) plain.1

plain_front : (s t : List ℕ) → NonePass is_break (s ++ t) → NonePass is_break s
plain_front [] t plain = tt
plain_front (c ∷ cs) t plain = (plain.0, plain_front cs t plain.1)

uncut : (before mid back own behind : List ℕ) → mid ++ back ≡ own ++ behind → byte_len mid ≤ byte_len own → NoCrLfBetween before (own ++ behind) → NonePass is_break own
    → NoCrLfBetween (before ++ mid) back
uncut before [] back own behind e low whole plain = ap (λ s. cuts_cr_lf s back) (append-nil before) ∙ ap (cuts_cr_lf before) e ∙ whole
uncut before (c ∷ cs) back own behind e low whole plain =
    let within = front_within (c ∷ cs) back own behind e low in
    let none = not_cr (c ∷ cs) (plain_front (c ∷ cs) within.0 (subst (NonePass is_break) within.1 plain)) in
    ap (λ b. b && starts_with_lf back) (ends-joined_cr before c cs ∙ none)

-- ---- one is split after that, before the next line

module _ (law : PlaceLaws) (text : List ℕ) (scalars : all_scalars text ≡ true) where
  -- no CR LF is split at an offset up to the end of its line's text
  pub whole_up_to_end : (place : ℕ) (h : InLine text place) → place ≤ text_end text (line_at text place) → NoCrLfBetween (h.before ++ h.mid) h.back
  whole_up_to_end place h low =
      let own = line_text text (line_at text place) in
      let behind = h.line.behind in
      let same = h.same in
      let e : h.mid ++ h.back ≡ own ++ behind =
      cut_off h.before (h.mid ++ h.back) (own ++ behind) (sym (append_assoc h.before h.mid h.back) ∙ sym h.parts ∙ h.line.parts ∙ ap (λ s. s ++ (own ++ behind)) same) in
      let starts = h.line.starts in
      let place_is = h.place_is in
      let below : byte_len h.mid ≤ byte_len own = omega (arith, low, starts, ap byte_len same, place_is, byte_len-append h.before h.mid) in
      uncut h.before h.mid h.back own behind e below (subst (λ s. NoCrLfBetween s (own ++ behind)) same h.line.whole) h.line.plain

  -- ---- the offset of a position, in code units

  -- the number of code units before a position's offset
  pub record Spotted (spot : ℕ × ℕ) (place start : ℕ) : Type 0 where
    pub within : spot.0 < line_count text
    pub front : List ℕ
    pub back : List ℕ
    pub parts : text ≡ front ++ back
    pub place_is : place ≡ byte_len front
    pub unit_is : start + spot.1 ≡ units front
    pub few : units front ≤ units text
    pub whole : NoCrLfBetween front back
    pub of_front : IsFrontOf text front

  pub spotted : (spot : ℕ × ℕ) (place start : ℕ) → IsAt text spot place
      → start ≡ ends_up_to (end_place (char_ends text) (ends_up_to (line_start text spot.0) (char_ends text)) (byte_len text)) (unit_ends text)
      → Spotted spot place start
  spotted spot place start at start_is =
      let h = in_line law text scalars place at.boundary in
      let line_is : spot.0 ≡ line_at text place = ap (λ p. p.0) at.same in
      let column_is = ap (λ p. p.1) at.same in
      let own = front_of law text h.before (h.mid ++ h.back) (h.parts ∙ append_assoc h.before h.mid h.back) in
      let starts : line_start text spot.0 ≡ byte_len h.before = ap (line_start text) line_is ∙ h.line.starts ∙ ap byte_len h.same in
      let first : start ≡ units h.before = start_is ∙ units_there law text h.before (line_start text spot.0) own starts in
      let column = h.column in
      let inside = line_inside text place in
      let low = at.within in
      let low' : place ≤ text_end text (line_at text place) = subst (λ (l : ℕ). place ≤ text_end text l) line_is low in
      record {
        within = omega (arith, inside, line_is);
        front = h.before ++ h.mid;
        back = h.back;
        parts = h.parts;
        place_is = h.place_is;
        unit_is = omega (arith, first, column_is, column, sum_by-append units_of h.before h.mid);
        few = omega (arith, ap units h.parts, sum_by-append units_of (h.before ++ h.mid) h.back);
        whole = whole_up_to_end place h low';
        of_front = front_of law text (h.before ++ h.mid) h.back h.parts;
      }

  -- its code units lead to one offset
  pub spot-one : (spot : ℕ × ℕ) (place place' : ℕ) → IsAt text spot place → IsAt text spot place' → place ≡ place'
  spot-one spot place place' at at' =
      let start = ends_up_to (end_place (char_ends text) (ends_up_to (line_start text spot.0) (char_ends text)) (byte_len text)) (unit_ends text) in
      let one = spotted spot place start at refl in
      let other = spotted spot place' start at' refl in
      let same : units one.front ≡ units other.front = sym one.unit_is ∙ other.unit_is in
      one.place_is ∙ sym one.of_front.back_from_units ∙ ap (λ n. slice_index_or (unit_starts text) n (byte_len text)) same
      ∙ other.of_front.back_from_units ∙ sym other.place_is

  -- ---- from a code unit to its character and to the byte of that

  -- no other offset is that of the position
  pub record Found (spot : ℕ × ℕ) (unit char_idx byte_idx : ℕ) : Type 0 where
    pub same : spot ≡ position text byte_idx
    pub unit_there : ends_up_to (end_place (char_ends text) char_idx (byte_len text)) (unit_ends text) ≡ unit
    pub uncut_there : cuts_cr_lf (take char_idx text) (drop char_idx text) ≡ false
