-- Offsets of a text at character boundaries: the characters, code units and lines before one, and
-- the start of its line.
use Rattle.std.proofs.Common.{◌≡◌, ℕ, nat_le, ◌+◌, ◌-◌, ◌<◌, ◌≤◌, true, List, [], ◌∷◌, ◌++◌, length, take, drop, min, get_or, slice_index_or, refl, ap, arith, sym, ◌∙◌, subst, append-nil, append_assoc, chars}
use Rattle.std.specs.Str.{all_scalars, IsUtf8, IsCharBoundary}
use Rattle.std.proofs.Math.Seq.{take-append_seam, drop-append_seam}
use Rattle.std.proofs.lemmas.Bool.{and_parts, and_from}
use Rattle.std.proofs.lemmas.List.{take-append-drop, length-take-le}
use Rattle.std.proofs.lemmas.List.Sums.{count_by-le-length, sum_by-append}
use Rattle.std.specs.Char.{len_utf8}
use Rattle.std.proofs.lemmas.Str.{IsUtf8-take, chars-append, chars-encodes, encodes-chars, encodes-append, len_utf8_bounds}
use Rattle.str_indices.specs.Text.{byte_len, units, units_of, char_ends, unit_ends, unit_starts, break_ends, ends_up_to, end_place}
use Rattle.ropey.specs.Chunks.{is_break, IsCutting, text_of}
use Rattle.rope_search_reports.specs.Text.{bytes_of, line_count}
use Rattle.rope_search_reports.specs.Position.{line_at, line_start, column_at, line_text, LiesInPlace}
use Rattle.rope_search_reports.proofs.TextPlaces.{PlaceLaws}
use Rattle.rope_search_reports.proofs.LineLemmas.{byte_len-append, byte_len-one, lines-in-place}

-- ---- scalar values

pub scalars-joined : (s t : List ℕ) → all_scalars s ≡ true → all_scalars t ≡ true → all_scalars (s ++ t) ≡ true
scalars-joined [] t one other = other
scalars-joined (c ∷ cs) t one other =
    let both = and_parts _ _ one in
    and_from _ _ both.0 (scalars-joined cs t both.1 other)

-- those of two joined texts
pub scalars-parts : (s t : List ℕ) → all_scalars (s ++ t) ≡ true → (all_scalars s ≡ true) × (all_scalars t ≡ true)
scalars-parts [] t h = (refl, h)
scalars-parts (c ∷ cs) t h =
    let both = and_parts _ _ h in
    let later = scalars-parts cs t both.1 in
    (and_from _ _ both.0 later.0, later.1)

-- those of a rope
pub rope-scalars : (pieces : List (List ℕ)) → IsCutting pieces → all_scalars (text_of pieces) ≡ true
rope-scalars [] cut = refl
rope-scalars (p ∷ []) cut = scalars-joined p [] cut.scalars refl
rope-scalars (p ∷ q ∷ ps) cut = scalars-joined p (text_of (q ∷ ps)) cut.0.scalars (rope-scalars (q ∷ ps) cut.2)

-- ---- a text split at an offset

-- the text before an offset, and the text after it
pub record Split (text : List ℕ) (place : ℕ) : Type 0 where
  pub front : List ℕ
  pub back : List ℕ
  pub parts : text ≡ front ++ back
  pub place_is : place ≡ byte_len front

pub split_at : (text : List ℕ) (place : ℕ) → all_scalars text ≡ true → IsCharBoundary (bytes_of text) place → Split text place
split_at text place scalars boundary =
    let bytes = bytes_of text in
    let utf8 : IsUtf8 bytes = (text, (scalars, refl)) in
    let first = IsUtf8-take bytes place utf8 boundary in
    record {
      front = chars (take place bytes);
      back = chars (drop place bytes);
      parts = sym (chars-encodes text scalars) ∙ ap chars (sym (take-append-drop place bytes)) ∙ chars-append (take place bytes) (drop place bytes) first;
      place_is = sym (ap length (encodes-chars (take place bytes) first) ∙ length-take-le place bytes boundary.0);
    }

-- of two prefixes of a text the one with fewer bytes is a prefix of the other
pub front_within : (l r f b : List ℕ) → l ++ r ≡ f ++ b → byte_len l ≤ byte_len f → (mid : List ℕ) × (f ≡ l ++ mid)
front_within [] r f b e low = (f, refl)
front_within (c ∷ cs) r [] b e low = absurd (omega (arith, low, byte_len-one c cs, (len_utf8_bounds c).0))
front_within (c ∷ cs) r (d ∷ ds) b e low =
    let same : c ≡ d = ap (λ t. get_or t 0 0) e in
    let rest : cs ++ r ≡ ds ++ b = ap (drop 1) e in
    let later = front_within cs r ds b rest (omega (arith, low, byte_len-one c cs, byte_len-one d ds, ap len_utf8 same)) in
    (later.0, ap (λ t. d ∷ t) later.1 ∙ ap (λ k. k ∷ (cs ++ later.0)) (sym same))

-- ---- before an offset

-- the number of characters and code units in a text's prefix; these counts lead back to where it
-- ends
pub record IsFrontOf (text front : List ℕ) : Type 0 where
  pub chars_are : ends_up_to (byte_len front) (char_ends text) ≡ length front
  pub units_are : ends_up_to (byte_len front) (unit_ends text) ≡ units front
  pub back_from_chars : end_place (char_ends text) (length front) (byte_len text) ≡ byte_len front
  pub back_from_units : slice_index_or (unit_starts text) (units front) (byte_len text) ≡ byte_len front

module _ (law : PlaceLaws) where
  no_more : (front : List ℕ) → byte_len front ≤ byte_len (front ++ [])
  no_more front = omega (arith, byte_len-append front [])

  chars_sum : (front back : List ℕ) → ends_up_to (byte_len front) (char_ends (front ++ back)) ≡ length front + 0
  chars_sum front back =
      ap (λ f. ends_up_to (byte_len front) (char_ends (f ++ back))) (sym (append-nil front))
      ∙ law.chars_add front [] back (byte_len front) tt tt (omega arith) (no_more front)

  units_sum : (front back : List ℕ) → ends_up_to (byte_len front) (unit_ends (front ++ back)) ≡ units front + 0
  units_sum front back =
      ap (λ f. ends_up_to (byte_len front) (unit_ends (f ++ back))) (sym (append-nil front))
      ∙ law.units_add front [] back (byte_len front) tt tt (omega arith) (no_more front)

  front_of_joined : (front back : List ℕ) → IsFrontOf (front ++ back) front
  front_of_joined front back =
      let place = byte_len front in
      let all = front ++ back in
      let chars : ends_up_to place (char_ends all) ≡ length front = omega (arith, chars_sum front back) in
      let units' : ends_up_to place (unit_ends all) ≡ units front = omega (arith, units_sum front back) in
      let high = (law.chars_agree front back (length front)).1 (omega (arith, chars)) in
      let low = law.chars_back all place in
      let high' = (law.units_agree front back (units front)).1 (omega (arith, units')) in
      let low' = law.units_back all place in
      record {
        chars_are = chars;
        units_are = units';
        back_from_chars = omega (arith, high, low, ap (λ n. end_place (char_ends all) n (byte_len all)) chars);
        back_from_units = omega (arith, high', low', ap (λ n. slice_index_or (unit_starts all) n (byte_len all)) units');
      }

  pub front_of : (text front back : List ℕ) → text ≡ front ++ back → IsFrontOf text front
  front_of text front back parts = subst (λ (t : List ℕ). IsFrontOf t front) (sym parts) (front_of_joined front back)

  -- from a byte to its code unit
  pub units_there : (text front : List ℕ) (place : ℕ) → IsFrontOf text front → place ≡ byte_len front
      → ends_up_to (end_place (char_ends text) (ends_up_to place (char_ends text)) (byte_len text)) (unit_ends text) ≡ units front
  units_there text front place h e =
      ap (λ n. ends_up_to (end_place (char_ends text) (ends_up_to n (char_ends text)) (byte_len text)) (unit_ends text)) e
      ∙ ap (λ n. ends_up_to (end_place (char_ends text) n (byte_len text)) (unit_ends text)) h.chars_are
      ∙ ap (λ n. ends_up_to n (unit_ends text)) h.back_from_chars ∙ h.units_are

  pub chars_there : (text front : List ℕ) (place : ℕ) → IsFrontOf text front → place ≡ byte_len front → ends_up_to place (char_ends text) ≡ length front
  chars_there text front place h e = ap (λ n. ends_up_to n (char_ends text)) e ∙ h.chars_are

-- ---- an offset in its line

-- the text before the offset's line, from there to the offset, and after the offset
pub record InLine (text : List ℕ) (place : ℕ) : Type 0 where
  pub before : List ℕ
  pub mid : List ℕ
  pub back : List ℕ
  pub parts : text ≡ (before ++ mid) ++ back
  pub place_is : place ≡ byte_len (before ++ mid)
  pub line : LiesInPlace text (line_at text place)
  pub same : line.before ≡ before
  pub column : column_at text place ≡ units mid

-- a text's parts, from one prefix on
pub cut_off : (xs ys zs : List ℕ) → xs ++ ys ≡ xs ++ zs → ys ≡ zs
cut_off xs ys zs e = sym (drop-append_seam xs ys) ∙ ap (drop (length xs)) e ∙ drop-append_seam xs zs

-- an offset is in one of the lines
pub line_inside : (text : List ℕ) (place : ℕ) → line_at text place < line_count text
line_inside text place =
    let few = count_by-le-length (λ e. nat_le e place) (break_ends is_break text) in
    omega (arith, few)

module _ (law : PlaceLaws) (text : List ℕ) (scalars : all_scalars text ≡ true) where
  pub in_line : (place : ℕ) → IsCharBoundary (bytes_of text) place → InLine text place
  in_line place boundary =
      let line = line_at text place in
      let h = lines-in-place text line (line_inside text place) in
      let s = split_at text place scalars boundary in
      let start = line_start text line in
      let starts = h.starts in
      let place_is = s.place_is in
      let low : start ≤ min place (byte_len text) = law.lines_back text place in
      let below : byte_len h.before ≤ byte_len s.front = omega (arith, low, starts, place_is) in
      let m = front_within h.before (line_text text line ++ h.behind) s.front s.back (sym h.parts ∙ s.parts) below in
      let mid = m.0 in
      let front_is : s.front ≡ h.before ++ mid = m.1 in
      let parts : text ≡ (h.before ++ mid) ++ s.back = s.parts ∙ ap (λ f. f ++ s.back) front_is in
      let spelled = (scalars-parts h.before mid (scalars-parts (h.before ++ mid) s.back (sym (ap all_scalars parts) ∙ scalars)).0).1 in
      let bytes : bytes_of text ≡ bytes_of h.before ++ (bytes_of mid ++ bytes_of s.back) =
      ap bytes_of (parts ∙ append_assoc h.before mid s.back) ∙ encodes-append h.before (mid ++ s.back) ∙ ap (λ bs. bytes_of h.before ++ bs) (encodes-append mid s.back) in
      let left : drop start (bytes_of text) ≡ bytes_of mid ++ bytes_of s.back =
      ap (λ n. drop n (bytes_of text)) starts ∙ ap (drop (byte_len h.before)) bytes ∙ drop-append_seam (bytes_of h.before) (bytes_of mid ++ bytes_of s.back) in
      let width : place - start ≡ byte_len mid = omega (arith, starts, place_is, ap byte_len front_is, byte_len-append h.before mid) in
      let taken : take (place - start) (drop start (bytes_of text)) ≡ bytes_of mid =
      ap (λ n. take n (drop start (bytes_of text))) width ∙ ap (take (byte_len mid)) left ∙ take-append_seam (bytes_of mid) (bytes_of s.back) in
      record {
        before = h.before;
        mid = mid;
        back = s.back;
        parts = parts;
        place_is = place_is ∙ ap byte_len front_is;
        line = h;
        same = refl;
        column = ap (λ bs. units (chars bs)) taken ∙ ap units (chars-encodes mid spelled);
      }

-- the line's start and the offset, each in characters and in code units
pub record Reached (text : List ℕ) (place line start_char start at_char at : ℕ) : Type 0 where
  pub start_within : start_char ≤ length text
  pub at_within : at_char ≤ length text
  pub order : start ≤ at
  pub column : at - start ≡ column_at text place

-- the code units before the line's start, and those before the offset
pub record CountsColumn (text : List ℕ) (place : ℕ) : Type 0 where
  pub order : ends_up_to (line_start text (line_at text place)) (unit_ends text) ≤ ends_up_to place (unit_ends text)
  pub column : ends_up_to place (unit_ends text) - ends_up_to (line_start text (line_at text place)) (unit_ends text) ≡ column_at text place

pub counts_column : PlaceLaws → (text : List ℕ) (place : ℕ) → all_scalars text ≡ true → IsCharBoundary (bytes_of text) place → CountsColumn text place
counts_column law text place scalars boundary =
    let h = in_line law text scalars place boundary in
    let own = front_of law text h.before (h.mid ++ h.back) (h.parts ∙ append_assoc h.before h.mid h.back) in
    let all = front_of law text (h.before ++ h.mid) h.back h.parts in
    let starts : line_start text (line_at text place) ≡ byte_len h.before = h.line.starts ∙ ap byte_len h.same in
    let units_of_start : ends_up_to (line_start text (line_at text place)) (unit_ends text) ≡ units h.before = ap (λ n. ends_up_to n (unit_ends text)) starts ∙ own.units_are in
    let units_of_place : ends_up_to place (unit_ends text) ≡ units (h.before ++ h.mid) = ap (λ n. ends_up_to n (unit_ends text)) h.place_is ∙ all.units_are in
    let sum : units (h.before ++ h.mid) ≡ units h.before + units h.mid = sum_by-append units_of h.before h.mid in
    let column = h.column in
    record {
      order = omega (arith, units_of_start, units_of_place, sum);
      column = omega (arith, units_of_start, units_of_place, sum, column);
    }
