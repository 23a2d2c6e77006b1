-- The groups of a match, given by columns of its line, in bytes of that line and of the text.
use Rattle.std.proofs.Common.{◌≡◌, ℕ, zero, suc, ◌+◌, ◌-◌, ◌<◌, ◌≤◌, ◌==◌, ◌&&◌, inl, inr, nat_le, List, [], ◌∷◌, ◌++◌, Option, None, Some, IfSome, All, length, map, take, drop, chars, slice_index_or, refl, ap, ap₂, sym, subst, ◌∙◌, arith, true, false}
use Rattle.std.specs.Prelude.{max, option_map}
use Rattle.std.specs.Str.{IsCharBoundary}
use Rattle.std.proofs.lemmas.Bool.{cases_Bool, cases_lt, cond-true, cond-false}
use Rattle.std.proofs.lemmas.Bool.Decides.{nat_tests}
use Rattle.std.proofs.lemmas.List.{drop-drop, length-take-le, take-append-drop}
use Rattle.std.proofs.lemmas.List.Elements.{All-map}
use Rattle.std.proofs.lemmas.List.Sums.{sum_by-cons}
use Rattle.str_indices.specs.Text.{byte_len, char_ends, end_place, units, units_of}
use Rattle.rope_search_reports.specs.Position.{line_start, line_text, text_end}
use Rattle.rope_search_reports.specs.Replacement.{Groups, HasSpansIn, IsSpanIn, between, expand, group_text, is_digit, text_of_span}
use Rattle.rope_search_reports.specs.Text.{IsText, bytes_of, line_count}
use Rattle.rope_search_reports.proofs.LineLemmas.{byte_len-append, byte_len-one, lines-in-place}
use Rattle.rope_search_reports.proofs.PlaceLemmas.{front_of}
use Rattle.rope_search_reports.proofs.TextPlaces.{places}
use Rattle.rope_search.specs.LineColumns.{IsLongestFront, column_as, columns_as, front_to}
use Rattle.rope_search.specs.MatchEdits.{expansion, in_bytes, placed, placed_behind}
use Rattle.rope_search.specs.declared.encodings.Encoding.TheVariants.{Utf8, Utf16}
use Rattle.rope_search.proofs.ClampLemmas.{front-at}
use Rattle.rope_search.proofs.FrontLemmas.{front_to-parts}

-- ---- the prefix up to a column is the longest one

front_to-fits : (column : ℕ) (text : List ℕ) → units (front_to column text) ≤ column
front_to-fits column [] = omega arith
front_to-fits column (c ∷ cs) = elim (cases_Bool (nat_le (units_of c) column)) [
  | inl fits ↦
      let later = front_to-fits (column - units_of c) cs in
      let low : units_of c ≤ column = grind (arith, nat_tests, fits) in
      let front = ap units (cond-true _ (c ∷ front_to (column - units_of c) cs) [] fits) in
      omega (arith, front, low, later, sum_by-cons units_of c (front_to (column - units_of c) cs))
  | inr over ↦ omega (arith, ap units (cond-false _ (c ∷ front_to (column - units_of c) cs) [] over))
]

-- no prefix with at most this number of code units is longer
front_to-longest : (column : ℕ) (front back : List ℕ) → units front ≤ column → byte_len front ≤ byte_len (front_to column (front ++ back))
front_to-longest column [] back low = omega arith
front_to-longest column (c ∷ cs) back low =
    let sum : units (c ∷ cs) ≡ units_of c + units cs = sum_by-cons units_of c cs in
    let fits : nat_le (units_of c) column ≡ true = grind (arith, nat_tests, sum, low) in
    let later = front_to-longest (column - units_of c) cs back (omega (arith, sum, low)) in
    let front = ap byte_len (cond-true _ (c ∷ front_to (column - units_of c) (cs ++ back)) [] fits) in
    omega (arith, front, later, byte_len-one c cs, byte_len-one c (front_to (column - units_of c) (cs ++ back)))

-- so the longest one has this number of bytes
pub longest-is : (column : ℕ) (text front : List ℕ) → IsLongestFront Utf16 text column front → byte_len front ≡ column_as Utf8 text column
longest-is column text front is =
    let split = front_to-parts column text in
    let low = is.longest (front_to column text) split.0 split.1 (front_to-fits column text) in
    let high = subst (λ t. byte_len front ≤ byte_len (front_to column t)) (sym is.parts) (front_to-longest column front is.back is.fits) in
    omega (arith, low, high)

-- the byte offset after this number of characters
pub taken-bytes : (text : List ℕ) (k : ℕ) → k ≤ length text → end_place (char_ends text) k (byte_len text) ≡ byte_len (take k text)
taken-bytes text k low =
    ap (λ n. end_place (char_ends text) n (byte_len text)) (sym (length-take-le k text low))
    ∙ (front_of places text (take k text) (drop k text) (sym (take-append-drop k text))).back_from_chars

-- a column is in the line
pub column-fits : (line : List ℕ) (column : ℕ) → column_as Utf8 line column ≤ byte_len line
column-fits line column =
    let split = front_to-parts column line in
    omega (arith, ap byte_len split.1, byte_len-append (front_to column line) split.0)

-- ---- a part of a part

pub part-of-part : {A : Type 0} (xs : List A) (a n k : ℕ) → a + n ≤ k → take n (drop a (take k xs)) ≡ take n (drop a xs)
part-of-part [] a n zero low = refl
part-of-part [] a n (suc k) low = refl
part-of-part (x ∷ xs) zero zero k low = refl
part-of-part (x ∷ xs) zero (suc n) zero low = absurd (omega (arith, low))
part-of-part (x ∷ xs) zero (suc n) (suc k) low = ap (λ l. x ∷ l) (part-of-part xs zero n k (omega (arith, low)))
part-of-part (x ∷ xs) (suc a) n zero low = absurd (omega (arith, low))
part-of-part (x ∷ xs) (suc a) n (suc k) low = part-of-part xs a n k (omega (arith, low))

-- ---- the expansion of a template depends only on the texts of groups

pub expand-by : (content content' : List ℕ) (groups groups' : Groups) (template : List ℕ)
    → ((number : ℕ) → group_text content groups number ≡ group_text content' groups' number) → expand content groups template ≡ expand content' groups' template
expand-by content content' groups groups' [] same = refl
expand-by content content' groups groups' (c ∷ []) same = refl
expand-by content content' groups groups' (c ∷ d ∷ rest) same =
    let later = expand-by content content' groups groups' rest same in
    let next = expand-by content content' groups groups' (d ∷ rest) same in
    elim (cases_Bool ((c == 36) && (d == 36))) [
      | inl pair ↦ rw pair (ap (λ cs. 36 ∷ cs) later)
      | inr other ↦ elim (cases_Bool ((c == 36) && is_digit d)) [
        | inl named ↦ rw (other, named) (ap₂ (λ told behind. told ++ behind) (same (d - 48)) later)
        | inr more ↦ rw (other, more) (ap (λ cs. c ∷ cs) next)
      ]
    ]

get-map : {A B : Type 0} (f : A → B) (groups : List (Option A)) (number : ℕ) → slice_index_or (map (option_map f) groups) number None ≡ option_map f (slice_index_or groups number None)
get-map f [] number = refl
get-map f (g ∷ gs) zero = refl
get-map f (g ∷ gs) (suc n) = get-map f gs n

-- ---- offsets of a line in its text

module _ (text : List ℕ) (line : ℕ) (scalars : IsText text) (inside : line < line_count text) where
  abbrev own : List ℕ
  own = line_text text line

  abbrev start : ℕ
  start = line_start text line

  -- the offset of a column is a boundary of the text, in the line
  pub column-stands : (column : ℕ) → IsCharBoundary (bytes_of text) (start + column_as Utf8 own column)
  column-stands column =
      let split = front_to-parts column own in
      (front-at text line (front_to column own) split.0 scalars inside split.1).boundary

  max-stands : (a b : ℕ) → IsCharBoundary (bytes_of text) a → IsCharBoundary (bytes_of text) b → IsCharBoundary (bytes_of text) (max a b)
  max-stands a b one other = elim (cases_lt a b) [
    | inl less ↦ let is : b ≡ max a b = omega (arith, less) in subst (IsCharBoundary (bytes_of text)) is other
    | inr more ↦ let is : a ≡ max a b = omega (arith, more) in subst (IsCharBoundary (bytes_of text)) is one
  ]

  placed-in : (group : Option (ℕ × ℕ)) → IfSome (option_map (placed text line) group) (IsSpanIn (bytes_of text))
  placed-in None = tt
  placed-in (Some columns) = record {
    ordered = omega arith;
    starts = column-stands columns.0;
    stops = max-stands (start + column_as Utf8 own columns.0) (start + column_as Utf8 own columns.1) (column-stands columns.0) (column-stands columns.1);
  }

  pub placed-spans : (groups : Groups) → HasSpansIn (bytes_of text) (map (option_map (placed text line)) groups)
  placed-spans groups = All-map (λ group. IfSome group (IsSpanIn (bytes_of text))) (option_map (placed text line)) groups (λ k d low. placed-in (slice_index_or groups k d))

  -- the text between them is that in the line
  same-between : (columns : ℕ × ℕ) → text_of_span (bytes_of text) (Some (placed text line columns)) ≡ text_of_span (bytes_of own) (Some (columns_as Utf8 own columns))
  same-between columns =
      let a = column_as Utf8 own columns.0 in
      let b = column_as Utf8 own columns.1 in
      let bytes = bytes_of text in
      let h = lines-in-place text line inside in
      let ends : text_end text line ≡ start + byte_len own = refl in
      let whole : text_end text line - start ≡ byte_len own = omega (arith, ends) in
      let len : max (start + a) (start + b) - (start + a) ≡ b - a = omega arith in
      let within : a + (b - a) ≤ byte_len own = omega (arith, column-fits own columns.0, column-fits own columns.1) in
      ap (λ n. chars (take n (drop (start + a) bytes))) len
      ∙ ap (λ l. chars (take (b - a) l)) (sym (drop-drop a start bytes))
      ∙ ap chars (sym (part-of-part (drop start bytes) a (b - a) (byte_len own) within))
      ∙ ap (λ n. chars (take (b - a) (drop a (take n (drop start bytes))))) (sym whole)
      ∙ ap (λ l. chars (take (b - a) (drop a l))) h.bytes

  same-text : (group : Option (ℕ × ℕ)) → text_of_span (bytes_of text) (option_map (placed text line) group) ≡ text_of_span (bytes_of own) (option_map (columns_as Utf8 own) group)
  same-text None = refl
  same-text (Some columns) = same-between columns

  pub placed-expand : (groups : Groups) (template : List ℕ) → expand (bytes_of text) (map (option_map (placed text line)) groups) template ≡ expansion own groups template
  placed-expand groups template =
      expand-by (bytes_of text) (bytes_of own) (map (option_map (placed text line)) groups) (in_bytes own groups) template
      (λ number. ap (text_of_span (bytes_of text)) (get-map (placed text line) groups number) ∙ same-text (slice_index_or groups number None)
      ∙ ap (text_of_span (bytes_of own)) (sym (get-map (columns_as Utf8 own) groups number)))
