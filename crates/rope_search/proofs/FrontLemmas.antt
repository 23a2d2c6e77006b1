-- Prefixes of a line's text: which is the longest, and the columns at their ends.
use Rattle.std.proofs.Common.{◌≡◌, ℕ, suc, nat_le, true, false, ◌+◌, ◌-◌, ◌≤◌, min, inl, inr, List, [], ◌∷◌, ◌++◌, length, take, drop, slice_index_or, refl, ap, sym, subst, ◌∙◌, arith, append-nil}
use Rattle.std.proofs.lemmas.Bool.{cases_Bool, cond-true, cond-false}
use Rattle.std.proofs.lemmas.Bool.Decides.{nat_tests}
use Rattle.std.proofs.lemmas.List.{length-append, length-take-le, take-append-drop}
use Rattle.std.proofs.lemmas.List.Sums.{count_by-le-length, sum_by-append, sum_by-cons}
use Rattle.std.specs.Char.{len_utf8}
use Rattle.str_indices.specs.Text.{byte_len, units, units_of, char_ends, ends_from, unit_ends, unit_starts, ends_up_to, end_place}
use Rattle.str_indices.proofs.TextLaws.{place_there_and_back-chars, place_there_and_back-nearest_char, boundaries_and_indices_agree-units, to_byte_idx_is_monotone-chars}
use Rattle.rope_search_reports.proofs.TextPlaces.{places}
use Rattle.rope_search_reports.proofs.LineLemmas.{byte_len-append}
use Rattle.rope_search_reports.proofs.PlaceLemmas.{IsFrontOf, front_of}
use Rattle.rope_search.specs.LineColumns.{IsColumnOf, IsLongestFront, front_to}
use Rattle.rope_search.specs.declared.encodings.Encoding.TheVariants.{Utf8, Utf16, Utf32}

-- ---- the number of characters that end up to an offset

ends-are-chars : (at : ℕ) (text : List ℕ) → length (ends_from (λ _ _. 1) at text) ≡ length text
ends-are-chars at [] = refl
ends-are-chars at (c ∷ cs) = ap suc (ends-are-chars (at + len_utf8 c) cs)

pub few-chars : (text : List ℕ) (place : ℕ) → ends_up_to place (char_ends text) ≤ length text
few-chars text place = omega (arith, count_by-le-length (λ e. nat_le e place) (char_ends text), ends-are-chars 0 text)

-- ---- prefixes with a number of characters

front-taken : (text : List ℕ) (k : ℕ) → IsFrontOf text (take k text)
front-taken text k = front_of places text (take k text) (drop k text) (sym (take-append-drop k text))

-- the longest of all prefixes that end at an offset or before it
pub record IsLastUpTo (text : List ℕ) (place : ℕ) (front : List ℕ) : Type 0 where
  pub fits : byte_len front ≤ place
  pub longest : (other rest : List ℕ) → text ≡ other ++ rest → byte_len other ≤ place → byte_len other ≤ byte_len front

-- it has the characters that end there or before
pub last-up-to : (text : List ℕ) (place k : ℕ) → k ≡ ends_up_to place (char_ends text) → IsLastUpTo text place (take k text)
last-up-to text place k is =
    let low : k ≤ length text = omega (arith, is, few-chars text place) in
    let width : length (take k text) ≡ k = length-take-le k text low in
    let there : end_place (char_ends text) (ends_up_to place (char_ends text)) (byte_len text) ≡ byte_len (take k text) =
    ap (λ n. end_place (char_ends text) n (byte_len text)) (sym is ∙ sym width) ∙ (front-taken text k).back_from_chars in
    record {
      fits = omega (arith, there, place_there_and_back-chars text place);
      longest = λ other rest parts ends.
          let near : byte_len other ≤ end_place (char_ends text) (ends_up_to place (char_ends text)) (byte_len text) =
          subst (λ t. byte_len other ≤ end_place (char_ends t) (ends_up_to place (char_ends t)) (byte_len t)) (sym parts) (place_there_and_back-nearest_char other rest place ends) in
          omega (arith, near, there);
    }

-- ---- the longest prefix, by the units of a column

pub longest-in-bytes : (text : List ℕ) (column place k : ℕ) → place ≡ min column (byte_len text) → k ≡ ends_up_to place (char_ends text)
    → IsLongestFront Utf8 text column (take k text)
longest-in-bytes text column place k place_is is =
    let last = last-up-to text place k is in
    record {
      back = drop k text;
      parts = sym (take-append-drop k text);
      fits = omega (arith, last.fits, place_is);
      longest = λ other rest parts fits.
          let ends : byte_len other ≤ place = omega (arith, place_is, fits, ap byte_len parts, byte_len-append other rest) in
          last.longest other rest parts ends;
    }

pub longest-in-units : (text : List ℕ) (column unit place k : ℕ) → unit ≡ min column (units text) → place ≡ slice_index_or (unit_starts text) unit (byte_len text)
    → k ≡ ends_up_to place (char_ends text) → IsLongestFront Utf16 text column (take k text)
longest-in-units text column unit place k unit_is place_is is =
    let last = last-up-to text place k is in
    let agree : (front back : List ℕ) → text ≡ front ++ back → (byte_len front ≤ place → units front ≤ unit) × (units front ≤ unit → byte_len front ≤ place) =
    λ front back parts.
    let own = (front_of places text front back parts).units_are in
    let same = subst (λ t. (byte_len front ≤ slice_index_or (unit_starts t) unit (byte_len t) → ends_up_to (byte_len front) (unit_ends t) ≤ unit)
    × (ends_up_to (byte_len front) (unit_ends t) ≤ unit → byte_len front ≤ slice_index_or (unit_starts t) unit (byte_len t))) (sym parts)
    ((boundaries_and_indices_agree-units front back unit).0, (boundaries_and_indices_agree-units front back unit).1) in
    (λ low. omega (arith, own, same.0 (omega (arith, low, place_is))), λ low. omega (arith, place_is, same.1 (omega (arith, low, own)))) in
    record {
      back = drop k text;
      parts = sym (take-append-drop k text);
      fits = omega (arith, unit_is, (agree (take k text) (drop k text) (sym (take-append-drop k text))).0 last.fits);
      longest = λ other rest parts fits.
          let few : units other ≤ unit = omega (arith, unit_is, fits, ap units parts, sum_by-append units_of other rest) in
          last.longest other rest parts ((agree other rest parts).1 few);
    }

pub longest-in-chars : (text : List ℕ) (column k : ℕ) → k ≡ min column (length text) → IsLongestFront Utf32 text column (take k text)
longest-in-chars text column k is =
    let width : length (take k text) ≡ k = length-take-le k text (omega (arith, is)) in
    record {
      back = drop k text;
      parts = sym (take-append-drop k text);
      fits = omega (arith, width, is);
      longest = λ other rest parts fits.
          let few : length other ≤ k = omega (arith, is, fits, ap length parts, length-append other rest) in
          let rises = to_byte_idx_is_monotone-chars text (length other) (length (take k text)) (omega (arith, few, width)) in
          omega (arith, rises, (front_of places text other rest parts).back_from_chars, (front-taken text k).back_from_chars);
    }

-- ---- columns of a text

pub front_to-parts : (column : ℕ) (text : List ℕ) → (rest : List ℕ) × (text ≡ front_to column text ++ rest)
front_to-parts column [] = ([], refl)
front_to-parts column (c ∷ cs) = elim (cases_Bool (nat_le (units_of c) column)) [
  | inl fits ↦
      let later = front_to-parts (column - units_of c) cs in
      (later.0, ap (λ t. c ∷ t) later.1 ∙ ap (λ t. t ++ later.0) (sym (cond-true _ _ _ fits)))
  | inr over ↦ (c ∷ cs, ap (λ t. t ++ (c ∷ cs)) (sym (cond-false _ _ _ over)))
]

-- the characters and the bytes before a column
pub record IsBefore (text : List ℕ) (column : ℕ) : Type 0 where
  pub within : column ≤ units text
  pub chars_are : ends_up_to (slice_index_or (unit_starts text) column (byte_len text)) (char_ends text) ≡ length (front_to column text)
  pub few : length (front_to column text) ≤ length text
  pub bytes_are : end_place (char_ends text) (length (front_to column text)) (byte_len text) ≡ byte_len (front_to column text)

pub before-column : (text : List ℕ) (column : ℕ) → IsColumnOf text column → IsBefore text column
before-column text column is =
    let split = front_to-parts column text in
    let front = front_to column text in
    let f = front_of places text front split.0 split.1 in
    record {
      within = omega (arith, is, ap units split.1, sum_by-append units_of front split.0);
      chars_are = ap (λ n. ends_up_to (slice_index_or (unit_starts text) n (byte_len text)) (char_ends text)) (sym is)
          ∙ ap (λ n. ends_up_to n (char_ends text)) f.back_from_units ∙ f.chars_are;
      few = omega (arith, ap length split.1, length-append front split.0);
      bytes_are = f.back_from_chars;
    }

-- the code units before character `k`
pub units-of-chars : (text : List ℕ) (k : ℕ) → k ≤ length text → ends_up_to (end_place (char_ends text) k (byte_len text)) (unit_ends text) ≡ units (take k text)
units-of-chars text k low =
    let f = front-taken text k in
    ap (λ n. ends_up_to (end_place (char_ends text) n (byte_len text)) (unit_ends text)) (sym (length-take-le k text low))
    ∙ ap (λ n. ends_up_to n (unit_ends text)) f.back_from_chars ∙ f.units_are

-- ---- the prefix up to a column is one of the text's prefixes

some-units : (c : ℕ) → nat_le (units_of c) 0 ≡ false
some-units c = elim (cases_Bool (nat_le 0x1_0000 c)) [
  | inl wide ↦ ap (λ n. nat_le n 0) (cond-true _ _ _ wide)
  | inr narrow ↦ ap (λ n. nat_le n 0) (cond-false _ _ _ narrow)
]

pub front_to-front : (front back : List ℕ) → front_to (units front) (front ++ back) ≡ front
front_to-front [] [] = refl
front_to-front [] (b ∷ bs) = cond-false _ _ _ (some-units b)
front_to-front (c ∷ cs) back =
    let sum : units (c ∷ cs) ≡ units_of c + units cs = sum_by-cons units_of c cs in
    let fits : nat_le (units_of c) (units_of c + units cs) ≡ true = grind (arith, nat_tests) in
    let less : units_of c + units cs - units_of c ≡ units cs = omega arith in
    ap (λ n. front_to n (c ∷ (cs ++ back))) sum ∙ cond-true _ _ _ fits
    ∙ ap (λ n. c ∷ front_to n (cs ++ back)) less ∙ ap (λ t. c ∷ t) (front_to-front cs back)

pub is-column : (text front back : List ℕ) (column : ℕ) → text ≡ front ++ back → column ≡ units front → IsColumnOf text column
is-column text front back column parts is =
    ap (λ t. units (front_to column t)) parts ∙ ap (λ n. units (front_to n (front ++ back))) is
    ∙ ap units (front_to-front front back) ∙ sym is

-- if each character of a text takes one byte, its columns are offsets
pub narrow-column : (text : List ℕ) (column : ℕ) → units text ≡ byte_len text → IsColumnOf text column → column ≡ byte_len (front_to column text)
narrow-column text column narrow is =
    let split = front_to-parts column text in
    let front = front_to column text in
    omega (
      arith,
      narrow,
      is,
      places.few_units front,
      places.few_units split.0,
      ap units split.1,
      ap byte_len split.1,
      sum_by-append units_of front split.0,
      byte_len-append front split.0,
    )
