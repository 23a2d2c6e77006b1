-- Laws of the definitions, for every text.
use Rattle.std.specs.Prelude.{◌≡◌, ℕ, ◌+◌, ◌-◌, ◌<◌, ◌≤◌, ◌↔◌, ◌⊎◌, Bool, ◌&&◌, if◌then◌else◌, min, List, [], ◌++◌, length, slice_index, slice_index_or, true, encode_utf8_all, map}
use Rattle.std.specs.Str.{IsCharBoundary, all_scalars}
use Rattle.str_indices.specs.Text.{byte_len, cuts_cr_lf, NoCrLfBetween, breaks, break_ends, char_ends, units, surrogate_pairs, unit_ends, unit_starts, ends_up_to, end_place}

-- ---- joined texts
-- the breaks of two texts add up; if CR is a break, one less if the first ends in CR and the second
-- starts with LF
abbrev pub JoinsBreaks : (ℕ → Bool) → Type 0
JoinsBreaks is_break = (first second : List ℕ)
    → breaks is_break (first ++ second) + (if is_break 13 && cuts_cr_lf first second then 1 else 0) ≡ breaks is_break first + breaks is_break second

abbrev pub LosesBreakInCrLf : (ℕ → Bool) → Type 0
LosesBreakInCrLf is_break = (first second : List ℕ)
    → breaks is_break (first ++ second) + (if cuts_cr_lf first second then 1 else 0) ≡ breaks is_break first + breaks is_break second

abbrev pub LosesNoBreak : (ℕ → Bool) → Type 0
LosesNoBreak is_break = (first second : List ℕ) → breaks is_break (first ++ second) ≡ breaks is_break first + breaks is_break second

-- the counts of two texts add up
abbrev pub AddsUp : (List ℕ → ℕ) → Type 0
AddsUp count = (first second : List ℕ) → count (first ++ second) ≡ count first + count second

-- if no CR LF is split between two texts, the ends are those of the first and, moved by its bytes,
-- those of the second
abbrev pub JoinsEnds : (ℕ → Bool) → Type 0
JoinsEnds is_break = (first second : List ℕ) → NoCrLfBetween first second
    → break_ends is_break (first ++ second) ≡ break_ends is_break first ++ map (λ place. byte_len first + place) (break_ends is_break second)

-- ---- counts beside each other
abbrev pub UnitsAreCharsAndPairs : Type 0
UnitsAreCharsAndPairs = (text : List ℕ) → units text ≡ length text + surrogate_pairs text

abbrev pub FewerBreaks : (ℕ → Bool) → (ℕ → Bool) → Type 0
FewerBreaks few many = (text : List ℕ) → breaks few text ≤ breaks many text

-- the count of a text is at most the number of its bytes
abbrev pub NoMoreThanBytes : (List ℕ → ℕ) → Type 0
NoMoreThanBytes count = (text : List ℕ) → count text ≤ byte_len text

-- ---- conversions
-- a greater offset has no fewer ends at or before it
abbrev pub RisesWithPlace : (List ℕ → List ℕ) → Type 0
RisesWithPlace ends = (text : List ℕ) (a b : ℕ) → a ≤ b → ends_up_to a (ends text) ≤ ends_up_to b (ends text)

-- a later end has no smaller offset
abbrev pub RisesWithIndex : (List ℕ → List ℕ) → Type 0
RisesWithIndex ends = (text : List ℕ) (j k : ℕ) → j ≤ k → end_place (ends text) j (byte_len text) ≤ end_place (ends text) k (byte_len text)

abbrev pub UnitStartsRise : Type 0
UnitStartsRise = (text : List ℕ) (j k : ℕ) → j ≤ k → slice_index_or (unit_starts text) j (byte_len text) ≤ slice_index_or (unit_starts text) k (byte_len text)

-- each end is a character boundary
abbrev pub EndsAreBoundaries : (List ℕ → List ℕ) → Type 0
EndsAreBoundaries ends = (text : List ℕ) (k : ℕ) → all_scalars text ≡ true → IsCharBoundary (encode_utf8_all text) (end_place (ends text) k (byte_len text))

abbrev pub UnitStartsAreBoundaries : Type 0
UnitStartsAreBoundaries = (text : List ℕ) (k : ℕ) → all_scalars text ≡ true → IsCharBoundary (encode_utf8_all text) (slice_index_or (unit_starts text) k (byte_len text))

-- at or before the k-th end are k ends, or all
abbrev pub ComesBack : (List ℕ → List ℕ) → Type 0
ComesBack ends = (text : List ℕ) (k : ℕ) → ends_up_to (end_place (ends text) k (byte_len text)) (ends text) ≡ min k (length (ends text))

-- the second code unit of a surrogate pair, which starts where the first does
abbrev pub IsSecondUnit : List ℕ → ℕ → Type 0
IsSecondUnit text k = (0 < k) × (k < units text) × (slice_index (unit_starts text) (k - 1) ≡ slice_index (unit_starts text) k)

abbrev pub SecondUnitComesBackToFirst : Type 0
SecondUnitComesBackToFirst = (text : List ℕ) (k : ℕ) → IsSecondUnit text k → ends_up_to (slice_index_or (unit_starts text) k (byte_len text)) (unit_ends text) + 1 ≡ k

abbrev pub OtherUnitsComeBack : Type 0
OtherUnitsComeBack = (text : List ℕ) (k : ℕ) → ¬ (IsSecondUnit text k) → ends_up_to (slice_index_or (unit_starts text) k (byte_len text)) (unit_ends text) ≡ min k (units text)

-- ---- the order of offsets and the order of indices
-- the k-th end is at or before an offset exactly if at least k ends are
abbrev pub EndsAndPlacesAgree : (List ℕ → List ℕ) → Type 0
EndsAndPlacesAgree ends = (text : List ℕ) (k place : ℕ) → k ≤ length (ends text) → (end_place (ends text) k (byte_len text) ≤ place) ↔ (k ≤ ends_up_to place (ends text))

-- the last end up to an offset is at or before it
abbrev pub LastEndIsBefore : (List ℕ → List ℕ) → Type 0
LastEndIsBefore ends = (text : List ℕ) (place : ℕ) → end_place (ends text) (ends_up_to place (ends text)) (byte_len text) ≤ min place (byte_len text)

abbrev pub LastUnitStartIsBefore : Type 0
LastUnitStartIsBefore = (text : List ℕ) (place : ℕ) → slice_index_or (unit_starts text) (ends_up_to place (unit_ends text)) (byte_len text) ≤ min place (byte_len text)

-- the boundary between two parts of a text is at or before the start of character k exactly if at
-- most k characters end at or before the boundary
abbrev pub CharsAndBoundariesAgree : Type 0
CharsAndBoundariesAgree = (before after : List ℕ) (k : ℕ)
    → (byte_len before ≤ end_place (char_ends (before ++ after)) k (byte_len (before ++ after))) ↔ (ends_up_to (byte_len before) (char_ends (before ++ after)) ≤ k)

abbrev pub UnitsAndBoundariesAgree : Type 0
UnitsAndBoundariesAgree = (before after : List ℕ) (k : ℕ)
    → (byte_len before ≤ slice_index_or (unit_starts (before ++ after)) k (byte_len (before ++ after))) ↔ (ends_up_to (byte_len before) (unit_ends (before ++ after)) ≤ k)

-- no boundary is between an offset and the offset that its index leads back to
abbrev pub CharsGoToLastBoundary : Type 0
CharsGoToLastBoundary = (before after : List ℕ) (place : ℕ) → byte_len before ≤ place
    → byte_len before ≤ end_place (char_ends (before ++ after)) (ends_up_to place (char_ends (before ++ after))) (byte_len (before ++ after))

abbrev pub UnitsGoToLastBoundary : Type 0
UnitsGoToLastBoundary = (before after : List ℕ) (place : ℕ) → byte_len before ≤ place
    → byte_len before ≤ slice_index_or (unit_starts (before ++ after)) (ends_up_to place (unit_ends (before ++ after))) (byte_len (before ++ after))

-- ---- a part of a text
abbrev pub AnyTexts : List ℕ → List ℕ → Type 0
AnyTexts first second = Unit {0}

-- the ends up to an offset in a part of a text: the count of the text before it, plus the ends in
-- the part
abbrev pub EndsAddUp : (List ℕ → List ℕ → Type 0) → (List ℕ → ℕ) → (List ℕ → List ℕ) → Type 0
EndsAddUp may_meet count ends = (before part after : List ℕ) (place : ℕ) → may_meet before part → may_meet (before ++ part) after → byte_len before ≤ place → place ≤ byte_len (before ++ part)
    → ends_up_to place (ends (before ++ part ++ after)) ≡ count before + ends_up_to (place - byte_len before) (ends part)

-- an end in a part of a text: the bytes before the part, plus the offset in it
abbrev pub PlacesAddUp : (List ℕ → List ℕ → Type 0) → (List ℕ → ℕ) → (List ℕ → List ℕ) → Type 0
PlacesAddUp may_meet count ends = (before part after : List ℕ) (k : ℕ) → may_meet before part → may_meet (before ++ part) after → count before < k → (k ≤ count (before ++ part)) ⊎ (after ≡ [])
    → end_place (ends (before ++ part ++ after)) k (byte_len (before ++ part ++ after)) ≡ byte_len before + end_place (ends part) (k - count before) (byte_len part)

-- the start of a character in a part of a text, by one of its code units
abbrev pub UnitStartsAddUp : Type 0
UnitStartsAddUp = (before part after : List ℕ) (k : ℕ) → units before ≤ k → (k < units (before ++ part)) ⊎ (after ≡ [])
    → slice_index_or (unit_starts (before ++ part ++ after)) k (byte_len (before ++ part ++ after)) ≡ byte_len before + slice_index_or (unit_starts part) (k - units before) (byte_len part)

-- after a boundary between two texts, the ends are those of the second one, whatever is before it;
-- that includes the end of a CR LF that the boundary splits
abbrev pub EndsBehind : (List ℕ → List ℕ) → Type 0
EndsBehind ends = (before rest : List ℕ) (place : ℕ) → byte_len before ≤ place
    → ends_up_to place (ends (before ++ rest)) ≡ ends_up_to (byte_len before) (ends (before ++ rest)) + ends_up_to (place - byte_len before) (ends rest)
