-- The laws of the crate, each of every text: proofs here and in the crates above cite them. A name is
-- that of the law in `laws`, with its clause.
use Rattle.std.proofs.Common.{arith, cond, ◌≤◌, ℕ, Bool, length}
use Rattle.std.proofs.lemmas.Str.{length-le-encodes}
use Rattle.std.proofs.lemmas.Bool.{cond_both}
use Rattle.str_indices.specs.Text.{breaks, break_ends, char_ends, unit_ends, units, is_line_break, is_crlf_break, is_lf_break, NoCrLfBetween, ends_break, units_of}
use Rattle.str_indices.specs.Laws.{JoinsEnds, JoinsBreaks, LosesBreakInCrLf, LosesNoBreak, AddsUp, UnitsAreCharsAndPairs, FewerBreaks, NoMoreThanBytes, RisesWithPlace, RisesWithIndex, UnitStartsRise, EndsAreBoundaries, UnitStartsAreBoundaries, ComesBack, SecondUnitComesBackToFirst, OtherUnitsComeBack, EndsAndPlacesAgree, LastEndIsBefore, LastUnitStartIsBefore, CharsAndBoundariesAgree, UnitsAndBoundariesAgree, CharsGoToLastBoundary, UnitsGoToLastBoundary, AnyTexts, EndsAddUp, PlacesAddUp, UnitStartsAddUp, EndsBehind}
use Rattle.str_indices.specs.FirstBreak.{GoesOnBehindFirstBreak}
use Rattle.str_indices.proofs.Joined.{breaks-append, units-add, units-split, lf-fewer, crlf-fewer, units-le-bytes, breaks-le-bytes}
use Rattle.str_indices.proofs.FirstBreaks.{joined-ends, goes_on}
use Rattle.str_indices.proofs.Places.{rises_with_place, rises_with_index, unit_starts-rise, ends_are_boundaries, unit_starts-boundaries, comes_back}
use Rattle.str_indices.proofs.Units.{second_units-back, other_units-back}
use Rattle.str_indices.proofs.Order.{end_place-le, chars-and-boundaries, units-and-boundaries, end_before, unit_start-before, chars-nearest, units-nearest}
use Rattle.str_indices.proofs.Parts.{chars-add_up, units-add_up, breaks-add_up, char-places_add_up, unit-starts_add_up, break-places_add_up}
use Rattle.str_indices.proofs.Behind.{ends-behind}

pub breaks_of_joined_texts-any : (is_break : ℕ → Bool) → JoinsBreaks is_break
breaks_of_joined_texts-any = breaks-append

pub breaks_of_joined_texts-lines : LosesBreakInCrLf is_line_break
breaks_of_joined_texts-lines = breaks-append is_line_break

pub breaks_of_joined_texts-lines_crlf : LosesBreakInCrLf is_crlf_break
breaks_of_joined_texts-lines_crlf = breaks-append is_crlf_break

pub breaks_of_joined_texts-lines_lf : LosesNoBreak is_lf_break
breaks_of_joined_texts-lines_lf = λ first second. omega (arith, breaks-append is_lf_break first second)

pub break_ends_of_joined_texts : (is_break : ℕ → Bool) → JoinsEnds is_break
break_ends_of_joined_texts = joined-ends

pub breaks_behind_the_first : (is_break : ℕ → Bool) → GoesOnBehindFirstBreak is_break
breaks_behind_the_first = goes_on

pub counts_of_joined_texts-units : AddsUp units
counts_of_joined_texts-units = units-add

pub units_are_chars_and_pairs : UnitsAreCharsAndPairs
units_are_chars_and_pairs = units-split

pub schemes_of_breaks-lf : FewerBreaks is_lf_break is_crlf_break
schemes_of_breaks-lf = lf-fewer

pub schemes_of_breaks-crlf : FewerBreaks is_crlf_break is_line_break
schemes_of_breaks-crlf = crlf-fewer

pub counts_are_at_most_bytes-chars : NoMoreThanBytes length
counts_are_at_most_bytes-chars = length-le-encodes

pub counts_are_at_most_bytes-units : NoMoreThanBytes units
counts_are_at_most_bytes-units = units-le-bytes

pub counts_are_at_most_bytes-lines : (is_break : ℕ → Bool) → NoMoreThanBytes (breaks is_break)
counts_are_at_most_bytes-lines = breaks-le-bytes

pub from_byte_idx_is_monotone-chars : RisesWithPlace char_ends
from_byte_idx_is_monotone-chars = λ text. rises_with_place (char_ends text)

pub from_byte_idx_is_monotone-units : RisesWithPlace unit_ends
from_byte_idx_is_monotone-units = λ text. rises_with_place (unit_ends text)

pub from_byte_idx_is_monotone-lines : (is_break : ℕ → Bool) → RisesWithPlace (break_ends is_break)
from_byte_idx_is_monotone-lines = λ is_break text. rises_with_place (break_ends is_break text)

pub to_byte_idx_is_monotone-chars : RisesWithIndex char_ends
to_byte_idx_is_monotone-chars = rises_with_index (λ _ _. 1)

pub to_byte_idx_is_monotone-units : UnitStartsRise
to_byte_idx_is_monotone-units = unit_starts-rise

pub to_byte_idx_is_monotone-lines : (is_break : ℕ → Bool) → RisesWithIndex (break_ends is_break)
to_byte_idx_is_monotone-lines = λ is_break. rises_with_index (λ c rest. cond (ends_break is_break c rest) 1 0)

pub to_byte_idx_is_a_boundary-chars : EndsAreBoundaries char_ends
to_byte_idx_is_a_boundary-chars = ends_are_boundaries (λ _ _. 1)

pub to_byte_idx_is_a_boundary-units : UnitStartsAreBoundaries
to_byte_idx_is_a_boundary-units = unit_starts-boundaries

pub to_byte_idx_is_a_boundary-lines : (is_break : ℕ → Bool) → EndsAreBoundaries (break_ends is_break)
to_byte_idx_is_a_boundary-lines = λ is_break. ends_are_boundaries (λ c rest. cond (ends_break is_break c rest) 1 0)

pub conversion_there_and_back-chars : ComesBack char_ends
conversion_there_and_back-chars = comes_back (λ _ _. 1) (λ _ _. omega arith)

pub conversion_there_and_back-lines : (is_break : ℕ → Bool) → ComesBack (break_ends is_break)
conversion_there_and_back-lines = λ is_break. comes_back (λ c rest. cond (ends_break is_break c rest) 1 0) (λ c rest. cond_both (ends_break is_break c rest) 1 0 (λ n. n ≤ 1) (λ _. omega arith) (λ _. omega arith))

pub conversion_there_and_back-second_unit : SecondUnitComesBackToFirst
conversion_there_and_back-second_unit = second_units-back

pub conversion_there_and_back-other_units : OtherUnitsComeBack
conversion_there_and_back-other_units = other_units-back

pub ends_and_places_agree-chars : EndsAndPlacesAgree char_ends
ends_and_places_agree-chars = end_place-le (λ _ _. 1) (λ _ _. omega arith)

pub ends_and_places_agree-lines : (is_break : ℕ → Bool) → EndsAndPlacesAgree (break_ends is_break)
ends_and_places_agree-lines = λ is_break. end_place-le (λ c rest. cond (ends_break is_break c rest) 1 0) (λ c rest. cond_both (ends_break is_break c rest) 1 0 (λ n. n ≤ 1) (λ _. omega arith) (λ _. omega arith))

pub boundaries_and_indices_agree-chars : CharsAndBoundariesAgree
boundaries_and_indices_agree-chars = chars-and-boundaries

pub boundaries_and_indices_agree-units : UnitsAndBoundariesAgree
boundaries_and_indices_agree-units = units-and-boundaries

pub place_there_and_back-lines : (is_break : ℕ → Bool) → LastEndIsBefore (break_ends is_break)
place_there_and_back-lines = λ is_break. end_before (λ c rest. cond (ends_break is_break c rest) 1 0) (λ c rest. cond_both (ends_break is_break c rest) 1 0 (λ n. n ≤ 1) (λ _. omega arith) (λ _. omega arith))

pub place_there_and_back-chars : LastEndIsBefore char_ends
place_there_and_back-chars = end_before (λ _ _. 1) (λ _ _. omega arith)

pub place_there_and_back-units : LastUnitStartIsBefore
place_there_and_back-units = unit_start-before

pub place_there_and_back-nearest_char : CharsGoToLastBoundary
place_there_and_back-nearest_char = chars-nearest

pub place_there_and_back-nearest_unit : UnitsGoToLastBoundary
place_there_and_back-nearest_unit = units-nearest

pub ends_of_a_part-chars : EndsAddUp AnyTexts length char_ends
ends_of_a_part-chars = chars-add_up

pub ends_of_a_part-units : EndsAddUp AnyTexts units unit_ends
ends_of_a_part-units = units-add_up

pub ends_of_a_part-lines : (is_break : ℕ → Bool) → EndsAddUp NoCrLfBetween (breaks is_break) (break_ends is_break)
ends_of_a_part-lines = breaks-add_up

pub places_of_a_part-chars : PlacesAddUp AnyTexts length char_ends
places_of_a_part-chars = char-places_add_up

pub places_of_a_part-units : UnitStartsAddUp
places_of_a_part-units = unit-starts_add_up

pub places_of_a_part-lines : (is_break : ℕ → Bool) → PlacesAddUp NoCrLfBetween (breaks is_break) (break_ends is_break)
places_of_a_part-lines = break-places_add_up

pub ends_behind_a_boundary-chars : EndsBehind char_ends
ends_behind_a_boundary-chars = ends-behind (λ _ _. 1)

pub ends_behind_a_boundary-units : EndsBehind unit_ends
ends_behind_a_boundary-units = ends-behind (λ c _. units_of c)

pub ends_behind_a_boundary-lines : (is_break : ℕ → Bool) → EndsBehind (break_ends is_break)
ends_behind_a_boundary-lines = λ is_break. ends-behind (λ c rest. cond (ends_break is_break c rest) 1 0)
