-- The breaks of a rope are those of a scheme in which CR LF is one break.
use Rattle.std.proofs.Common.{length}
use Rattle.str_indices.specs.Text.{breaks, break_ends, char_ends, units, NoCrLfBetween}
use Rattle.str_indices.specs.Laws.{LosesBreakInCrLf, JoinsEnds, ComesBack, AnyTexts, EndsAddUp, PlacesAddUp, EndsAreBoundaries, EndsBehind, NoMoreThanBytes, RisesWithPlace, RisesWithIndex}
use Rattle.str_indices.proofs.TextLaws.{breaks_of_joined_texts-any, break_ends_of_joined_texts, counts_are_at_most_bytes-units, counts_are_at_most_bytes-lines, from_byte_idx_is_monotone-chars, from_byte_idx_is_monotone-lines, to_byte_idx_is_monotone-lines, to_byte_idx_is_a_boundary-lines, conversion_there_and_back-lines, ends_of_a_part-chars, ends_of_a_part-lines, places_of_a_part-lines, ends_behind_a_boundary-lines}
use Rattle.ropey_tree.specs.Breaks.{is_break}

-- how they add up over joined texts, and that no measure exceeds the bytes
pub record BreaksOfParts : Type 0 where
  pub joined : LosesBreakInCrLf is_break
  pub whole : EndsAddUp NoCrLfBetween (breaks is_break) (break_ends is_break)
  pub behind : EndsBehind (break_ends is_break)
  pub rises : RisesWithPlace (break_ends is_break)
  pub few : NoMoreThanBytes (breaks is_break)
  pub few_units : NoMoreThanBytes units

pub breaks_of_parts : BreaksOfParts
breaks_of_parts = record {
  joined = breaks_of_joined_texts-any is_break;
  whole = ends_of_a_part-lines is_break;
  behind = ends_behind_a_boundary-lines is_break;
  rises = from_byte_idx_is_monotone-lines is_break;
  few = counts_are_at_most_bytes-lines is_break;
  few_units = counts_are_at_most_bytes-units;
}

-- where lines start: in joined texts and in a part of a text, and by index
pub record LineStarts : Type 0 where
  pub breaks_are : BreaksOfParts
  pub joined : JoinsEnds is_break
  pub comes_back : ComesBack (break_ends is_break)
  pub rises : RisesWithIndex (break_ends is_break)
  pub boundaries : EndsAreBoundaries (break_ends is_break)
  pub part : PlacesAddUp NoCrLfBetween (breaks is_break) (break_ends is_break)
  pub chars : EndsAddUp AnyTexts length char_ends
  pub chars_rise : RisesWithPlace char_ends

pub line_starts : LineStarts
line_starts = record {
  breaks_are = breaks_of_parts;
  joined = break_ends_of_joined_texts is_break;
  comes_back = conversion_there_and_back-lines is_break;
  rises = to_byte_idx_is_monotone-lines is_break;
  boundaries = to_byte_idx_is_a_boundary-lines is_break;
  part = places_of_a_part-lines is_break;
  chars = ends_of_a_part-chars;
  chars_rise = from_byte_idx_is_monotone-chars;
}
