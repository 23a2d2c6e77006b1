-- Offsets in a text in characters, in code units and in lines agree with one another.
use Rattle.std.proofs.Common.{length}
use Rattle.str_indices.specs.Text.{break_ends, char_ends, unit_ends, units}
use Rattle.str_indices.specs.Laws.{AnyTexts, CharsAndBoundariesAgree, EndsAddUp, EndsAndPlacesAgree, EndsAreBoundaries, LastEndIsBefore, LastUnitStartIsBefore, NoMoreThanBytes, UnitStartsAreBoundaries, UnitsAndBoundariesAgree}
use Rattle.str_indices.proofs.TextLaws.{boundaries_and_indices_agree-chars, boundaries_and_indices_agree-units, counts_are_at_most_bytes-units, ends_and_places_agree-lines, ends_of_a_part-chars, ends_of_a_part-units, place_there_and_back-chars, place_there_and_back-lines, place_there_and_back-units, to_byte_idx_is_a_boundary-chars, to_byte_idx_is_a_boundary-units}
use Rattle.ropey.specs.Chunks.{is_break}

-- the laws of offsets in characters, in code units and in lines
pub record PlaceLaws : Type 0 where
  pub chars_add : EndsAddUp AnyTexts length char_ends
  pub chars_agree : CharsAndBoundariesAgree
  pub chars_back : LastEndIsBefore char_ends
  pub units_add : EndsAddUp AnyTexts units unit_ends
  pub units_agree : UnitsAndBoundariesAgree
  pub units_back : LastUnitStartIsBefore
  pub lines_back : LastEndIsBefore (break_ends is_break)
  pub lines_agree : EndsAndPlacesAgree (break_ends is_break)
  pub char_boundaries : EndsAreBoundaries char_ends
  pub unit_boundaries : UnitStartsAreBoundaries
  pub few_units : NoMoreThanBytes units

pub places : PlaceLaws
places = record {
  chars_add = ends_of_a_part-chars;
  chars_agree = boundaries_and_indices_agree-chars;
  chars_back = place_there_and_back-chars;
  units_add = ends_of_a_part-units;
  units_agree = boundaries_and_indices_agree-units;
  units_back = place_there_and_back-units;
  lines_back = place_there_and_back-lines is_break;
  lines_agree = ends_and_places_agree-lines is_break;
  char_boundaries = to_byte_idx_is_a_boundary-chars;
  unit_boundaries = to_byte_idx_is_a_boundary-units;
  few_units = counts_are_at_most_bytes-units;
}
