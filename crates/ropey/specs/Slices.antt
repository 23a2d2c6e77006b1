-- Parts of a rope: the words of its slices, of their text and bytes, and of ranges.
pub use Rattle.ropey_walk.specs.Slices.{slice_pieces, slice_text}
pub use Rattle.ropey_walk.specs.Comparing.{slice_bytes}
pub use Rattle.ropey_walk.specs.Clips.{between, pieces_from_char, pieces_to_char, clip}
pub use Rattle.ropey_walk.specs.Conversions.{char_of_line}
-- where a range starts and ends, the part that it selects, and why it is refused
pub use Rattle.ropey_walk.specs.Ranges.{start_of, end_of, chars_in, bytes_in, IsRangeIn, IsByteRangeIn, RefusesChars, RefusesBytes}
