-- The offset of a column in a line's text, and in the text that contains the line.
use Rattle.std.proofs.Common.{◌≡◌, ℕ, ◌+◌, ◌<◌, ◌≤◌, true, List, ◌++◌, Option, None, Some, length, take, slice_index_or, refl, sym, ap, subst, ◌∙◌, arith, append_assoc, length-append, chars, IsUtf8}
use Rattle.std.specs.Prelude.{MatchOption, IfSome}
use Rattle.std.specs.Str.{all_scalars, IsCharBoundary}
use Rattle.std.proofs.Math.Seq.{take-append_seam}
use Rattle.std.proofs.lemmas.Str.{encodes-chars}
use Rattle.str_indices.specs.Text.{byte_len, units, char_ends, unit_ends, unit_starts, ends_up_to}
use Rattle.rope_search_reports.specs.declared.positions.OwnLine.{OwnLine}
use Rattle.rope_search_reports.specs.declared.positions.Place.{Place}
use Rattle.rope_search_reports.specs.Text.{bytes_of, line_count}
use Rattle.rope_search_reports.specs.Position.{line_start, line_text, IsAt, IsNowhere, IsPlaceOf}
use Rattle.rope_search_reports.specs.Drafts.{HasColumn, HasNoColumn, IsOwnLine}
use Rattle.rope_search_reports.proofs.BoundaryLemmas.{at_column, own_scalars}
use Rattle.rope_search_reports.proofs.ColumnLemmas.{column-is}
use Rattle.rope_search_reports.proofs.LineLemmas.{byte_len-append, lines-in-place}
use Rattle.rope_search_reports.proofs.PlaceLemmas.{front_of, chars_there, split_at}
use Rattle.rope_search_reports.proofs.SpotsInLines.{few-chars, in_own}
use Rattle.rope_search_reports.proofs.TextPlaces.{places}

-- ---- by the code units up to an offset

-- it is the offset of the column if their number is that
pub column-found : (own : List ℕ) (column : ℕ) (place : Place) → all_scalars own ≡ true
    → place.byte_idx ≡ slice_index_or (unit_starts own) column (byte_len own) → ends_up_to place.byte_idx (unit_ends own) ≡ column
    → place.char_idx ≡ ends_up_to place.byte_idx (char_ends own) → HasColumn own column place
column-found own column place scalars byte_is unit_is char_is =
    let s = split_at own place.byte_idx scalars (subst (IsCharBoundary (bytes_of own)) (sym byte_is) (places.unit_boundaries own column scalars)) in
    let f = front_of places own s.front s.back s.parts in
    record {
      front = s.front;
      back = s.back;
      parts = s.parts;
      byte_is = s.place_is;
      char_is = char_is ∙ chars_there places own s.front place.byte_idx f s.place_is;
      column_is = sym unit_is ∙ ap (λ n. ends_up_to n (unit_ends own)) s.place_is ∙ f.units_are;
    }

-- otherwise there is none
pub column-missed : (own : List ℕ) (column byte : ℕ) → byte ≡ slice_index_or (unit_starts own) column (byte_len own) → (ends_up_to byte (unit_ends own) ≡ column → ⊥) → HasNoColumn own column
column-missed own column byte byte_is other front back parts column_is =
    let f = front_of places own front back parts in
    let there : byte ≡ byte_len front = byte_is ∙ ap (λ n. slice_index_or (unit_starts own) n (byte_len own)) column_is ∙ f.back_from_units in
    other (ap (λ n. ends_up_to n (unit_ends own)) there ∙ f.units_are ∙ sym column_is)

-- the same in the text of a chunk
pub length-chars : (bytes : List ℕ) → IsUtf8 bytes → length bytes ≡ byte_len (chars bytes)
length-chars bytes utf8 = sym (ap length (encodes-chars bytes utf8))

-- ---- in the text that contains the line

pub record OnLine (text : List ℕ) (line column : ℕ) (place : Place) : Type 0 where
  pub is : IsPlaceOf text (line, column) place
  pub near : place.byte_idx ≤ byte_len text
  pub few : place.char_idx ≤ byte_len text

pub in-line : (text : List ℕ) (line column : ℕ) → all_scalars text ≡ true → line < line_count text → (front back : List ℕ) → line_text text line ≡ front ++ back → column ≡ units front
    → (place : Place) → place.byte_idx ≡ line_start text line + byte_len front → place.char_idx ≡ ends_up_to (line_start text line) (char_ends text) + length front → OnLine text line column place
in-line text line column text_scalars inside front back parts column_is place byte_is char_is =
    let text' = line_text text line in
    let scalars = own_scalars places text text_scalars line inside in
    let f = front_of places text' front back parts in
    let boundary : IsCharBoundary (bytes_of text') (byte_len front) = subst (IsCharBoundary (bytes_of text')) f.back_from_chars (places.char_boundaries text' (length front) scalars) in
    let columns = column-is text' (byte_len front) scalars (record { front = front; back = back; parts = parts; place_is = refl }) in
    let h = lines-in-place text line inside in
    let all = h.before ++ front in
    let whole : text ≡ all ++ (back ++ h.behind) =
    h.parts ∙ ap (λ o. h.before ++ (o ++ h.behind)) parts ∙ ap (λ t. h.before ++ t) (append_assoc front back h.behind) ∙ sym (append_assoc h.before front (back ++ h.behind)) in
    let b = front_of places text h.before (text' ++ h.behind) h.parts in
    let starts = h.starts in
    let start_char = chars_there places text h.before (line_start text line) b starts in
    let count : place.char_idx ≡ length all = omega (arith, char_is, start_char, length-append h.before front) in
    let bytes : byte_len all ≡ place.byte_idx = omega (arith, byte_is, starts, byte_len-append h.before front) in
    let at = at_column places text text_scalars line inside (byte_len front) boundary in
    let at' : IsAt text (line, column) place.byte_idx =
    subst (IsAt text (line, column)) (sym byte_is) (subst (λ n. IsAt text (line, n) (line_start text line + byte_len front)) (columns ∙ sym column_is) at) in
    let within : place.char_idx ≤ length text = omega (arith, count, ap length whole, length-append all (back ++ h.behind)) in
    record {
      is = record {
        at = at';
        within = within;
        bytes = ap (λ n. byte_len (take n text)) count ∙ ap (λ t. byte_len (take (length all) t)) whole ∙ ap byte_len (take-append_seam all (back ++ h.behind)) ∙ bytes;
      };
      near = at'.boundary.0;
      few = omega (arith, within, few-chars text);
    }

-- from the line's own text
pub on-line : (text : List ℕ) (line column : ℕ) (line_is : OwnLine) (told : List ℕ) (own place : Place) → IsOwnLine text line line_is → told ≡ line_text text line → HasColumn told column own
    → place.byte_idx ≡ line_is.start.byte_idx + own.byte_idx → place.char_idx ≡ line_is.start.char_idx + own.char_idx → OnLine text line column place
on-line text line column line_is told own place is same there byte_is char_is =
    let own_byte = there.byte_is in
    let own_char = there.char_is in
    let start_byte = is.byte_is in
    let start_char = is.char_is in
    in-line text line column is.scalars is.inside there.front there.back (sym same ∙ there.parts) there.column_is place (omega (arith, byte_is, start_byte, own_byte)) (omega (arith, char_is, start_char, own_char))

pub off-line : (text : List ℕ) (line column : ℕ) (line_is : OwnLine) (told : List ℕ) → IsOwnLine text line line_is → told ≡ line_text text line → HasNoColumn told column → IsNowhere text (line, column)
off-line text line column line_is told is same none place at =
    let h = in_own places text is.scalars line column place at in
    none h.front h.back (same ∙ h.parts) h.units_are

-- ---- an offset or none

pub place-at : (told : Option Place) (text : List ℕ) (line column : ℕ) → MatchOption told (IsNowhere text (line, column)) (IsPlaceOf text (line, column))
    → MatchOption told (IsNowhere text (line, column)) (λ place. IsAt text (line, column) place.byte_idx)
place-at None text line column nowhere = nowhere
place-at (Some place) text line column is = is.at

pub place-chars : (told : Option Place) (text : List ℕ) (line column : ℕ) → MatchOption told (IsNowhere text (line, column)) (IsPlaceOf text (line, column))
    → IfSome told (λ place. (place.char_idx ≤ length text) × (byte_len (take place.char_idx text) ≡ place.byte_idx))
place-chars None text line column nowhere = tt
place-chars (Some place) text line column is = (is.within, is.bytes)
