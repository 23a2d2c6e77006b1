-- Worked examples of the definitions.
use Rattle.std.specs.Prelude.{◌≡◌, false, [], ◌∷◌, refl}
use Rattle.str_indices.specs.FirstBreak.{IsBreak}
use Rattle.str_indices.specs.Text.{is_line_break, is_crlf_break, is_lf_break, ends_break, char_ends, break_ends, breaks, unit_ends, unit_starts, units, surrogate_pairs, ends_up_to, end_place}

-- `a`, CR, LF, U+2028, CR
mixed_ends : break_ends is_line_break (0x61 ∷ 13 ∷ 10 ∷ 0x2028 ∷ 13 ∷ []) ≡ 3 ∷ 6 ∷ 7 ∷ []
mixed_ends = refl

mixed_ends_by_crlf : break_ends is_crlf_break (0x61 ∷ 13 ∷ 10 ∷ 0x2028 ∷ 13 ∷ []) ≡ 3 ∷ 7 ∷ []
mixed_ends_by_crlf = refl

mixed_ends_by_lf : break_ends is_lf_break (0x61 ∷ 13 ∷ 10 ∷ 0x2028 ∷ 13 ∷ []) ≡ 3 ∷ []
mixed_ends_by_lf = refl

-- CR LF is one break, and it has not ended between its two characters
one_break : breaks is_line_break (13 ∷ 10 ∷ []) ≡ 1
one_break = refl

no_end_inside : ends_up_to 1 (break_ends is_line_break (13 ∷ 10 ∷ [])) ≡ 0
no_end_inside = refl

-- LF CR is two
two_breaks : breaks is_line_break (10 ∷ 13 ∷ []) ≡ 2
two_breaks = refl

-- `a`, U+1F438, `b`: one, four and one byte, and one, two and one unit
frog_char_ends : char_ends (0x61 ∷ 0x1F438 ∷ 0x62 ∷ []) ≡ 1 ∷ 5 ∷ 6 ∷ []
frog_char_ends = refl

frog_unit_ends : unit_ends (0x61 ∷ 0x1F438 ∷ 0x62 ∷ []) ≡ 1 ∷ 5 ∷ 5 ∷ 6 ∷ []
frog_unit_ends = refl

frog_unit_starts : unit_starts (0x61 ∷ 0x1F438 ∷ 0x62 ∷ []) ≡ 0 ∷ 1 ∷ 1 ∷ 5 ∷ []
frog_unit_starts = refl

frog_units : units (0x61 ∷ 0x1F438 ∷ 0x62 ∷ []) ≡ 4
frog_units = refl

frog_pairs : surrogate_pairs (0x61 ∷ 0x1F438 ∷ 0x62 ∷ []) ≡ 1
frog_pairs = refl

-- the start, an end, and past the last end
start_place : end_place (3 ∷ 6 ∷ 7 ∷ []) 0 9 ≡ 0
start_place = refl

second_place : end_place (3 ∷ 6 ∷ 7 ∷ []) 2 9 ≡ 6
second_place = refl

place_past_last : end_place (3 ∷ 6 ∷ 7 ∷ []) 4 9 ≡ 9
place_past_last = refl

-- `a`, CR, LF, `b`: CR LF is the first break by both sets that have CR, and LF alone by the third
one_break_of_two : IsBreak is_line_break (13 ∷ 10 ∷ []) (0x62 ∷ [])
one_break_of_two = (refl, refl, refl, refl)

no_break_at_cr : ends_break is_line_break 13 (10 ∷ 0x62 ∷ []) ≡ false
no_break_at_cr = refl

lf_alone : IsBreak is_lf_break (10 ∷ []) (0x62 ∷ [])
lf_alone = refl
