-- The column of an offset in a line: code units from the line's start.
use Rattle.std.proofs.Common.{◌≡◌, ℕ, ◌+◌, ◌-◌, ◌≤◌, true, List, ◌++◌, length, take, drop, IsUtf8, sym, ap, ◌∙◌, arith, chars, length-append}
use Rattle.std.specs.Str.{all_scalars, IsCharBoundary}
use Rattle.std.proofs.lemmas.List.Sums.{sum_by-append}
use Rattle.std.proofs.lemmas.Str.{IsUtf8-take, chars-append, chars-encodes, encodes-append, encodes-chars}
use Rattle.std.proofs.Math.Seq.{take-append_seam}
use Rattle.str_indices.specs.Text.{byte_len, units, units_of, char_ends, unit_ends, ends_up_to, end_place}
use Rattle.rope_search_reports.specs.Text.{bytes_of}
use Rattle.rope_search_reports.specs.Report.{column}
use Rattle.rope_search_reports.proofs.TextPlaces.{PlaceLaws}
use Rattle.rope_search_reports.proofs.ChangeLemmas.{two}
use Rattle.rope_search_reports.proofs.LineLemmas.{byte_len-append}
use Rattle.rope_search_reports.proofs.PlaceLemmas.{Split, split_at, scalars-parts, front_of, chars_there, units_there}

-- the code units before it
pub column-is : (line : List ℕ) (place : ℕ) → all_scalars line ≡ true → (s : Split line place) → column (bytes_of line) place ≡ units s.front
column-is line place scalars s =
    let bytes : bytes_of line ≡ bytes_of s.front ++ bytes_of s.back = ap bytes_of s.parts ∙ encodes-append s.front s.back in
    let taken : take place (bytes_of line) ≡ bytes_of s.front =
    ap (λ n. take n (bytes_of line)) s.place_is ∙ ap (take (byte_len s.front)) bytes ∙ take-append_seam (bytes_of s.front) (bytes_of s.back) in
    let front_scalars = (scalars-parts s.front s.back (sym (ap all_scalars s.parts) ∙ scalars)).0 in
    ap (λ bs. units (chars bs)) taken ∙ ap units (chars-encodes s.front front_scalars)

-- if each character takes one byte, it is the offset
pub ascii-column : PlaceLaws → (line : List ℕ) (place : ℕ) → all_scalars line ≡ true → IsCharBoundary (bytes_of line) place → units line ≡ byte_len line
    → place ≡ column (bytes_of line) place
ascii-column law line place scalars boundary ascii =
    let s = split_at line place scalars boundary in
    let few = law.few_units s.front in
    let few' = law.few_units s.back in
    let place_is = s.place_is in
    omega (
      arith,
      ascii,
      few,
      few',
      place_is,
      ap units s.parts ∙ sum_by-append units_of s.front s.back,
      ap byte_len s.parts,
      byte_len-append s.front s.back,
      column-is line place scalars s,
    )

-- otherwise it is computed from its character, which is one of the line or its end
pub char-column : PlaceLaws → (line : List ℕ) (place char : ℕ) → all_scalars line ≡ true → IsCharBoundary (bytes_of line) place → char ≡ ends_up_to place (char_ends line)
    → (char ≤ length line) × (ends_up_to (end_place (char_ends line) char (byte_len line)) (unit_ends line) ≡ column (bytes_of line) place)
char-column law line place char scalars boundary is =
    let s = split_at line place scalars boundary in
    let front = front_of law line s.front s.back s.parts in
    let chars_are = is ∙ chars_there law line s.front place front s.place_is in (
      omega (arith, chars_are, ap length s.parts, length-append s.front s.back),
      ap (λ n. ends_up_to (end_place (char_ends line) n (byte_len line)) (unit_ends line)) is ∙ units_there law line s.front place front s.place_is
          ∙ sym (column-is line place scalars s),
    )

-- the column of an offset, counted from another one
pub column-further : (bytes : List ℕ) (place end : ℕ) → IsUtf8 bytes → IsCharBoundary bytes place → place ≤ end
    → column bytes end ≡ column bytes place + units (chars (take (end - place) (drop place bytes)))
column-further bytes place end utf8 boundary low =
    let first = IsUtf8-take bytes place utf8 boundary in
    ap (λ bs. units (chars bs)) (two bytes place end low) ∙ ap units (chars-append (take place bytes) (take (end - place) (drop place bytes)) first)
    ∙ sum_by-append units_of (chars (take place bytes)) (chars (take (end - place) (drop place bytes)))

-- the text of a chunk
pub own-bytes : (bytes : List ℕ) → IsUtf8 bytes → bytes_of (chars bytes) ≡ bytes
own-bytes bytes utf8 = encodes-chars bytes utf8
