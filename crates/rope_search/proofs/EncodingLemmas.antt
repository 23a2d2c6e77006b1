-- Offsets, and the number of characters before them.
use Rattle.std.proofs.Common.{◌≡◌, ℕ, ◌+◌, ◌≤◌, true, List, [], ◌++◌, length, take, drop, refl, sym, ap, subst, ◌∙◌, arith, append-nil, take-append-drop}
use Rattle.std.specs.Str.{IsCharBoundary, IsUtf8, all_scalars, chars}
use Rattle.std.proofs.lemmas.List.{length-take-le}
use Rattle.std.proofs.lemmas.List.Sums.{count_by-le-length}
use Rattle.std.proofs.lemmas.Str.{chars-append, chars-encodes, encodes-chars, IsUtf8-take}
use Rattle.std.specs.Prelude.{nat_le, encode_utf8_all, Option, None, Some, MatchOption, IfSome}
use Rattle.str_indices.specs.Laws.{LastEndIsBefore}
use Rattle.str_indices.specs.Text.{byte_len, break_ends, char_ends, ends_up_to, end_place}
use Rattle.ropey.specs.Chunks.{is_break}
use Rattle.rope_search_reports.specs.Position.{IsAt, IsNowhere, column_at, line_at, line_start, position, text_end}
use Rattle.rope_search_reports.specs.Text.{IsText}
use Rattle.rope_search_reports.proofs.SpotLemmas.{spot-one}
use Rattle.rope_search_reports.proofs.TextPlaces.{places}
use Rattle.rope_search.specs.Encodings.{CharLaws, IsAtIn, column_in}
use Rattle.rope_search.specs.declared.encodings.Encoding.{Encoding}
use Rattle.rope_search.specs.declared.encodings.Encoding.TheVariants.{Utf8, Utf16, Utf32}

-- the number of characters that end up to an offset
abbrev pub chars_up_to : List ℕ → ℕ → ℕ
chars_up_to text place = ends_up_to place (char_ends text)

-- all of a text's characters end up to its end
all-chars : CharLaws → (text : List ℕ) → ends_up_to (byte_len text) (char_ends text) ≡ length text
all-chars law text =
    let same : text ++ [] ++ [] ≡ text = ap (λ t. t ++ []) (append-nil text) ∙ append-nil text in
    let within : byte_len text ≤ byte_len (text ++ []) = omega (arith, ap byte_len (append-nil text)) in
    ap (λ t. ends_up_to (byte_len text) (char_ends t)) (sym same) ∙ law.add text [] [] (byte_len text) tt tt (omega arith) within ∙ omega arith

pub chars-within : CharLaws → (text : List ℕ) (place : ℕ) → place ≤ byte_len text → ends_up_to place (char_ends text) ≤ length text
chars-within law text place low = omega (arith, law.rise text place (byte_len text) low, all-chars law text)

enough : CharLaws → (text : List ℕ) → length text ≤ length (char_ends text)
enough law text = omega (arith, all-chars law text, count_by-le-length (λ e. nat_le e (byte_len text)) (char_ends text))

-- the start of a character is in the text, and its number is that of the characters before it
pub char-within : CharLaws → (text : List ℕ) (char : ℕ) → char ≤ length text → end_place (char_ends text) char (byte_len text) ≤ byte_len text
char-within law text char low = (law.places text char (byte_len text) (omega (arith, low, enough law text))).1 (omega (arith, low, all-chars law text))

pub chars-before : CharLaws → (text : List ℕ) (char : ℕ) → char ≤ length text
    → ends_up_to (end_place (char_ends text) char (byte_len text)) (char_ends text) ≡ char
chars-before law text char low = omega (arith, law.back text char, low, enough law text)

-- the parts of a text before and after a boundary
parts_at : (text : List ℕ) (place : ℕ) → all_scalars text ≡ true → IsCharBoundary (encode_utf8_all text) place
    → (before : List ℕ) × (after : List ℕ) × (text ≡ before ++ after) × (byte_len before ≡ place)
parts_at text place scalars boundary =
    let bytes = encode_utf8_all text in
    let utf8 : IsUtf8 bytes = (text, (scalars, refl)) in
    let first = IsUtf8-take bytes place utf8 boundary in (
      chars (take place bytes),
      chars (drop place bytes),
      sym (chars-encodes text scalars) ∙ ap chars (sym (take-append-drop place bytes)) ∙ chars-append (take place bytes) (drop place bytes) first,
      ap length (encodes-chars (take place bytes) first) ∙ length-take-le place bytes boundary.0,
    )

-- and it is where that character starts
pub char-starts : CharLaws → (text : List ℕ) (place char : ℕ) → all_scalars text ≡ true → IsCharBoundary (encode_utf8_all text) place
    → ends_up_to place (char_ends text) ≡ char → end_place (char_ends text) char (byte_len text) ≡ place
char-starts law text place char scalars boundary is =
    let split = parts_at text place scalars boundary in
    let before = split.0 in
    let after = split.1 in
    let low = law.last text place in
    let here : end_place (char_ends text) (ends_up_to place (char_ends text)) (byte_len text) ≡ end_place (char_ends text) char (byte_len text) =
    ap (λ n. end_place (char_ends text) n (byte_len text)) is in
    let agree : (ends_up_to (byte_len before) (char_ends text) ≤ char) → byte_len before ≤ end_place (char_ends text) char (byte_len text) =
    subst (λ t. (ends_up_to (byte_len before) (char_ends t) ≤ char) → byte_len before ≤ end_place (char_ends t) char (byte_len t)) (sym split.2) ((law.agree before after char).1) in
    let counted : ends_up_to (byte_len before) (char_ends text) ≡ ends_up_to place (char_ends text) = ap (λ n. ends_up_to n (char_ends text)) split.3 in
    omega (arith, low, here, agree (omega (arith, counted, is)), split.3)

-- ---- lines and columns

-- an offset with this column is that number of bytes, or characters, after the start of its line
pub bytes-sum : LastEndIsBefore (break_ends is_break) → (text : List ℕ) (line column place : ℕ) → IsAtIn Utf8 text line column place
    → place ≡ line_start text line + column
bytes-sum lines text line column place at = omega (arith, at.column_is, ap (line_start text) at.line_is, lines text place)

pub chars-sum : CharLaws → LastEndIsBefore (break_ends is_break) → (text : List ℕ) (line column place : ℕ) → IsAtIn Utf32 text line column place
    → ends_up_to place (char_ends text) ≡ ends_up_to (line_start text line) (char_ends text) + column
chars-sum law lines text line column place at =
    let low : line_start text (line_at text place) ≤ place = omega (arith, lines text place) in
    omega (arith, at.column_is, ap (λ l. ends_up_to (line_start text l) (char_ends text)) at.line_is, law.rise text (line_start text (line_at text place)) place low)

-- ---- columns in code units are those of positions

pub at-units : (text : List ℕ) (line column place : ℕ) → IsAtIn Utf16 text line column place → IsAt text (line, column) place
at-units text line column place at = record {
  boundary = at.boundary;
  same = ap (λ n. (line, n)) at.column_is ∙ ap (λ l. (l, column_at text place)) at.line_is;
  within = at.within;
}

pub units-column : (text : List ℕ) (line column : ℕ) (found : Option ℕ) → MatchOption found (IsNowhere text (line, column)) (λ place. IsAt text (line, column) place)
    → IfSome found (λ place. line ≡ line_at text place → column ≡ column_in Utf16 text place)
units-column text line column None at = tt
units-column text line column (Some place) at = λ _. ap (λ (p : ℕ × ℕ). p.1) at.same

pub units-only : (text : List ℕ) (line column : ℕ) (found : Option ℕ) → IsText text → MatchOption found (IsNowhere text (line, column)) (λ place. IsAt text (line, column) place)
    → (place : ℕ) → IsAtIn Utf16 text line column place → found ≡ Some place
units-only text line column None scalars nowhere place at = absurd (nowhere place (at-units text line column place at))
units-only text line column (Some found) scalars there place at =
    ap Some (spot-one places text scalars (line, column) found place there (at-units text line column place at))

-- the position of such an offset has that offset
pub position-at : (encoding : Encoding) (text : List ℕ) (line column place : ℕ) (spot : ℕ × ℕ) → IsAtIn encoding text line column place → spot ≡ position text place
    → IsAt text spot place
position-at encoding text line column place spot at is = record {
  boundary = at.boundary;
  same = is;
  within = subst (λ l. place ≤ text_end text l) (at.line_is ∙ sym (ap (λ (p : ℕ × ℕ). p.0) is)) at.within;
}
