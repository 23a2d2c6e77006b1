-- The bytes of a part of a text, from a byte index up to another.
use Rattle.std.proofs.Common.{◌≡◌, ℕ, ◌+◌, ◌≤◌, true, List, ◌++◌, length, take, drop, refl, ap, sym, ◌∙◌, length-take-le}
use Rattle.std.specs.Prelude.{encode_utf8_all}
use Rattle.std.specs.Str.{all_scalars, chars, IsUtf8, IsCharBoundary}
use Rattle.std.proofs.lemmas.List.{take_at, drop_at}
use Rattle.std.proofs.lemmas.Str.{encodes-append, encodes-chars, chars-encodes, IsUtf8-take}
use Rattle.str_indices.specs.Text.{byte_len, char_ends}
use Rattle.str_indices.specs.Laws.{AnyTexts, EndsAddUp}
use Rattle.ropey_tree.specs.declared.counts.Counts.{Counts}
use Rattle.ropey_walk.specs.Clips.{between}
use Rattle.ropey_walk.specs.Conversions.{char_of_byte}
use Rattle.ropey_walk.proofs.CharWalks.{chars_cut}
use Rattle.ropey_walk.proofs.Counting.{take-parts}
use Rattle.ropey_walk.proofs.Placing.{whole_chars}
use Rattle.ropey_walk.proofs.Edges.{IsFront, place_is, taken, chars_to}

-- up to a character boundary they are those of the characters before it
pub record IsSpelledTo (text : List ℕ) (place : ℕ) : Type 0 where
  pub bytes : encode_utf8_all (take (char_of_byte text place) text) ≡ take place (encode_utf8_all text)
  pub len : length (take place (encode_utf8_all text)) ≡ place

pub spelled_to : EndsAddUp AnyTexts length char_ends → (text : List ℕ) (start : Counts) (at : ℕ) (front : List ℕ) → IsFront text start at front → IsSpelledTo text (start.bytes + at)
spelled_to law text start at front h =
    let upto = h.before ++ front in
    let place = start.bytes + at in
    let chars_are : take (char_of_byte text place) text ≡ upto = ap (λ n. take n text) (chars_to text start at front h law) ∙ taken text start at front h in
    let len : length (encode_utf8_all upto) ≡ place = sym (place_is text start at front h) in
    let all : encode_utf8_all text ≡ encode_utf8_all upto ++ encode_utf8_all h.after = ap encode_utf8_all h.parts ∙ encodes-append upto h.after in
    let bytes_are : take place (encode_utf8_all text) ≡ encode_utf8_all upto = ap (take place) all ∙ take_at (encode_utf8_all upto) (encode_utf8_all h.after) place len in
    record { bytes = ap encode_utf8_all chars_are ∙ sym bytes_are; len = ap length bytes_are ∙ len }

pub spelled_at : EndsAddUp AnyTexts length char_ends → (text : List ℕ) (place : ℕ) → all_scalars text ≡ true → IsCharBoundary (encode_utf8_all text) place → IsSpelledTo text place
spelled_at law text place scalars boundary =
    let bytes = encode_utf8_all text in
    let utf8 : IsUtf8 bytes = (text, (scalars, refl)) in
    let front = chars (take place bytes) in
    let back = chars (drop place bytes) in
    let whole : text ≡ front ++ back = sym (chars-encodes text scalars) ∙ chars_cut bytes place utf8 boundary in
    let front_is : encode_utf8_all front ≡ take place bytes = encodes-chars (take place bytes) (IsUtf8-take bytes place utf8 boundary) in
    let size = length-take-le place bytes boundary.0 in
    let len : byte_len front ≡ place = ap length front_is ∙ size in
    let count : char_of_byte text place ≡ length front = ap (char_of_byte text) (sym len) ∙ ap (λ t. char_of_byte t (byte_len front)) whole ∙ whole_chars law front back in
    let chars_are : take (char_of_byte text place) text ≡ front = ap (λ n. take n text) count ∙ ap (take (length front)) whole ∙ take_at front back (length front) refl in
    record { bytes = ap encode_utf8_all chars_are ∙ front_is; len = size }

-- and between two boundaries those of the characters between
pub spelled_between : (text : List ℕ) (from to : ℕ) → char_of_byte text from ≤ char_of_byte text to → IsSpelledTo text from → IsSpelledTo text to
    → encode_utf8_all (between (char_of_byte text from) (char_of_byte text to) text) ≡ between from to (encode_utf8_all text)
spelled_between text from to order first last =
    let a = char_of_byte text from in
    let e = char_of_byte text to in
    let front = take from (encode_utf8_all text) in
    let part = encode_utf8_all (between a e text) in
    let whole : take to (encode_utf8_all text) ≡ front ++ part =
    sym last.bytes ∙ ap encode_utf8_all (take-parts a e text order) ∙ encodes-append (take a text) (between a e text) ∙ ap (λ bs. bs ++ part) first.bytes in
    sym (ap (drop from) whole ∙ drop_at front part from first.len)
