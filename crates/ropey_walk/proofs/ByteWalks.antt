-- The bytes of a text, read in a chunk.
use Rattle.std.proofs.Common.{◌≡◌, ℕ, ◌+◌, ◌-◌, ◌<◌, ◌≤◌, inl, inr, List, ◌++◌, length, get_or, refl, ap, arith, sym, ◌∙◌, length-append}
use Rattle.std.specs.Prelude.{encode_utf8_all}
use Rattle.std.specs.Str.{IsUtf8, chars}
use Rattle.std.proofs.lemmas.List.{get_or_append_left, get_or-append_right}
use Rattle.std.proofs.lemmas.Str.{encodes-chars, encodes-append}
use Rattle.str_indices.specs.Text.{byte_len}
use Rattle.ropey_tree.specs.declared.counts.Counts.{Counts}
use Rattle.ropey_tree.specs.declared.counts.By.TheVariants.{Bytes}
use Rattle.ropey_tree.specs.Cutting.{IsRopeText}
use Rattle.ropey_walk.specs.Chunks.{text_of}
use Rattle.ropey_walk.specs.Standing.{StandsAt}
use Rattle.ropey_walk.specs.TwoWay.{before_item}
use Rattle.ropey_walk.specs.Iter.{IsPartAt}
use Rattle.ropey_walk.proofs.Cuts.{byte_len-append}
use Rattle.ropey_walk.proofs.Placing.{is_part, none_after}
use Rattle.ropey_walk.proofs.TwoWay.{Crosses, crosses_at}

pub part_within : (items part : List ℕ) (start : ℕ) → IsPartAt start part items → start + length part ≤ length items
part_within items part start h = omega (arith, h.starts, ap length h.parts, length-append (h.before ++ part) h.after, length-append h.before part)

-- an item of a part is one of the whole
pub crosses_in : (items part : List ℕ) (start at n m : ℕ) → IsPartAt start part items → at < length part → n ≡ start + at → m ≡ n + 1 → Crosses (get_or part at 0) (before_item n items) (before_item m items)
crosses_in items part start at n m h within place next =
    let front : n < length (h.before ++ part) = omega (arith, place, within, h.starts, length-append h.before part) in
    let low : length h.before ≤ n = omega (arith, place, h.starts) in
    let back : n - length h.before ≡ at = omega (arith, place, h.starts) in
    let is : get_or items n 0 ≡ get_or part at 0 =
    ap (λ xs. get_or xs n 0) h.parts ∙ get_or_append_left (h.before ++ part) h.after 0 n front ∙ get_or-append_right h.before part (length h.before) n 0 refl low ∙ ap (λ k. get_or part k 0) back in
    crosses_at items n m (get_or part at 0) (omega (arith, part_within items part start h, place, within)) (sym is) next

-- the chunk at a byte
pub record HoldsByte (items chunk : List ℕ) (start i : ℕ) : Type 0 where
  pub part : IsPartAt start chunk items
  pub low : start ≤ i
  pub within : i - start ≤ length chunk
  pub inside : i < length items → i - start < length chunk

pub chunk_at_byte : (pieces : List (List ℕ)) (i : ℕ) (bytes : List ℕ) (start : Counts) → IsUtf8 bytes → StandsAt pieces Bytes i (chars bytes) start → IsRopeText pieces → i ≤ byte_len (text_of pieces)
    → HoldsByte (encode_utf8_all (text_of pieces)) bytes start.bytes i
chunk_at_byte pieces i bytes start utf8 h text most =
    let chunk = chars bytes in
    let before = text_of h.before in
    let after = text_of h.after in
    let part = is_part pieces h.before h.after chunk h.parts text in
    let starts : start.bytes ≡ byte_len before = ap (λ c. c.bytes) h.start_is in
    let len : length bytes ≡ byte_len chunk = sym (ap length (encodes-chars bytes utf8)) in
    let all : encode_utf8_all (text_of pieces) ≡ encode_utf8_all before ++ bytes ++ encode_utf8_all after =
    ap encode_utf8_all part.parts ∙ encodes-append (before ++ chunk) after ∙ ap (λ bs. bs ++ encode_utf8_all after) (encodes-append before chunk ∙ ap (λ bs. encode_utf8_all before ++ bs) (encodes-chars bytes utf8)) in
    record {
      part = record { before = encode_utf8_all before; after = encode_utf8_all after; parts = all; starts = starts };
      low = omega (arith, starts, h.not_past);
      within = elim h.passed [
        | inl p ↦ omega (arith, p, starts, len, byte_len-append before chunk)
        | inr e ↦ omega (arith, most, starts, len, part.sums, ap byte_len (none_after h.after e))
      ];
      inside = λ more. elim h.passed [
        | inl p ↦ omega (arith, p, starts, h.not_past, len, byte_len-append before chunk)
        | inr e ↦ omega (arith, more, starts, h.not_past, len, part.sums, ap byte_len (none_after h.after e))
      ];
    }
