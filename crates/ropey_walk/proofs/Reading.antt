-- A byte and a character of a rope, read in a chunk.
use Rattle.std.proofs.Common.{◌≡◌, ℕ, suc, ◌+◌, ◌-◌, ◌<◌, ◌≤◌, inl, inr, List, ◌++◌, length, get_or, take, drop, refl, ap, arith, sym, ◌∙◌, subst, length-append, take-append-drop, length-take-le}
use Rattle.std.specs.Prelude.{encode_utf8_all, encode_utf8}
use Rattle.std.specs.Str.{IsUtf8, chars, IsCharBoundary}
use Rattle.std.proofs.lemmas.List.{get_or_append_left, get_or-append_right, drop_at}
use Rattle.std.proofs.Math.Seq.{drop-cons}
use Rattle.std.proofs.lemmas.Str.{encodes-chars, encodes-append, scalars-chars, length-encode, len_utf8_bounds}
use Rattle.str_indices.specs.Text.{char_ends, end_place, ends_up_to, byte_len}
use Rattle.str_indices.proofs.TextLaws.{to_byte_idx_is_a_boundary-chars, boundaries_and_indices_agree-chars, place_there_and_back-chars, ends_of_a_part-chars}
use Rattle.ropey_tree.specs.declared.counts.Counts.{Counts}
use Rattle.ropey_tree.specs.declared.counts.By.TheVariants.{Bytes, Chars}
use Rattle.ropey_tree.specs.Cutting.{IsRopeText}
use Rattle.ropey_walk.specs.Chunks.{text_of}
use Rattle.ropey_walk.specs.Standing.{StandsAt}
use Rattle.ropey_walk.proofs.Cuts.{byte_len-append}
use Rattle.ropey_walk.proofs.Placing.{is_part, none_after, whole_chars}

-- ---- a byte
pub record IsByteAt (bytes all : List ℕ) (start i : ℕ) : Type 0 where
  pub low : start ≤ i
  pub within : i - start < length bytes
  pub is : get_or bytes (i - start) 0 ≡ get_or all i 0

pub byte_read : (pieces : List (List ℕ)) (i : ℕ) (bytes : List ℕ) (start : Counts) → IsUtf8 bytes → StandsAt pieces Bytes i (chars bytes) start → IsRopeText pieces → i < byte_len (text_of pieces)
    → IsByteAt bytes (encode_utf8_all (text_of pieces)) start.bytes i
byte_read pieces i bytes start utf8 h text inside =
    let chunk = chars bytes in
    let before = text_of h.before in
    let after = text_of h.after in
    let part = is_part pieces h.before h.after chunk h.parts text in
    let starts : start.bytes ≡ byte_len before = ap (λ c. c.bytes) h.start_is in
    let len : length bytes ≡ byte_len chunk = sym (ap length (encodes-chars bytes utf8)) in
    let within : i < byte_len before + length bytes = elim h.passed [
      | inl p ↦ omega (arith, p, len, byte_len-append before chunk)
      | inr e ↦ omega (arith, inside, len, part.sums, ap byte_len (none_after h.after e))
    ] in
    let all : encode_utf8_all (text_of pieces) ≡ (encode_utf8_all before ++ bytes) ++ encode_utf8_all after =
    ap encode_utf8_all part.parts ∙ encodes-append (before ++ chunk) after ∙ ap (λ bs. bs ++ encode_utf8_all after) (encodes-append before chunk ∙ ap (λ bs. encode_utf8_all before ++ bs) (encodes-chars bytes utf8)) in
    let front : i < length (encode_utf8_all before ++ bytes) = omega (arith, within, length-append (encode_utf8_all before) bytes) in
    let low : byte_len before ≤ i = h.not_past in
    record {
      low = omega (arith, starts, low);
      within = omega (arith, starts, low, within);
      is = ap (λ n. get_or bytes (i - n) 0) starts
          ∙ sym (ap (λ bs. get_or bs i 0) all ∙ get_or_append_left (encode_utf8_all before ++ bytes) (encode_utf8_all after) 0 i front ∙ get_or-append_right (encode_utf8_all before) bytes (byte_len before) i 0 refl low);
    }

-- ---- a character
-- that many characters end where they end
pub place_of_front : (front back : List ℕ) → end_place (char_ends (front ++ back)) (length front) (byte_len (front ++ back)) ≡ byte_len front
place_of_front front back =
    let d = byte_len front in
    let long : d ≤ byte_len (front ++ back) = omega (arith, byte_len-append front back) in
    let counted : ends_up_to d (char_ends (front ++ back)) ≡ length front = whole_chars ends_of_a_part-chars front back in
    let high = (boundaries_and_indices_agree-chars front back (length front)).1 (omega (arith, counted)) in
    let low = place_there_and_back-chars (front ++ back) d in
    omega (arith, high, low, ap (λ n. end_place (char_ends (front ++ back)) n (byte_len (front ++ back))) counted)

-- the bytes from an index on start with a character
pub record IsCharAt (bytes : List ℕ) (at character : ℕ) : Type 0 where
  pub boundary : IsCharBoundary bytes at
  pub rest : List ℕ
  pub reads : drop at bytes ≡ encode_utf8 character ++ rest

pub char_read : (pieces : List (List ℕ)) (k : ℕ) (bytes : List ℕ) (start : Counts) → IsUtf8 bytes → StandsAt pieces Chars k (chars bytes) start → IsRopeText pieces → k < length (text_of pieces)
    → IsCharAt bytes (end_place (char_ends (chars bytes)) (k - start.chars) (length bytes)) (get_or (text_of pieces) k 0)
char_read pieces k bytes start utf8 h text inside =
    let chunk = chars bytes in
    let before = text_of h.before in
    let after = text_of h.after in
    let part = is_part pieces h.before h.after chunk h.parts text in
    let starts : start.chars ≡ length before = ap (λ c. c.chars) h.start_is in
    let len : length bytes ≡ byte_len chunk = sym (ap length (encodes-chars bytes utf8)) in
    let j = k - start.chars in
    let low : length before ≤ k = h.not_past in
    let sums : length (text_of pieces) ≡ length before + length chunk + length after = ap length part.parts ∙ length-append (before ++ chunk) after ∙ ap (λ n. n + length after) (length-append before chunk) in
    let within : j < length chunk = elim h.passed [
      | inl p ↦ omega (arith, p, starts, low, length-append before chunk)
      | inr e ↦ omega (arith, inside, starts, low, sums, ap length (none_after h.after e))
    ] in
    let front : k < length (before ++ chunk) = omega (arith, within, starts, low, length-append before chunk) in
    let same : get_or chunk j 0 ≡ get_or (text_of pieces) k 0 =
    ap (λ n. get_or chunk (k - n) 0) starts
    ∙ sym (ap (λ t. get_or t k 0) part.parts ∙ get_or_append_left (before ++ chunk) after 0 k front ∙ get_or-append_right before chunk (length before) k 0 refl low) in
    let first = take j chunk in
    let count : length first ≡ j = length-take-le j chunk (omega (arith, within)) in
    let at : ℕ = end_place (char_ends chunk) j (length bytes) in
    let whole : chunk ≡ first ++ drop j chunk = sym (take-append-drop j chunk) in
    let placed : at ≡ byte_len first =
    ap (λ n. end_place (char_ends chunk) j n) len
    ∙ ap (λ t. end_place (char_ends t) j (byte_len t)) whole
    ∙ ap (λ n. end_place (char_ends (first ++ drop j chunk)) n (byte_len (first ++ drop j chunk))) (sym count)
    ∙ place_of_front first (drop j chunk) in
    let spelled : bytes ≡ encode_utf8_all first ++ encode_utf8_all (drop j chunk) = sym (encodes-chars bytes utf8) ∙ ap encode_utf8_all whole ∙ encodes-append first (drop j chunk) in
    let rest : drop at bytes ≡ encode_utf8_all (drop j chunk) = ap (λ n. drop n bytes) placed ∙ ap (λ bs. drop (byte_len first) bs) spelled ∙ drop_at (encode_utf8_all first) (encode_utf8_all (drop j chunk)) (byte_len first) refl in
    let bounded = to_byte_idx_is_a_boundary-chars chunk j (scalars-chars bytes utf8) in
    record {
      boundary = subst (λ (n : ℕ). IsCharBoundary bytes (end_place (char_ends chunk) j n)) (sym len) (subst (λ (bs : List ℕ). IsCharBoundary bs (end_place (char_ends chunk) j (byte_len chunk))) (encodes-chars bytes utf8) bounded);
      rest = encode_utf8_all (drop (suc j) chunk);
      reads = rest ∙ ap encode_utf8_all (drop-cons chunk j 0 within) ∙ ap (λ c. encode_utf8 c ++ encode_utf8_all (drop (suc j) chunk)) same;
    }

-- if a character follows, so does a byte
pub no_char_left : (bytes rest : List ℕ) (character : ℕ) → bytes ≡ encode_utf8 character ++ rest → length bytes ≡ 0 → ⊥
no_char_left bytes rest character e none =
    absurd (omega (arith, none, ap length e, length-append (encode_utf8 character) rest, length-encode character, (len_utf8_bounds character).0))
