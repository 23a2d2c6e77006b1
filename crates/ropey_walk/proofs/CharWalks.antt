-- The characters of a text, read in a chunk.
use Rattle.std.proofs.Common.{◌≡◌, ℕ, ◌+◌, ◌-◌, ◌<◌, ◌≤◌, inl, inr, List, [], ◌∷◌, ◌++◌, length, take, drop, refl, ap, arith, sym, ◌∙◌, subst, append_assoc, length-append, take-append-drop, length-take-le}
use Rattle.std.specs.Prelude.{encode_utf8_all, encode_utf8}
use Rattle.std.specs.Str.{IsUtf8, chars, IsCharBoundary}
use Rattle.std.proofs.lemmas.List.{append_cancel_right, drop_at, take_at}
use Rattle.std.proofs.lemmas.Str.{encodes-chars, encodes-append, scalars-chars, chars-append, chars_past_char, chars_from_encodes, IsUtf8-take, IsUtf8-drop, IsCharBoundary-at_seam, IsCharBoundary-from_take, length-le-encodes}
use Rattle.str_indices.specs.Text.{char_ends, end_place, byte_len}
use Rattle.str_indices.proofs.TextLaws.{to_byte_idx_is_a_boundary-chars}
use Rattle.ropey_tree.specs.declared.counts.Counts.{Counts}
use Rattle.ropey_tree.specs.declared.counts.By.TheVariants.{Chars}
use Rattle.ropey_tree.specs.Cutting.{IsRopeText}
use Rattle.ropey_walk.specs.Chunks.{text_of}
use Rattle.ropey_walk.specs.Standing.{StandsAt}
use Rattle.ropey_walk.specs.TwoWay.{before_item}
use Rattle.ropey_walk.specs.Iter.{IsCharPlace}
use Rattle.ropey_walk.proofs.Placing.{is_part, none_after}
use Rattle.ropey_walk.proofs.Reading.{place_of_front}
use Rattle.ropey_walk.proofs.TwoWay.{Crosses, crosses}

-- ---- over one character of a chunk
pub chars_cut : (chunk : List ℕ) (at : ℕ) → IsUtf8 chunk → IsCharBoundary chunk at → chars chunk ≡ chars (take at chunk) ++ chars (drop at chunk)
chars_cut chunk at utf8 boundary =
    ap chars (sym (take-append-drop at chunk)) ∙ chars-append (take at chunk) (drop at chunk) (IsUtf8-take chunk at utf8 boundary)

pub record IsCharBetween (chunk : List ℕ) (at to character : ℕ) : Type 0 where
  pub ahead : chars (drop at chunk) ≡ character ∷ chars (drop to chunk)
  pub behind : chars (take to chunk) ≡ chars (take at chunk) ++ character ∷ []

pub char_between : (chunk : List ℕ) (at to character : ℕ) → IsUtf8 chunk → IsCharBoundary chunk at → IsCharBoundary chunk to → drop at chunk ≡ encode_utf8 character ++ drop to chunk
    → IsCharBetween chunk at to character
char_between chunk at to character utf8 boundary boundary_after reads =
    let ahead = chars_past_char (drop at chunk) (drop to chunk) character (IsUtf8-drop chunk at utf8 boundary) reads in
    let rest = chars (drop to chunk) in
    let whole : chars (take to chunk) ++ rest ≡ (chars (take at chunk) ++ character ∷ []) ++ rest =
    sym (chars_cut chunk to utf8 boundary_after) ∙ chars_cut chunk at utf8 boundary ∙ ap (λ cs. chars (take at chunk) ++ cs) ahead ∙ sym (append_assoc (chars (take at chunk)) (character ∷ []) rest) in
    record { ahead = ahead; behind = append_cancel_right (chars (take to chunk)) (chars (take at chunk) ++ character ∷ []) rest whole }

pub char_passed : (text chunk : List ℕ) (k at to character : ℕ) → IsCharPlace text k chunk at → IsCharBoundary chunk to → drop at chunk ≡ encode_utf8 character ++ drop to chunk → IsCharPlace text (k + 1) chunk to
char_passed text chunk k at to character h boundary reads =
    let over = char_between chunk at to character h.utf8 h.boundary boundary reads in
    let front = chars (take at chunk) in
    let rest = chars (drop to chunk) in
    let through : h.before ++ chars (take to chunk) ≡ (h.before ++ front) ++ character ∷ [] = ap (λ cs. h.before ++ cs) over.behind ∙ sym (append_assoc h.before front (character ∷ [])) in
    record {
      utf8 = h.utf8;
      boundary = boundary;
      before = h.before;
      after = h.after;
      parts = h.parts ∙ ap (λ cs. h.before ++ front ++ (cs ++ h.after)) over.ahead ∙ sym (append_assoc (h.before ++ front) (character ∷ []) (rest ++ h.after)) ∙ ap (λ cs. cs ++ (rest ++ h.after)) (sym through);
      char_is = omega (arith, h.char_is, ap length through, length-append (h.before ++ front) (character ∷ []));
    }

pub char_crossed : (text chunk : List ℕ) (k m at to character : ℕ) → IsCharPlace text k chunk at → IsCharBoundary chunk to → drop at chunk ≡ encode_utf8 character ++ drop to chunk → m ≡ k + 1
    → Crosses character (before_item k text) (before_item m text)
char_crossed text chunk k m at to character h boundary reads next =
    let over = char_between chunk at to character h.utf8 h.boundary boundary reads in
    let front = chars (take at chunk) in
    let rest = chars (drop to chunk) in
    crosses text (h.before ++ front) character (rest ++ h.after) k m (h.parts ∙ ap (λ cs. h.before ++ front ++ (cs ++ h.after)) over.ahead) h.char_is (omega (arith, next, h.char_is))

pub char_unpassed : (text chunk : List ℕ) (k at to character : ℕ) → IsCharPlace text k chunk to → IsCharBoundary chunk at → drop at chunk ≡ encode_utf8 character ++ drop to chunk → IsCharPlace text (k - 1) chunk at
char_unpassed text chunk k at to character h boundary reads =
    let over = char_between chunk at to character h.utf8 boundary h.boundary reads in
    let front = chars (take at chunk) in
    let rest = chars (drop to chunk) in
    let through : h.before ++ chars (take to chunk) ≡ (h.before ++ front) ++ character ∷ [] = ap (λ cs. h.before ++ cs) over.behind ∙ sym (append_assoc h.before front (character ∷ [])) in
    record {
      utf8 = h.utf8;
      boundary = boundary;
      before = h.before;
      after = h.after;
      parts = h.parts ∙ ap (λ cs. cs ++ (rest ++ h.after)) through ∙ append_assoc (h.before ++ front) (character ∷ []) (rest ++ h.after) ∙ ap (λ cs. h.before ++ front ++ (cs ++ h.after)) (sym over.ahead);
      char_is = omega (arith, h.char_is, ap length through, length-append (h.before ++ front) (character ∷ []));
    }

-- ---- the chunk at a character
-- the position before character k in the chunk that contains character i
pub record HoldsChar (text : List ℕ) (i k : ℕ) (chunk : List ℕ) (at : ℕ) : Type 0 where
  pub place : IsCharPlace text k chunk at
  pub ahead : i ≡ k → k < length text → at < length chunk
  pub behind : i < k → 0 < at

pub char_held : (pieces : List (List ℕ)) (i k : ℕ) (bytes : List ℕ) (start : Counts) → IsUtf8 bytes → StandsAt pieces Chars i (chars bytes) start → IsRopeText pieces → i ≤ k → k ≤ i + 1 → k ≤ length (text_of pieces)
    → HoldsChar (text_of pieces) i k bytes (end_place (char_ends (chars bytes)) (k - start.chars) (length bytes))
char_held pieces i k bytes start utf8 h text low high most =
    let chunk = chars bytes in
    let before = text_of h.before in
    let after = text_of h.after in
    let part = is_part pieces h.before h.after chunk h.parts text in
    let starts : start.chars ≡ length before = ap (λ c. c.chars) h.start_is in
    let len : length bytes ≡ byte_len chunk = sym (ap length (encodes-chars bytes utf8)) in
    let j = k - start.chars in
    let not_past : length before ≤ i = h.not_past in
    let sums : length (text_of pieces) ≡ length before + length chunk + length after = ap length part.parts ∙ length-append (before ++ chunk) after ∙ ap (λ n. n + length after) (length-append before chunk) in
    let within : j ≤ length chunk = elim h.passed [
      | inl p ↦ omega (arith, p, starts, not_past, high, length-append before chunk)
      | inr e ↦ omega (arith, most, starts, not_past, low, sums, ap length (none_after h.after e))
    ] in
    let inside : i ≡ k → k < length (text_of pieces) → j < length chunk = λ same more. elim h.passed [
      | inl p ↦ omega (arith, p, same, starts, not_past, length-append before chunk)
      | inr e ↦ omega (arith, more, starts, not_past, low, sums, ap length (none_after h.after e))
    ] in
    let first = take j chunk in
    let rest = drop j chunk in
    let count : length first ≡ j = length-take-le j chunk within in
    let at : ℕ = end_place (char_ends chunk) j (length bytes) in
    let whole : chunk ≡ first ++ rest = sym (take-append-drop j chunk) in
    let placed : at ≡ byte_len first =
    ap (λ n. end_place (char_ends chunk) j n) len
    ∙ ap (λ t. end_place (char_ends t) j (byte_len t)) whole
    ∙ ap (λ n. end_place (char_ends (first ++ rest)) n (byte_len (first ++ rest))) (sym count)
    ∙ place_of_front first rest in
    let spelled : bytes ≡ encode_utf8_all first ++ encode_utf8_all rest = sym (encodes-chars bytes utf8) ∙ ap encode_utf8_all whole ∙ encodes-append first rest in
    let bounded = to_byte_idx_is_a_boundary-chars chunk j (scalars-chars bytes utf8) in
    let boundary : IsCharBoundary bytes at = subst (λ (n : ℕ). IsCharBoundary bytes (end_place (char_ends chunk) j n)) (sym len) (subst (λ (bs : List ℕ). IsCharBoundary bs (end_place (char_ends chunk) j (byte_len chunk))) (encodes-chars bytes utf8) bounded) in
    let front_spelled : take at bytes ≡ encode_utf8_all first = ap (λ bs. take at bs) spelled ∙ take_at (encode_utf8_all first) (encode_utf8_all rest) at (sym placed) in
    let back_spelled : drop at bytes ≡ encode_utf8_all rest = ap (λ bs. drop at bs) spelled ∙ drop_at (encode_utf8_all first) (encode_utf8_all rest) at (sym placed) in
    let front : first ≡ chars (take at bytes) = chars_from_encodes first (take at bytes) (IsUtf8-take bytes at utf8 boundary) (sym front_spelled) in
    let back : rest ≡ chars (drop at bytes) = chars_from_encodes rest (drop at bytes) (IsUtf8-drop bytes at utf8 boundary) (sym back_spelled) in
    let bytes_sum : length bytes ≡ byte_len first + byte_len rest = ap length spelled ∙ length-append (encode_utf8_all first) (encode_utf8_all rest) in
    let char_sum : length chunk ≡ length first + length rest = ap length whole ∙ length-append first rest in
    record {
      place = record {
        utf8 = utf8;
        boundary = boundary;
        before = before;
        after = after;
        parts = part.parts ∙ ap (λ cs. before ++ cs ++ after) whole ∙ ap (λ cs. cs ++ after) (sym (append_assoc before first rest)) ∙ append_assoc (before ++ first) rest after
            ∙ ap (λ cs. before ++ cs ++ (rest ++ after)) front ∙ ap (λ cs. before ++ chars (take at bytes) ++ (cs ++ after)) back;
        char_is = omega (arith, starts, not_past, low, count, ap length front, length-append before (chars (take at bytes)));
      };
      ahead = λ same more. omega (arith, inside same more, placed, bytes_sum, char_sum, count, length-le-encodes rest);
      behind = λ later. omega (arith, later, starts, not_past, placed, count, length-le-encodes first);
    }

-- ---- after a character was read
pub boundary_behind : (chunk rest bytes : List ℕ) (at : ℕ) → IsUtf8 rest → drop at chunk ≡ bytes ++ rest → IsCharBoundary chunk (length chunk - length rest)
boundary_behind chunk rest bytes at utf8 reads =
    let front = take at chunk ++ bytes in
    let whole : chunk ≡ front ++ rest = sym (take-append-drop at chunk) ∙ ap (λ bs. take at chunk ++ bs) reads ∙ sym (append_assoc (take at chunk) bytes rest) in
    let len : length front ≡ length chunk - length rest = omega (arith, ap length whole, length-append front rest) in
    subst (λ (n : ℕ). IsCharBoundary chunk n) len (IsCharBoundary-at_seam chunk front rest whole utf8)

pub read_behind : (chunk rest bytes : List ℕ) (at : ℕ) → drop at chunk ≡ bytes ++ rest → drop at chunk ≡ bytes ++ drop (length chunk - length rest) chunk
read_behind chunk rest bytes at reads =
    let front = take at chunk ++ bytes in
    let whole : chunk ≡ front ++ rest = sym (take-append-drop at chunk) ∙ ap (λ bs. take at chunk ++ bs) reads ∙ sym (append_assoc (take at chunk) bytes rest) in
    let len : length chunk - length rest ≡ length front = omega (arith, ap length whole, length-append front rest) in
    reads ∙ ap (λ bs. bytes ++ bs) (sym (ap (λ n. drop n chunk) len ∙ ap (drop (length front)) whole ∙ drop_at front rest (length front) refl))

pub boundary_before : (chunk rest bytes : List ℕ) (at : ℕ) → IsUtf8 chunk → IsUtf8 rest → take at chunk ≡ rest ++ bytes → IsCharBoundary chunk (length rest)
boundary_before chunk rest bytes at utf8 front_utf8 reads =
    let back = bytes ++ drop at chunk in
    let whole : chunk ≡ rest ++ back = sym (take-append-drop at chunk) ∙ ap (λ bs. bs ++ drop at chunk) reads ∙ append_assoc rest bytes (drop at chunk) in
    let front : rest ≡ take (length rest) chunk = sym (ap (λ bs. take (length rest) bs) whole ∙ take_at rest back (length rest) refl) in
    IsCharBoundary-from_take chunk (length rest) utf8 (omega (arith, ap length whole, length-append rest back)) (subst IsUtf8 front front_utf8)
