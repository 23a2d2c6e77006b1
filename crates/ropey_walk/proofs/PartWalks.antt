-- The bytes that are left of a part of a text and of the chunks ahead.
use Rattle.std.proofs.Common.{◌≡◌, ℕ, suc, ◌+◌, ◌-◌, ◌<◌, ◌≤◌, List, [], ◌∷◌, ◌++◌, ◌⊎◌, inl, inr, ◌==◌, length, take, drop, refl, sym, ap, ◌∙◌, subst, arith, append_assoc, length-append, length-drop, length-take-le, take-append-drop, min, Bool, true, false, true≢false, not}
use Rattle.std.proofs.lemmas.Bool.{eqb-true}
use Rattle.std.proofs.lemmas.Bool.Decides.{nat_tests, eqb_tells}
use Rattle.std.specs.Prelude.{encode_utf8_all}
use Rattle.std.specs.Str.{chars, IsUtf8}
use Rattle.std.specs.Cmp.Lexicographic.{slice_cmp}
use Rattle.std.proofs.Common.{Ordering, Less, Equal, Greater}
use Rattle.std.specs.Ordering.{nat_cmp, ordering_then, is_ne}
use Rattle.std.proofs.lemmas.List.{drop_at, drop-append-le, drop-drop, take_at, take_all, append-nil, append_cancel_left}
use Rattle.std.proofs.lemmas.Str.{encodes-chars, chars_from_encodes}
use Rattle.str_indices.specs.Text.{byte_len}
use Rattle.ropey_walk.specs.Chunks.{text_of, IsRopeText}
use Rattle.ropey_walk.proofs.Cuts.{first_piece}
use Rattle.ropey_walk.proofs.ChunkWalks.{written}

-- the bytes of a chunk and of those after it
pub next_bytes : (chunk : List ℕ) (ahead after : List (List ℕ)) → ahead ≡ chars chunk ∷ after → IsUtf8 chunk → chunk ++ encode_utf8_all (text_of after) ≡ encode_utf8_all (text_of ahead)
next_bytes chunk ahead after e utf8 = written [] chunk ahead after (encode_utf8_all (text_of ahead)) refl e utf8

-- after a whole part come the chunks ahead
pub behind_part : (part chunk : List ℕ) (len : ℕ) (ahead after : List (List ℕ)) → len ≤ length part → length part ≤ len → ahead ≡ chars chunk ∷ after → IsUtf8 chunk
    → chunk ++ encode_utf8_all (text_of after) ≡ drop len (part ++ encode_utf8_all (text_of ahead))
behind_part part chunk len ahead after within whole e utf8 =
    next_bytes chunk ahead after e utf8 ∙ sym (drop_at part (encode_utf8_all (text_of ahead)) len (omega (arith, within, whole)))

-- no chunk is empty
pub no_empty_chunk : {G : Type 0} (chunk : List ℕ) (ahead after : List (List ℕ)) → IsRopeText ahead → ahead ≡ chars chunk ∷ after → chunk ≡ [] → G
unfolding chars
no_empty_chunk chunk ahead after text e empty =
    let piece = first_piece (chars chunk) after (subst IsRopeText e text).cut in
    let some : 1 ≤ 0 = subst (λ cs. 1 ≤ byte_len (chars cs)) empty piece.not_empty in
    absurd (omega (arith, some))

then_assoc : (o p q : Ordering) → ordering_then o (ordering_then p q) ≡ ordering_then (ordering_then o p) q
then_assoc Less p q = refl
then_assoc Equal p q = refl
then_assoc Greater p q = refl

-- the order of lists by starts of the same length, and then by the rests
pub by_fronts : (xs ys us vs : List ℕ) → length xs ≡ length ys → slice_cmp nat_cmp (xs ++ us) (ys ++ vs) ≡ ordering_then (slice_cmp nat_cmp xs ys) (slice_cmp nat_cmp us vs)
by_fronts [] [] us vs e = refl
by_fronts [] (y ∷ ys) us vs e = absurd (omega (arith, e))
by_fronts (x ∷ xs) [] us vs e = absurd (omega (arith, e))
by_fronts (x ∷ xs) (y ∷ ys) us vs e =
    ap (ordering_then (nat_cmp x y)) (by_fronts xs ys us vs (omega (arith, e))) ∙ then_assoc (nat_cmp x y) (slice_cmp nat_cmp xs ys) (slice_cmp nat_cmp us vs)

decides : (o p : Ordering) → (o ≡ Equal → ⊥) → ordering_then o p ≡ o
decides Less p differs = refl
decides Equal p differs = absurd (differs refl)
decides Greater p differs = refl

-- ---- the order of two texts by their next parts
-- the bytes after an index in a part, which is the start of what is left
pub fronts_left : (part : List ℕ) (len : ℕ) (rest left : List ℕ) → len ≤ length part → left ≡ drop len (part ++ rest) → part ++ rest ≡ take len part ++ left
fronts_left part len rest left within e =
    sym (ap (λ xs. xs ++ rest) (take-append-drop len part)) ∙ append_assoc (take len part) (drop len part) rest
    ∙ ap (λ xs. take len part ++ xs) (sym (drop-append-le len part rest within) ∙ sym e)

module _ (part part' : List ℕ) (len : ℕ) (rest rest' : List ℕ) (within : len ≤ length part) (within' : len ≤ length part') where
  as_long : length (take len part) ≡ length (take len part')
  as_long = length-take-le len part within ∙ sym (length-take-le len part' within')

  -- after equal parts the order is that of the rests
  pub same_parts : (left left' : List ℕ) → left ≡ drop len (part ++ rest) → left' ≡ drop len (part' ++ rest') → slice_cmp nat_cmp (take len part) (take len part') ≡ Equal
      → slice_cmp nat_cmp (part ++ rest) (part' ++ rest') ≡ slice_cmp nat_cmp left left'
  same_parts left left' e e' same =
      (λ i. slice_cmp nat_cmp (fronts_left part len rest left within e i) (fronts_left part' len rest' left' within' e' i))
      ∙ by_fronts (take len part) (take len part') left left' as_long
      ∙ ap (λ o. ordering_then o (slice_cmp nat_cmp left left')) same

  -- parts that differ decide it
  pub unequal_parts : (o : Ordering) → slice_cmp nat_cmp (take len part) (take len part') ≡ o → (o ≡ Equal → ⊥) → slice_cmp nat_cmp (part ++ rest) (part' ++ rest') ≡ o
  unequal_parts o is differs =
      let left = drop len (part ++ rest) in
      let left' = drop len (part' ++ rest') in
      (λ i. slice_cmp nat_cmp (fronts_left part len rest left within refl i) (fronts_left part' len rest' left' within' refl i))
      ∙ by_fronts (take len part) (take len part') left left' as_long
      ∙ ap (λ p. ordering_then p (slice_cmp nat_cmp left left')) is
      ∙ decides o (slice_cmp nat_cmp left left') differs

less_than_some : (n : ℕ) → Less ≡ nat_cmp 0 (suc n)
less_than_some n = grind (arith, nat_tests)

more_than_none : (n : ℕ) → Greater ≡ nat_cmp (suc n) 0
more_than_none n = grind (arith, nat_tests)

-- one has nothing left
pub ended : (part part' : List ℕ) (ahead ahead' : List (List ℕ)) → (part ≡ []) ⊎ (part' ≡ []) → (part ≡ [] → ahead ≡ []) → (part' ≡ [] → ahead' ≡ [])
    → slice_cmp nat_cmp (part ++ encode_utf8_all (text_of ahead)) (part' ++ encode_utf8_all (text_of ahead')) ≡ nat_cmp (length part) (length part')
ended [] [] ahead ahead' one some some' = λ i. slice_cmp nat_cmp (encode_utf8_all (text_of (some refl i))) (encode_utf8_all (text_of (some' refl i)))
ended [] (y ∷ ys) ahead ahead' one some some' = ap (λ ps. slice_cmp nat_cmp (encode_utf8_all (text_of ps)) (y ∷ ys ++ encode_utf8_all (text_of ahead'))) (some refl) ∙ less_than_some (length ys)
ended (x ∷ xs) [] ahead ahead' one some some' = ap (λ ps. slice_cmp nat_cmp (x ∷ xs ++ encode_utf8_all (text_of ahead)) (encode_utf8_all (text_of ps))) (some' refl) ∙ more_than_none (length xs)
ended (x ∷ xs) (y ∷ ys) ahead ahead' (inl e) some some' = absurd (omega (arith, ap length e))
ended (x ∷ xs) (y ∷ ys) ahead ahead' (inr e) some some' = absurd (omega (arith, ap length e))

-- ---- a text and bytes
-- a text is that of bytes if it has those bytes
pub same_text : (text bytes : List ℕ) → IsUtf8 bytes → encode_utf8_all text ≡ bytes → text ≡ chars bytes
same_text text bytes utf8 e = chars_from_encodes text bytes utf8 e

pub same_bytes : (text bytes : List ℕ) → IsUtf8 bytes → text ≡ chars bytes → encode_utf8_all text ≡ bytes
same_bytes text bytes utf8 e = ap encode_utf8_all e ∙ encodes-chars bytes utf8

pub no_items : (xs : List ℕ) → length xs ≤ 0 → xs ≡ []
no_items [] h = refl
no_items (x ∷ xs) h = absurd (omega (arith, h))

-- the next chunk fits into what is left of bytes that are as many as the text's
pub as_long_left : (done rest text chunk : List ℕ) (ahead after : List (List ℕ)) (bytes : List ℕ) → done ++ rest ≡ text → done ++ encode_utf8_all (text_of ahead) ≡ bytes → ahead ≡ chars chunk ∷ after → IsUtf8 chunk
    → length bytes ≡ length text → length chunk ≤ length rest
as_long_left done rest text chunk ahead after bytes e f next utf8 len =
    let all = encode_utf8_all (text_of ahead) in
    let tail = encode_utf8_all (text_of after) in
    let a = ap length e in
    let b = ap length f in
    let n = ap length (next_bytes chunk ahead after next utf8) in
    omega (arith, a, b, n, len, length-append done rest, length-append done all, length-append chunk tail)

-- texts that start equally, and then with different parts of the same length, differ
pub other_front : (done front behind text chunk : List ℕ) (ahead after : List (List ℕ)) (bytes : List ℕ) → done ++ (front ++ behind) ≡ text → done ++ encode_utf8_all (text_of ahead) ≡ bytes → ahead ≡ chars chunk ∷ after → IsUtf8 chunk
    → length front ≡ length chunk → bytes ≡ text → front ≡ chunk
other_front done front behind text chunk ahead after bytes e f next utf8 len same =
    let tail = encode_utf8_all (text_of after) in
    let rests : encode_utf8_all (text_of ahead) ≡ front ++ behind = append_cancel_left done (encode_utf8_all (text_of ahead)) (front ++ behind) (f ∙ same ∙ sym e) in
    let fronts : chunk ++ tail ≡ front ++ behind = next_bytes chunk ahead after next utf8 ∙ rests in
    sym (take_at front behind (length chunk) len) ∙ ap (take (length chunk)) (sym fronts) ∙ take_at chunk tail (length chunk) refl

-- texts of the same length that were compared to their ends are equal
pub all_the_same : (done rest text : List ℕ) (ahead : List (List ℕ)) (bytes : List ℕ) → done ++ rest ≡ text → done ++ encode_utf8_all (text_of ahead) ≡ bytes → ahead ≡ [] → length bytes ≡ length text → bytes ≡ text
all_the_same done rest text ahead bytes e f none len =
    let whole : done ≡ bytes = sym (append-nil done) ∙ ap (λ ps. done ++ encode_utf8_all (text_of ps)) (sym none) ∙ f in
    let empty : rest ≡ [] = no_items rest (omega (arith, ap length e, ap length whole, len, length-append done rest)) in
    sym whole ∙ sym (append-nil done) ∙ ap (λ r. done ++ r) (sym empty) ∙ e

-- ---- results of tests
pub not_no : (b : Bool) → false ≡ not b → b ≡ true
not_no true h = refl
not_no false h = absurd (true≢false (sym h))

pub equal_is : (o : Ordering) → is_ne o ≡ false → o ≡ Equal
equal_is Less h = absurd (true≢false h)
equal_is Equal h = refl
equal_is Greater h = absurd (true≢false h)

pub unequal_is : (o : Ordering) → is_ne o ≡ true → o ≡ Equal → ⊥
unequal_is o h e = true≢false (sym h ∙ ap is_ne e)

le_or_less : (n m : ℕ) → (n ≤ m) ⊎ (m < n)
le_or_less n m = elim (eqb_tells (n - m) 0) [ inl h ↦ inl (omega (arith, h.1)) | inr h ↦ inr (omega (arith, h.1)) ]

-- ---- blocks
-- bytes from an index on, up to 256, are a block, and the rest is what follows
pub record IsBlock (bytes block rest : List ℕ) (at next : ℕ) : Type 0 where
  pub block_is : block ≡ take 256 (drop at bytes)
  pub rest_is : rest ≡ drop next bytes

pub is_block : (bytes block rest : List ℕ) (at next : ℕ) → drop at bytes ≡ block ++ rest → length block ≡ min 256 (length bytes - at) → next ≡ at + 256 → IsBlock bytes block rest at next
is_block bytes block rest at next e len then =
    let parts : length bytes - at ≡ length block + length rest = sym (length-drop at bytes) ∙ ap length e ∙ length-append block rest in
    let behind : drop 256 (block ++ rest) ≡ drop next bytes = ap (drop 256) (sym e) ∙ drop-drop 256 at bytes ∙ ap (λ n. drop n bytes) (sym then) in
    let whole : 256 ≤ length bytes - at → IsBlock bytes block rest at next =
    λ h.
    let full : length block ≡ 256 = omega (arith, len, h) in
    record { block_is = sym (take_at block rest 256 full) ∙ ap (take 256) (sym e); rest_is = sym (drop_at block rest 256 full) ∙ behind } in
    let last : length bytes - at < 256 → IsBlock bytes block rest at next =
    λ h.
    let none : rest ≡ [] = no_items rest (omega (arith, len, h, parts)) in
    let all : block ++ rest ≡ block = ap (λ r. block ++ r) none ∙ append-nil block in
    let short : length block ≤ 256 = omega (arith, len, h) in
    record {
      block_is = sym (take_all 256 block short) ∙ ap (take 256) (sym all ∙ sym e);
      rest_is = none ∙ sym (no_items (drop next bytes) (omega (arith, len, h, then, length-drop next bytes)));
    } in
    elim (le_or_less 256 (length bytes - at)) [ inl h ↦ whole h | inr h ↦ last h ]

pub none_in : (xs : List ℕ) → true ≡ (length xs == 0) → xs ≡ []
none_in xs h = no_items xs (omega (arith, eqb-true (length xs) 0 (sym h)))
