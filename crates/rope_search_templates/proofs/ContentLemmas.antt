-- Parts of a text's bytes, and the matches in it that are left.
use Rattle.std.proofs.Common.{◌≡◌, ℕ, zero, suc, ◌+◌, ◌-◌, ◌≤◌, true, List, [], ◌∷◌, ◌++◌, length, take, drop, get_or, chars, refl, sym, ap, ◌∙◌, arith, length-append, length-take, length-drop, IsUtf8}
use Rattle.std.specs.Char.{len_utf8}
use Rattle.std.specs.Str.{IsCharBoundary, all_scalars}
use Rattle.std.proofs.Math.Utf8.{encode}
use Rattle.std.proofs.lemmas.Bool.{and_parts, and_from}
use Rattle.std.proofs.lemmas.List.{take-append-drop, drop-drop}
use Rattle.std.proofs.lemmas.Str.{IsUtf8-between, IsUtf8-take, IsCharBoundary-start, chars-append, encodes-chars, encodes-append, length-encode, len_utf8_bounds}
use Rattle.str_indices.specs.Text.{byte_len}
use Rattle.ropey.specs.Chunks.{IsCutting, text_of}
use Rattle.rope_search_changes.specs.Text.{bytes_of}
use Rattle.rope_search_changes.specs.Replacement.{Groups, whole, between, FollowEachOther, AreMatchesIn}

-- ---- bytes of joined texts

pub byte_len-append : (xs ys : List ℕ) → byte_len (xs ++ ys) ≡ byte_len xs + byte_len ys
byte_len-append xs ys = ap length (encodes-append xs ys) ∙ length-append (bytes_of xs) (bytes_of ys)

pub byte_len-one : (c : ℕ) (cs : List ℕ) → byte_len (c ∷ cs) ≡ len_utf8 c + byte_len cs
byte_len-one c cs = omega (arith, length-append (encode c) (bytes_of cs), length-encode c)

-- two prefixes of a text with equally many bytes are the same, and so is what follows
pub fronts-one : (l r f b : List ℕ) → l ++ r ≡ f ++ b → byte_len l ≡ byte_len f → (l ≡ f) × (r ≡ b)
fronts-one [] r [] b e same = (refl, e)
fronts-one [] r (d ∷ ds) b e same = absurd (omega (arith, same, byte_len-one d ds, (len_utf8_bounds d).0))
fronts-one (c ∷ cs) r [] b e same = absurd (omega (arith, same, byte_len-one c cs, (len_utf8_bounds c).0))
fronts-one (c ∷ cs) r (d ∷ ds) b e same =
    let first : c ≡ d = ap (λ t. get_or t 0 0) e in
    let rest : cs ++ r ≡ ds ++ b = ap (drop 1) e in
    let later = fronts-one cs r ds b rest (omega (arith, same, byte_len-one c cs, byte_len-one d ds, ap len_utf8 first)) in
    (ap (λ k. k ∷ cs) first ∙ ap (λ t. d ∷ t) later.0, later.1)

-- ---- scalar values

pub scalars-joined : (s t : List ℕ) → all_scalars s ≡ true → all_scalars t ≡ true → all_scalars (s ++ t) ≡ true
scalars-joined [] t one other = other
scalars-joined (c ∷ cs) t one other =
    let both = and_parts _ _ one in
    and_from _ _ both.0 (scalars-joined cs t both.1 other)

pub scalars-parts : (s t : List ℕ) → all_scalars (s ++ t) ≡ true → (all_scalars s ≡ true) × (all_scalars t ≡ true)
scalars-parts [] t all = (refl, all)
scalars-parts (c ∷ cs) t all =
    let both = and_parts _ _ all in
    let parts = scalars-parts cs t both.1 in
    (and_from _ _ both.0 parts.0, parts.1)

-- ---- parts of the bytes

module _ (content : List ℕ) (utf8 : IsUtf8 content) where
  -- the rest after an offset is a part up to another, and the rest after that
  pub split-at : (start end : ℕ) → start ≤ end → IsCharBoundary content start → IsCharBoundary content end
      → chars (drop start content) ≡ between content start end ++ chars (drop end content)
  split-at start end ordered starts ends =
      let part = take (end - start) (drop start content) in
      let rest : drop (end - start) (drop start content) ≡ drop end content = drop-drop (end - start) start content ∙ ap (λ n. drop n content) (omega (arith, ordered)) in
      ap chars (sym (take-append-drop (end - start) (drop start content)) ∙ ap (λ xs. part ++ xs) rest)
      ∙ chars-append part (drop end content) (IsUtf8-between content start end utf8 ordered starts ends)

  pub between-len : (start end : ℕ) → start ≤ end → IsCharBoundary content start → IsCharBoundary content end → byte_len (between content start end) ≡ end - start
  between-len start end ordered starts ends =
      ap length (encodes-chars (take (end - start) (drop start content)) (IsUtf8-between content start end utf8 ordered starts ends))
      ∙ omega (arith, length-take (end - start) (drop start content), length-drop start content, ends.0)

  -- the text before an offset, and the part from there to another
  pub front-further : (start end : ℕ) → start ≤ end → IsCharBoundary content start → IsCharBoundary content end
      → chars (take end content) ≡ chars (take start content) ++ between content start end
  front-further start end ordered starts ends =
      let front = take start content in
      let part = take (end - start) (drop start content) in
      let joined : take end content ≡ front ++ part = take-further content start end ordered in
      ap chars joined ∙ chars-append front part (IsUtf8-take content start utf8 starts)
    where
      take-further : (xs : List ℕ) (m n : ℕ) → m ≤ n → take n xs ≡ take m xs ++ take (n - m) (drop m xs)
      take-further xs zero n low = ap (λ k. take k xs) (omega arith)
      take-further [] (suc m) n low = nothing n ∙ sym (nothing (n - suc m))
        where
          nothing : (n : ℕ) → take {A = ℕ} n [] ≡ []
          nothing zero = refl
          nothing (suc n) = refl
      take-further (x ∷ xs) (suc m) zero low = absurd (omega (arith, low))
      take-further (x ∷ xs) (suc m) (suc n) low =
          let same : n - m ≡ suc n - suc m = omega arith in
          ap (λ l. x ∷ l) (take-further xs m n (omega (arith, low))) ∙ ap (λ k. x ∷ (take m xs ++ take k (drop m xs))) same

  pub front-and-back : (at : ℕ) → IsCharBoundary content at → chars content ≡ chars (take at content) ++ chars (drop at content)
  front-and-back at here = ap chars (sym (take-append-drop at content)) ∙ chars-append (take at content) (drop at content) (IsUtf8-take content at utf8 here)

  pub front-len : (at : ℕ) → IsCharBoundary content at → byte_len (chars (take at content)) ≡ at
  front-len at here =
      ap length (encodes-chars (take at content) (IsUtf8-take content at utf8 here)) ∙ omega (arith, length-take at content, here.0)

-- the text that pieces of a rope make together
module _ (pieces : List (List ℕ)) (cut : IsCutting pieces) where
  pub text-scalars : all_scalars (text_of pieces) ≡ true
  text-scalars = each pieces cut
    where
      each : (pieces : List (List ℕ)) → IsCutting pieces → all_scalars (text_of pieces) ≡ true
      each [] cut = refl
      each (p ∷ []) cut = scalars-joined p [] cut.scalars refl
      each (p ∷ q ∷ ps) cut = scalars-joined p (text_of (q ∷ ps)) cut.0.scalars (each (q ∷ ps) cut.2)

  pub text-utf8 : IsUtf8 (bytes_of (text_of pieces))
  text-utf8 = (text_of pieces, (text-scalars, refl))

-- ---- the matches that are left

-- they follow each other, from a character boundary on
pub record AreLeft (content : List ℕ) (at : ℕ) (matches : List Groups) : Type 0 where
  pub here : IsCharBoundary content at
  pub follow : FollowEachOther content at matches

-- all of them
pub all-left : (content : List ℕ) (matches : List Groups) → IsUtf8 content → AreMatchesIn content matches → AreLeft content 0 matches
all-left content matches utf8 are = record { here = IsCharBoundary-start content utf8; follow = are.follow }

-- so do those after the first of them
pub left-behind : (content : List ℕ) (at : ℕ) (match : Groups) (matches : List Groups) → AreLeft content at (match ∷ matches) → AreLeft content (whole match).1 matches
left-behind content at match matches left = record { here = left.follow.3; follow = left.follow.4 }
