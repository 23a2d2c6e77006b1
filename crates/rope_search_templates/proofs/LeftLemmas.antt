-- The rest of a text, chunk by chunk.
use Rattle.std.proofs.Common.{◌≡◌, ℕ, ◌+◌, ◌-◌, ◌<◌, ◌≤◌, true, List, [], ◌∷◌, ◌++◌, length, take, drop, get_or, chars, refl, sym, ap, subst, ◌∙◌, arith, append_assoc, length-append, length-take, IsUtf8}
use Rattle.std.specs.Str.{IsCharBoundary, all_scalars}
use Rattle.std.proofs.Math.ListN.{get_or-append}
use Rattle.std.proofs.lemmas.List.{get_or-append-add, take-append-drop}
use Rattle.std.proofs.lemmas.Str.{IsUtf8-append, encodes-append, encodes-chars, IsUtf8-nil}
use Rattle.ropey.specs.Chunks.{text_of}
use Rattle.rope_search_changes.specs.Text.{bytes_of}
use Rattle.rope_search_templates.proofs.ContentLemmas.{scalars-parts}

-- ---- the next chunk

pub shown-next : (ahead behind : List (List ℕ)) (chunk : List ℕ) → IsUtf8 chunk → ahead ≡ chars chunk ∷ behind
    → bytes_of (text_of ahead) ≡ chunk ++ bytes_of (text_of behind)
shown-next ahead behind chunk utf8 is =
    ap (λ ps. bytes_of (text_of ps)) is ∙ encodes-append (chars chunk) (text_of behind)
    ∙ ap (λ bs. bs ++ bytes_of (text_of behind)) (encodes-chars chunk utf8)

pub scalars-next : (ahead behind : List (List ℕ)) (chunk : List ℕ) → ahead ≡ chars chunk ∷ behind → all_scalars (text_of ahead) ≡ true
    → all_scalars (text_of behind) ≡ true
scalars-next ahead behind chunk is scalars =
    (scalars-parts (chars chunk) (text_of behind) (sym (ap (λ ps. all_scalars (text_of ps)) is) ∙ scalars)).1

-- ---- boundaries

pub boundary-front : (rest more : List ℕ) (n : ℕ) → IsCharBoundary (rest ++ more) n → n ≤ length rest → IsCharBoundary rest n
boundary-front rest more n here low = (
  low,
  λ inside high. let is = get_or-append rest more 0 n inside in
      let more_inside : n < length (rest ++ more) = omega (arith, inside, length-append rest more) in
      let found = here.1 more_inside (omega (arith, is, high)) in omega (arith, is, found),
)

pub boundary-behind : (part rest : List ℕ) (n : ℕ) → IsCharBoundary (part ++ rest) n → length part ≤ n → IsCharBoundary rest (n - length part)
boundary-behind part rest n here low =
    let k = n - length part in
    let n_is : length part + k ≡ n = omega (arith, low) in
    let is : get_or (part ++ rest) n 0 ≡ get_or rest k 0 = ap (λ i. get_or (part ++ rest) i 0) (sym n_is) ∙ get_or-append-add part rest k 0 in
    let len = length-append part rest in
    (omega (arith, here.0, len), λ inside high. let found = here.1 (omega (arith, inside, len, n_is)) (omega (arith, is, high)) in omega (arith, is, found))

-- of an offset after another one, in the rest after that
pub boundary-left : (content : List ℕ) (start end : ℕ) → start ≤ end → IsCharBoundary content start → IsCharBoundary content end → IsCharBoundary (drop start content) (end - start)
boundary-left content start end ordered starts ends =
    let len : length (take start content) ≡ start = omega (arith, length-take start content, starts.0) in
    subst (λ n. IsCharBoundary (drop start content) (end - n)) len
    (boundary-behind (take start content) (drop start content) end (subst (λ bs. IsCharBoundary bs end) (sym (take-append-drop start content)) ends) (omega (arith, len, ordered)))

-- ---- what was taken

-- this number of bytes was taken of a text, and this number is still to come
pub record IsTaken (all now taken : List ℕ) (len left : ℕ) : Type 0 where
  pub parts : all ≡ taken ++ now
  pub utf8 : IsUtf8 taken
  pub count : length taken + left ≡ len
  pub here : IsCharBoundary now left

pub taken-none : (all : List ℕ) (len : ℕ) → IsCharBoundary all len → IsTaken all all [] len len
taken-none all len here = record { parts = refl; utf8 = IsUtf8-nil; count = omega arith; here = here }

pub taken-more : (all now taken part now' : List ℕ) (len left : ℕ) → IsTaken all now taken len left → now ≡ part ++ now' → IsUtf8 part → length part ≤ left
    → IsTaken all now' (taken ++ part) len (left - length part)
taken-more all now taken part now' len left is parts utf8 low = record {
  parts = is.parts ∙ ap (λ bs. taken ++ bs) parts ∙ sym (append_assoc taken part now');
  utf8 = IsUtf8-append taken part is.utf8 utf8;
  count = omega (arith, is.count, length-append taken part, low);
  here = boundary-behind part now' left (subst (λ bs. IsCharBoundary bs left) parts is.here) low;
}
