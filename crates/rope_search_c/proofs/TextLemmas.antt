-- A text whose bytes are written to the start of a buffer, chunk by chunk.
use Rattle.std.proofs.Common.{◌≡◌, ℕ, zero, suc, ◌+◌, ◌-◌, ◌≤◌, ◌==◌, true, false, nat_lt, List, [], ◌∷◌, ◌++◌, length, take, drop, chars, ap, sym, ◌∙◌, append_assoc, arith, refl}
use Rattle.std.proofs.lemmas.Bool.{cond-true, cond-false}
use Rattle.std.proofs.lemmas.Bool.Decides.{nat_tests}
use Rattle.std.proofs.lemmas.List.{nil_from_length, length-append, length-drop, take_all, take_at, drop_at, drop-drop}
use Rattle.std.specs.Prelude.{Option, None, Some, IsSome}
use Rattle.std.specs.Str.{IsUtf8}
use Rattle.std.proofs.lemmas.Str.{encodes-append, encodes-chars}
use Rattle.ropey.specs.Chunks.{text_of}
use Rattle.ropey.specs.Slices.{pieces_from_char, pieces_to_char, clip}
use Rattle.rope_search_reports.specs.Text.{bytes_of}

-- ---- a rope as a slice of itself

to-end : (end : ℕ) (pieces : List (List ℕ)) → length (text_of pieces) ≤ end → text_of (pieces_to_char end pieces) ≡ text_of pieces
to-end end [] high = refl
to-end zero (p ∷ ps) high = sym (nil_from_length (text_of (p ∷ ps)) (omega (arith, high)))
to-end (suc n) (p ∷ ps) high =
    let some : (suc n == 0) ≡ false = grind (arith, nat_tests) in
    let both = length-append p (text_of ps) in
    ap text_of (cond-false _ _ _ some)
    ∙ ap (λ t. t ++ text_of (pieces_to_char (suc n - length p) ps)) (take_all (suc n) p (omega (arith, high, both)))
    ∙ ap (λ t. p ++ t) (to-end (suc n - length p) ps (omega (arith, high, both)))

from-start : (pieces : List (List ℕ)) → text_of (pieces_from_char 0 pieces) ≡ text_of pieces
from-start [] = refl
from-start ([] ∷ ps) = from-start ps
from-start ((c ∷ cs) ∷ ps) =
    let some : nat_lt 0 (length (c ∷ cs)) ≡ true = grind (arith, nat_tests) in
    ap text_of (cond-true _ _ _ some)

pub whole-is : (pieces : List (List ℕ)) → text_of (clip 0 (length (text_of pieces)) pieces) ≡ text_of pieces
whole-is pieces = from-start (pieces_to_char (length (text_of pieces)) pieces) ∙ to-end (length (text_of pieces)) pieces (omega arith)

-- what is none isn't some
pub none_is_some : {X : Type 0} (o : Option X) → ((x : X) → o ≡ Some x → ⊥) → IsSome o → ⊥
none_is_some None absent some = absurd (cc some)
none_is_some (Some x) absent some = absent x refl

-- ---- a text that is written to the start of a buffer

-- this number of bytes of a text is at the start of a buffer that has room for all, and these
-- chunks of it are left
pub record HasPut (text : List ℕ) (left : List (List ℕ)) (first out : List ℕ) (at : ℕ) : Type 0 where
  pub done : List ℕ
  pub parts : bytes_of text ≡ done ++ bytes_of (text_of left)
  pub here : at ≡ length done
  pub put : out ≡ done ++ drop at first
  pub room : length (bytes_of text) ≤ length first

-- the bytes of the next chunk, and those of the others
next : (left after : List (List ℕ)) (chunk : List ℕ) → left ≡ chars chunk ∷ after → IsUtf8 chunk → bytes_of (text_of left) ≡ chunk ++ bytes_of (text_of after)
next left after chunk first utf8 =
    ap (λ ps. bytes_of (text_of ps)) first ∙ encodes-append (chars chunk) (text_of after) ∙ ap (λ bs. bs ++ bytes_of (text_of after)) (encodes-chars chunk utf8)

-- there is room for the next chunk
pub HasPut-room : (text : List ℕ) (left after : List (List ℕ)) (first out chunk : List ℕ) (at : ℕ) → HasPut text left first out at
    → left ≡ chars chunk ∷ after → IsUtf8 chunk → at + length chunk ≤ length out
HasPut-room text left after first out chunk at so is utf8 =
    let rest = bytes_of (text_of after) in
    omega (
      arith,
      so.here,
      so.room,
      ap length so.put,
      ap length so.parts,
      length-append so.done (bytes_of (text_of left)),
      ap length (next left after chunk is utf8),
      length-append chunk rest,
      length-append so.done (drop at first),
      length-drop at first,
    )

-- it is written
pub HasPut-step : (text : List ℕ) (left after : List (List ℕ)) (first out chunk bytes : List ℕ) (at k : ℕ) → HasPut text left first out at
    → left ≡ chars chunk ∷ after → IsUtf8 chunk → bytes ≡ chunk → k ≡ length chunk
    → HasPut text after first (take at out ++ (bytes ++ drop k (drop at out))) (at + length chunk)
HasPut-step text left after first out chunk bytes at k so is utf8 same len =
    let rest = bytes_of (text_of after) in let here = sym so.here in record {
      done = so.done ++ chunk;
      parts = so.parts ∙ ap (λ bs. so.done ++ bs) (next left after chunk is utf8) ∙ sym (append_assoc so.done chunk rest);
      here = omega (arith, so.here, length-append so.done chunk);
      put = ap (λ bs. take at bs ++ (bytes ++ drop k (drop at bs))) so.put
          ∙ ap (λ bs. bs ++ (bytes ++ drop k (drop at (so.done ++ drop at first)))) (take_at so.done (drop at first) at here)
          ∙ ap (λ bs. so.done ++ (bytes ++ drop k bs)) (drop_at so.done (drop at first) at here)
          ∙ ap (λ bs. so.done ++ (bs ++ drop k (drop at first))) same
          ∙ ap (λ bs. so.done ++ (chunk ++ bs)) (drop-drop k at first ∙ ap (λ n. drop (at + n) first) len)
          ∙ sym (append_assoc so.done chunk (drop (at + length chunk) first));
      room = so.room;
    }
