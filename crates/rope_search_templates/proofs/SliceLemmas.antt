-- The texts of slices of a rope.
use Rattle.std.proofs.Common.{◌≡◌, ℕ, zero, suc, ◌+◌, ◌-◌, ◌≤◌, ◌==◌, true, false, List, [], ◌∷◌, ◌++◌, length, take, drop, nat_lt, refl, sym, ap, ◌∙◌, arith, length-append, IsUtf8}
use Rattle.std.specs.Str.{IsCharBoundary}
use Rattle.std.proofs.lemmas.Bool.{cond-true, cond-false}
use Rattle.std.proofs.lemmas.Bool.Decides.{nat_tests}
use Rattle.std.proofs.lemmas.List.{take_all, drop-take, nil_from_length}
use Rattle.std.proofs.lemmas.Str.{IsUtf8-between, chars_from_encodes}
use Rattle.ropey.specs.Chunks.{text_of}
use Rattle.ropey.specs.Slices.{pieces_from_char, pieces_to_char, clip}
use Rattle.rope_search_changes.specs.Text.{bytes_of}
use Rattle.rope_search_changes.specs.Replacement.{between}
use Rattle.ropey.specs.Slices as walk

-- ---- a rope as a slice of itself

to-end : (end : ℕ) (pieces : List (List ℕ)) → length (text_of pieces) ≤ end → text_of (pieces_to_char end pieces) ≡ text_of pieces
to-end end [] high = refl
to-end zero (p ∷ ps) high = sym (nil_from_length (text_of (p ∷ ps)) (omega (arith, high)))
to-end (suc n) (p ∷ ps) high =
    let some : (suc n == 0) ≡ false = grind (arith, nat_tests) in
    let both = length-append p (text_of ps) in
    ap text_of (cond-false _ _ _ some)
    ∙ ap (λ t. t ++ text_of (pieces_to_char (suc n - length p) ps)) (take_all (suc n) p (omega (arith, high, both)))
    ∙ ap (λ t. p ++ t) (to-end (suc n - length p) ps (omega (arith, high, both)))

from-start : (pieces : List (List ℕ)) → text_of (pieces_from_char 0 pieces) ≡ text_of pieces
from-start [] = refl
from-start ([] ∷ ps) = from-start ps
from-start ((c ∷ cs) ∷ ps) =
    let some : nat_lt 0 (length (c ∷ cs)) ≡ true = grind (arith, nat_tests) in
    ap text_of (cond-true _ _ _ some)

pub whole-is : (pieces : List (List ℕ)) → text_of (clip 0 (length (text_of pieces)) pieces) ≡ text_of pieces
whole-is pieces = from-start (pieces_to_char (length (text_of pieces)) pieces) ∙ to-end (length (text_of pieces)) pieces (omega arith)

-- ---- parts of it by bytes

-- from one offset up to another
pub part-is : (content part : List ℕ) (start end : ℕ) → IsUtf8 content → start ≤ end → IsCharBoundary content start → IsCharBoundary content end
    → bytes_of part ≡ walk.between start end content → part ≡ between content start end
part-is content part start end utf8 ordered starts ends is =
    let same : start + (end - start) ≡ end = omega (arith, ordered) in
    let bytes : bytes_of part ≡ take (end - start) (drop start content) =
    is ∙ ap (λ n. drop start (take n content)) (sym same) ∙ drop-take start (end - start) content in
    chars_from_encodes part (take (end - start) (drop start content)) (IsUtf8-between content start end utf8 ordered starts ends) bytes
