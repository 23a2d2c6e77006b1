-- The numbers of a text's bytes, where each character counts at one byte of it, and what their sums say of the places in the text.
use Rattle.std.proofs.Common.{◌≡◌, ℕ, zero, suc, ◌+◌, ◌-◌, ◌<◌, ◌≤◌, inl, inr, List, [], ◌∷◌, ◌++◌, length, take, replicate, sum, cond, get_or, min, nat_le, refl, ap, subst, ◌∙◌, arith, length-append}
use Rattle.std.specs.Char.{len_utf8}
use Rattle.std.proofs.lemmas.Bool.{cases_lt, lt-leb, le-leb}
use Rattle.std.proofs.lemmas.List.{length-replicate, get_or_append_left, get_or-append_right, get_or-replicate}
use Rattle.std.proofs.lemmas.List.Sums.{sum_by-cons, sum_by-append}
use Rattle.std.proofs.lemmas.Str.{len_utf8_bounds}
use Rattle.str_indices.specs.Text.{ends_from, starts_from, ends_up_to}
use Rattle.str_indices.specs.Bytes.{IsFirstPast}
use Rattle.str_indices.proofs.Blocks.{first_past-enters, first_past-rest, first_past-at_first, first_past-at_last, length-first_block, length-last_block, sum-first_block, sum-last_block, sum-take-last_block, sum-take_within, sum-take_past}
use Rattle.str_indices.specs.FirstAndLastBytes.{at_first_bytes, at_last_bytes, first_block, last_block}

pub long : (c : ℕ) → 1 ≤ len_utf8 c
long c = (len_utf8_bounds c).0

sum-take-nil : (i : ℕ) → sum (take i []) ≡ 0
sum-take-nil zero = refl
sum-take-nil (suc i) = refl

-- ---- how many ends are at or before a place
pub up_to-replicate_past : (n e b : ℕ) → b < e → ends_up_to b (replicate n e) ≡ 0
up_to-replicate_past zero e b h = refl
up_to-replicate_past (suc n) e b h =
    sum_by-cons (λ e. cond (nat_le e b) 1 0) e (replicate n e)
    ∙ rw (lt-leb e b h) (omega (arith, up_to-replicate_past n e b h))

pub up_to-replicate_within : (n e b : ℕ) → e ≤ b → ends_up_to b (replicate n e) ≡ n
up_to-replicate_within zero e b h = refl
up_to-replicate_within (suc n) e b h =
    sum_by-cons (λ e. cond (nat_le e b) 1 0) e (replicate n e)
    ∙ rw (le-leb e b h) (omega (arith, up_to-replicate_within n e b h))

pub up_to-append : (b : ℕ) (xs ys : List ℕ) → ends_up_to b (xs ++ ys) ≡ ends_up_to b xs + ends_up_to b ys
up_to-append b xs ys = sum_by-append (λ e. cond (nat_le e b) 1 0) xs ys

-- no character ends where the text starts, or before
pub up_to-start : (count : ℕ → List ℕ → ℕ) (at b : ℕ) (text : List ℕ) → b ≤ at → ends_up_to b (ends_from count at text) ≡ 0
up_to-start count at b [] h = refl
up_to-start count at b (c ∷ cs) h =
    up_to-append b (replicate (count c cs) (at + len_utf8 c)) (ends_from count (at + len_utf8 c) cs)
    ∙ omega (arith, up_to-replicate_past (count c cs) (at + len_utf8 c) b (omega (arith, long c)), up_to-start count (at + len_utf8 c) b cs (omega arith))

-- ---- counts
pub length-ends_from : (count : ℕ → List ℕ → ℕ) (at : ℕ) (text : List ℕ) → length (ends_from count at text) ≡ sum (at_last_bytes count text)
length-ends_from count at [] = refl
length-ends_from count at (c ∷ cs) =
    length-append (replicate (count c cs) (at + len_utf8 c)) (ends_from count (at + len_utf8 c) cs)
    ∙ omega (
      arith,
      length-replicate {A = ℕ} (count c cs) (at + len_utf8 c),
      length-ends_from count (at + len_utf8 c) cs,
      sum_by-append (λ x. x) (last_block (len_utf8 c) (count c cs)) (at_last_bytes count cs),
      sum-last_block (len_utf8 c) (count c cs),
    )

pub sum-at_first_bytes : (count : ℕ → List ℕ → ℕ) (text : List ℕ) → sum (at_first_bytes count text) ≡ sum (at_last_bytes count text)
sum-at_first_bytes count [] = refl
sum-at_first_bytes count (c ∷ cs) =
    sum_by-append (λ x. x) (first_block (len_utf8 c) (count c cs)) (at_first_bytes count cs)
    ∙ omega (
      arith,
      sum-first_block (len_utf8 c) (count c cs),
      sum-at_first_bytes count cs,
      sum_by-append (λ x. x) (last_block (len_utf8 c) (count c cs)) (at_last_bytes count cs),
      sum-last_block (len_utf8 c) (count c cs),
    )

-- the bytes before a place count the ends up to it, where each character counts at its last byte
pub sum-take-last_bytes : (count : ℕ → List ℕ → ℕ) (at b : ℕ) (text : List ℕ) → sum (take b (at_last_bytes count text)) ≡ ends_up_to (at + b) (ends_from count at text)
sum-take-last_bytes count at b [] = sum-take-nil b
sum-take-last_bytes count at b (c ∷ cs) =
    let n = len_utf8 c in
    let w = count c cs in
    let rest = at_last_bytes count cs in
    let ends = ends_from count (at + n) cs in
    elim (cases_lt b n) [
      | inl inside ↦
          sum-take_within (last_block n w) rest b (omega (arith, length-last_block n w (long c)))
          ∙ sum-take-last_block n w b inside
          ∙ omega (arith, up_to-append (at + b) (replicate w (at + n)) ends, up_to-replicate_past w (at + n) (at + b) (omega arith), up_to-start count (at + n) (at + b) cs (omega arith))
      | inr past ↦
          let i = b - n in
          let e : b ≡ n + i = omega arith in
          ap (λ k. sum (take k (last_block n w ++ rest))) e
          ∙ sum-take_past (last_block n w) rest i n (length-last_block n w (long c))
          ∙ omega (
            arith,
            sum-last_block n w,
            sum-take-last_bytes count (at + n) i cs,
            up_to-append (at + b) (replicate w (at + n)) ends,
            up_to-replicate_within w (at + n) (at + b) (omega arith),
            ap (λ k. ends_up_to k ends) (let same : at + n + i ≡ at + b = omega arith in same),
          )
    ]

-- ---- the place of an end
-- the k-th of a list that begins with equal members
pub among-equal : (w x k d : ℕ) (rest : List ℕ) → k < w → get_or (replicate w x ++ rest) k d ≡ x
among-equal w x k d rest h =
    let inside : k < length (replicate w x) = omega (arith, length-replicate w x) in
    get_or_append_left (replicate w x) rest d k inside ∙ get_or-replicate w k x d h

pub past-equal : (w x k d : ℕ) (rest : List ℕ) → w ≤ k → get_or (replicate w x ++ rest) k d ≡ get_or rest (k - w) d
past-equal w x k d rest h = get_or-append_right (replicate w x) rest w k d (length-replicate w x) h

-- where each character counts at its first byte, the byte that is found starts the character
pub first_past-starts : (count : ℕ → List ℕ → ℕ) (at k r : ℕ) (text : List ℕ) → IsFirstPast (at_first_bytes count text) k r
    → at + r ≡ get_or (starts_from count at text) k (at + length (at_first_bytes count text))
first_past-starts count at k r [] found = ap (λ m. at + m) (let none : r ≡ 0 = omega (arith, found.within) in none)
first_past-starts count at k r (c ∷ cs) found =
    let n = len_utf8 c in
    let w = count c cs in
    let block = first_block n w in
    let rest = at_first_bytes count cs in
    let starts = starts_from count (at + n) cs in
    let last = at + length (block ++ rest) in
    elim (cases_lt k w) [
      | inl here ↦ omega (arith, first_past-at_first n w k r rest (long c) here found, among-equal w at k last starts here)
      | inr later ↦
          let sums : sum block ≤ k = omega (arith, sum-first_block n w) in
          let there : n ≤ r = omega (arith, first_past-enters block rest k r sums found, length-first_block n w (long c)) in
          let e : r ≡ n + (r - n) = omega arith in
          let moved = first_past-rest block rest k (r - n) n (length-first_block n w (long c)) sums (subst (λ m. IsFirstPast (block ++ rest) k m) e found) in
          let left = subst (λ m. IsFirstPast rest (k - m) (r - n)) (sum-first_block n w) moved in
          let same : last ≡ at + n + length rest = omega (arith, length-append block rest, length-first_block n w (long c)) in
          omega (arith, first_past-starts count (at + n) (k - w) (r - n) cs left, past-equal w at k last starts later, ap (λ m. get_or starts (k - w) m) same)
    ]

-- where each character counts at its last byte, the byte that is found is the last before the end
pub first_past-ends : (count : ℕ → List ℕ → ℕ) (at k r : ℕ) (text : List ℕ) → IsFirstPast (at_last_bytes count text) k r
    → at + min (r + 1) (length (at_last_bytes count text)) ≡ get_or (ends_from count at text) k (at + length (at_last_bytes count text))
first_past-ends count at k r [] found = omega arith
first_past-ends count at k r (c ∷ cs) found =
    let n = len_utf8 c in
    let w = count c cs in
    let block = last_block n w in
    let rest = at_last_bytes count cs in
    let ends = ends_from count (at + n) cs in
    let last = at + length (block ++ rest) in
    elim (cases_lt k w) [
      | inl here ↦ omega (arith, first_past-at_last n w k r rest (long c) here found, among-equal w (at + n) k last ends here, length-append block rest, length-last_block n w (long c))
      | inr later ↦
          let sums : sum block ≤ k = omega (arith, sum-last_block n w) in
          let there : n ≤ r = omega (arith, first_past-enters block rest k r sums found, length-last_block n w (long c)) in
          let e : r ≡ n + (r - n) = omega arith in
          let moved = first_past-rest block rest k (r - n) n (length-last_block n w (long c)) sums (subst (λ m. IsFirstPast (block ++ rest) k m) e found) in
          let left = subst (λ m. IsFirstPast rest (k - m) (r - n)) (sum-last_block n w) moved in
          let same : last ≡ at + n + length rest = omega (arith, length-append block rest, length-last_block n w (long c)) in
          omega (arith, first_past-ends count (at + n) (k - w) (r - n) cs left, past-equal w (at + n) k last ends later, ap (λ m. get_or ends (k - w) m) same, length-append block rest, length-last_block n w (long c))
    ]
