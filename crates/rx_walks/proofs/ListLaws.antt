-- Parts of a list, from its start and from its end.
use Rattle.std.proofs.Common.{◌≡◌, ℕ, zero, suc, ◌+◌, ◌-◌, ◌<◌, ◌≤◌, List, [], ◌∷◌, ◌++◌, take, drop, length, reverse, refl, sym, ap, ◌∙◌, arith, length-append, length-take, length-drop}
use Rattle.std.proofs.lemmas.List.{take-append-drop, append_assoc, take_at, drop_at, drop-append-le, reverse-append, length-reverse}

pub split_first : (i high : ℕ) (xs ys rest : List ℕ) → 0 < length ys → drop i (take high xs) ≡ ys ++ rest → (front : List ℕ) × (after : List ℕ) × (xs ≡ front ++ (ys ++ after)) × (length front ≡ i) × (i + length ys ≤ high)
split_first zero high xs ys rest some e = (
  [],
  rest ++ drop high xs,
  sym (take-append-drop high xs) ∙ ap (λ z. z ++ drop high xs) e ∙ append_assoc ys rest (drop high xs),
  refl,
  omega (arith, ap length e, length-append ys rest, length-take high xs),
)
split_first (suc i) zero xs ys rest some e = absurd (omega (arith, some, ap length e, length-append ys rest))
split_first (suc i) (suc high) [] ys rest some e = absurd (omega (arith, some, ap length e, length-append ys rest))
split_first (suc i) (suc high) (x ∷ xs) ys rest some e =
    let on = split_first i high xs ys rest some e in
    (x ∷ on.0, on.1, ap (λ z. x ∷ z) on.2, omega (arith, on.3), omega (arith, on.4))

take_past : (ys rest : List ℕ) (high k : ℕ) → length ys + k ≡ high → take high (ys ++ rest) ≡ ys ++ take k rest
take_past [] rest high k e = ap (λ z. take z rest) (omega (arith, e))
take_past (y ∷ ys) rest zero k e = absurd (omega (arith, e))
take_past (y ∷ ys) rest (suc high) k e = ap (λ z. y ∷ z) (take_past ys rest high k (omega (arith, e)))

pub join_first : (front ys rest : List ℕ) (high k : ℕ) → length front + length ys + k ≡ high → drop (length front) (take high (front ++ (ys ++ rest))) ≡ ys ++ take k rest
join_first [] ys rest high k e = take_past ys rest high k (omega (arith, e))
join_first (x ∷ front) ys rest zero k e = absurd (omega (arith, e))
join_first (x ∷ front) ys rest (suc high) k e = join_first front ys rest high k (omega (arith, e))

pub split_last : (low j : ℕ) (xs ys front : List ℕ) → 0 < length ys → j ≤ length xs → drop low (take j xs) ≡ front ++ ys
    → (all : List ℕ) × (xs ≡ all ++ (ys ++ drop j xs)) × (length all + length ys ≡ j) × (low ≤ length all)
split_last low j xs ys front some within e =
    let before = take low (take j xs) in
    let whole : take j xs ≡ (before ++ front) ++ ys = sym (take-append-drop low (take j xs)) ∙ ap (λ z. before ++ z) e ∙ sym (append_assoc before front ys) in
    let lengths : length front + length ys ≡ j - low = omega (arith, within, ap length e, length-append front ys, length-drop low (take j xs), length-take j xs) in
    let all = length-append before front in (
      before ++ front,
      sym (take-append-drop j xs) ∙ ap (λ z. z ++ drop j xs) whole ∙ append_assoc (before ++ front) ys (drop j xs),
      omega (arith, some, within, lengths, all, length-take low (take j xs), length-take j xs),
      omega (arith, some, within, lengths, all, length-take low (take j xs), length-take j xs),
    )

pub join_last : (low : ℕ) (front ys rest : List ℕ) → low ≤ length front → drop low (take (length front + length ys) (front ++ (ys ++ rest))) ≡ drop low front ++ ys
join_last low front ys rest below =
    ap (λ z. drop low (take (length front + length ys) z)) (sym (append_assoc front ys rest))
    ∙ ap (λ z. drop low z) (take_at (front ++ ys) rest (length front + length ys) (length-append front ys))
    ∙ drop-append-le low front ys below

-- the same part of the reversed list
pub back_part : (low j n : ℕ) (xs : List ℕ) → length xs ≡ n → low ≤ j → j ≤ n → drop (n - j) (take (n - low) (reverse xs)) ≡ reverse (drop low (take j xs))
back_part low j n xs is below within =
    let a = take low (take j xs) in
    let b = drop low (take j xs) in
    let c = drop j xs in
    let turned : reverse xs ≡ (reverse c ++ reverse b) ++ reverse a =
    ap reverse (sym (take-append-drop j xs)) ∙ reverse-append (take j xs) c
    ∙ ap (λ z. reverse c ++ z) (ap reverse (sym (take-append-drop low (take j xs))) ∙ reverse-append a b)
    ∙ sym (append_assoc (reverse c) (reverse b) (reverse a)) in
    let of_c : length (reverse c) ≡ n - j = omega (arith, is, length-reverse c, length-drop j xs) in
    let of_b : length (reverse c ++ reverse b) ≡ n - low =
    omega (arith, is, below, within, of_c, length-append (reverse c) (reverse b), length-reverse b, length-drop low (take j xs), length-take j xs) in
    ap (λ z. drop (n - j) (take (n - low) z)) turned
    ∙ ap (λ z. drop (n - j) z) (take_at (reverse c ++ reverse b) (reverse a) (n - low) of_b)
    ∙ drop_at (reverse c) (reverse b) (n - j) of_c
