-- Clips of chunks: their text, and how they continue over a chunk.
use Rattle.std.proofs.Common.{◌≡◌, ℕ, zero, suc, ◌+◌, ◌-◌, ◌<◌, ◌≤◌, inl, inr, List, [], ◌∷◌, ◌++◌, length, take, drop, refl, ap, arith, sym, ◌∙◌, length-append, length-take, length-drop}
use Rattle.std.specs.Prelude.{if◌then◌else◌}
use Rattle.std.specs.List.{concat}
use Rattle.std.proofs.lemmas.List.{append-nil, take_all, drop_at, drop-drop, take-append-le, drop-append-le, take-take}
use Rattle.std.proofs.lemmas.Bool.{cases_lt, lt-ltb, le-ltb, ne_eqb}
use Rattle.ropey_walk.specs.Chunks.{text_of}
use Rattle.ropey_walk.specs.Clips.{between, pieces_from_char, pieces_to_char, clip}

-- ---- parts of joined texts
pub drop-past : (n : ℕ) (s t : List ℕ) → length s ≤ n → drop n (s ++ t) ≡ drop (n - length s) t
drop-past n s t h =
    let sum : n ≡ length s + (n - length s) = omega (arith, h) in
    ap (λ k. drop k (s ++ t)) sum ∙ sym (drop-drop (n - length s) (length s) (s ++ t)) ∙ ap (λ l. drop (n - length s) l) (drop_at s t (length s) refl)

pub take-past : (n : ℕ) (s t : List ℕ) → length s ≤ n → take n (s ++ t) ≡ s ++ take (n - length s) t
take-past n [] t h = let same : n - 0 ≡ n = omega arith in ap (λ k. take k t) (sym same)
take-past zero (c ∷ s) t h = absurd (omega (arith, h))
take-past (suc n) (c ∷ s) t h =
    let below = take-past n s t (omega (arith, h)) in
    let same : suc n - suc (length s) ≡ n - length s = omega arith in
    ap (λ l. c ∷ l) below ∙ ap (λ k. c ∷ (s ++ take k t)) (sym same)

-- ---- one chunk
pub from-here : (a : ℕ) (p : List ℕ) (ps : List (List ℕ)) → a < length p → pieces_from_char a (p ∷ ps) ≡ drop a p ∷ ps
from-here a p ps h = ap (λ b. if b then drop a p ∷ ps else pieces_from_char (a - length p) ps) (lt-ltb a (length p) h)

pub from-past : (a : ℕ) (p : List ℕ) (ps : List (List ℕ)) → length p ≤ a → pieces_from_char a (p ∷ ps) ≡ pieces_from_char (a - length p) ps
from-past a p ps h = ap (λ b. if b then drop a p ∷ ps else pieces_from_char (a - length p) ps) (le-ltb a (length p) h)

pub to-here : (e : ℕ) (p : List ℕ) (ps : List (List ℕ)) → 0 < e → pieces_to_char e (p ∷ ps) ≡ take e p ∷ pieces_to_char (e - length p) ps
to-here e p ps h = ap (λ b. if b then [] else take e p ∷ pieces_to_char (e - length p) ps) (ne_eqb e 0 (λ z. omega (arith, z, h)))

pub to-none : (ps : List (List ℕ)) → pieces_to_char 0 ps ≡ []
to-none [] = refl
to-none (p ∷ ps) = refl

-- ---- the text of a clip
pub text-from : (a : ℕ) (ps : List (List ℕ)) → concat (pieces_from_char a ps) ≡ drop a (concat ps)
text-from zero [] = refl
text-from (suc a) [] = refl
text-from a (p ∷ ps) = elim (cases_lt a (length p)) [
  | inl here ↦ ap concat (from-here a p ps here) ∙ sym (drop-append-le a p (concat ps) (omega (arith, here)))
  | inr past ↦ ap concat (from-past a p ps past) ∙ text-from (a - length p) ps ∙ sym (drop-past a p (concat ps) past)
]

pub text-to : (e : ℕ) (ps : List (List ℕ)) → concat (pieces_to_char e ps) ≡ take e (concat ps)
text-to zero [] = refl
text-to (suc e) [] = refl
text-to zero (p ∷ ps) = refl
text-to (suc e) (p ∷ ps) =
    let n = suc e in
    let below = ap concat (to-here n p ps (omega arith)) ∙ ap (λ t. take n p ++ t) (text-to (n - length p) ps) in
    elim (cases_lt n (length p)) [
      | inl here ↦
          let none : n - length p ≡ 0 = omega (arith, here) in
          below ∙ ap (λ k. take n p ++ take k (concat ps)) none ∙ append-nil (take n p) ∙ sym (take-append-le n p (concat ps) (omega (arith, here)))
      | inr past ↦ below ∙ ap (λ t. t ++ take (n - length p) (concat ps)) (take_all n p past) ∙ sym (take-past n p (concat ps) past)
    ]

pub text-clip : (a e : ℕ) (ps : List (List ℕ)) → text_of (clip a e ps) ≡ between a e (text_of ps)
text-clip a e ps = text-from a (pieces_to_char e ps) ∙ ap (drop a) (text-to e ps)

-- ---- chunks before and after an index
pub from-before : (a : ℕ) (front rest : List (List ℕ)) → a < length (concat front) → pieces_from_char a (front ++ rest) ≡ pieces_from_char a front ++ rest
from-before a [] rest h = absurd (omega (arith, h))
from-before a (p ∷ front) rest h = elim (cases_lt a (length p)) [
  | inl here ↦ from-here a p (front ++ rest) here ∙ ap (λ ps. ps ++ rest) (sym (from-here a p front here))
  | inr past ↦
      let below = from-before (a - length p) front rest (omega (arith, h, past, length-append p (concat front))) in
      from-past a p (front ++ rest) past ∙ below ∙ ap (λ ps. ps ++ rest) (sym (from-past a p front past))
]

pub from-behind : (a : ℕ) (front rest : List (List ℕ)) → length (concat front) ≤ a → pieces_from_char a (front ++ rest) ≡ pieces_from_char (a - length (concat front)) rest
from-behind a [] rest h = let same : a - 0 ≡ a = omega arith in ap (λ k. pieces_from_char k rest) (sym same)
from-behind a (p ∷ front) rest h =
    let sum = length-append p (concat front) in
    let below = from-behind (a - length p) front rest (omega (arith, h, sum)) in
    let same : a - length p - length (concat front) ≡ a - length (concat (p ∷ front)) = omega (arith, sum) in
    from-past a p (front ++ rest) (omega (arith, h, sum)) ∙ below ∙ ap (λ k. pieces_from_char k rest) same

pub to-behind : (e : ℕ) (front rest : List (List ℕ)) → length (concat front) < e → pieces_to_char e (front ++ rest) ≡ front ++ pieces_to_char (e - length (concat front)) rest
to-behind e [] rest h = let same : e - 0 ≡ e = omega arith in ap (λ k. pieces_to_char k rest) (sym same)
to-behind e (p ∷ front) rest h =
    let sum = length-append p (concat front) in
    let below = to-behind (e - length p) front rest (omega (arith, h, sum)) in
    let same : e - length p - length (concat front) ≡ e - length (concat (p ∷ front)) = omega (arith, sum) in
    to-here e p (front ++ rest) (omega (arith, h)) ∙ ap (λ q. q ∷ pieces_to_char (e - length p) (front ++ rest)) (take_all e p (omega (arith, h, sum)))
    ∙ ap (λ ps. p ∷ ps) below ∙ ap (λ k. p ∷ (front ++ pieces_to_char k rest)) same

pub from-all : (a : ℕ) (ps : List (List ℕ)) → length (concat ps) ≤ a → pieces_from_char a ps ≡ []
from-all a ps h = ap (pieces_from_char a) (sym (append-nil ps)) ∙ from-behind a ps [] h

-- the clip around a chunk that it reaches into
pub clip-around : (a e : ℕ) (left : List (List ℕ)) (leaf : List ℕ) (right : List (List ℕ)) → length (concat left) < e → a < e → a < length (concat left) + length leaf
    → clip a e (left ++ leaf ∷ right) ≡ pieces_from_char a left ++ drop (a - length (concat left)) (take (e - length (concat left)) leaf) ∷ pieces_to_char (e - length (concat left) - length leaf) right
clip-around a e left leaf right low some high =
    let n = length (concat left) in
    let part = take (e - n) leaf in
    let after = pieces_to_char (e - n - length leaf) right in
    let cut : pieces_to_char e (left ++ leaf ∷ right) ≡ left ++ part ∷ after = to-behind e left (leaf ∷ right) low ∙ ap (λ ps. left ++ ps) (to-here (e - n) leaf right (omega (arith, low))) in
    ap (pieces_from_char a) cut
    ∙ elim (cases_lt a n) [
      | inl front ↦
          let none : a - n ≡ 0 = omega (arith, front) in
          from-before a left (part ∷ after) front ∙ ap (λ k. pieces_from_char a left ++ drop k part ∷ after) (sym none)
      | inr behind ↦
          let inside : a - n < length part = omega (arith, behind, high, some, length-take (e - n) leaf) in
          from-behind a left (part ∷ after) behind ∙ from-here (a - n) part after inside ∙ ap (λ ps. ps ++ drop (a - n) part ∷ after) (sym (from-all a left behind))
    ]

-- ---- clips of clips
from-from : (k a : ℕ) (ps : List (List ℕ)) → pieces_from_char k (pieces_from_char a ps) ≡ pieces_from_char (a + k) ps
from-from k a [] = refl
from-from k a (p ∷ ps) = elim (cases_lt a (length p)) [
  | inl here ↦
      let long = length-drop a p in
      ap (pieces_from_char k) (from-here a p ps here)
      ∙ elim (cases_lt (a + k) (length p)) [
        | inl inside ↦ from-here k (drop a p) ps (omega (arith, inside, long)) ∙ ap (λ q. q ∷ ps) (drop-drop k a p) ∙ sym (from-here (a + k) p ps inside)
        | inr past ↦
            let same : k - length (drop a p) ≡ a + k - length p = omega (arith, long, here, past) in
            from-past k (drop a p) ps (omega (arith, past, long)) ∙ ap (λ n. pieces_from_char n ps) same ∙ sym (from-past (a + k) p ps past)
      ]
  | inr past ↦
      let same : a - length p + k ≡ a + k - length p = omega (arith, past) in
      ap (pieces_from_char k) (from-past a p ps past) ∙ from-from k (a - length p) ps ∙ ap (λ n. pieces_from_char n ps) same ∙ sym (from-past (a + k) p ps (omega (arith, past)))
]

to-to : (i j : ℕ) (ps : List (List ℕ)) → i ≤ j → pieces_to_char i (pieces_to_char j ps) ≡ pieces_to_char i ps
to-to i j [] h = refl
to-to zero j (p ∷ ps) h = to-none (pieces_to_char j (p ∷ ps))
to-to (suc i) j (p ∷ ps) h =
    let n = suc i in
    let some : 0 < n = omega arith in
    let rest = pieces_to_char (j - length p) ps in
    let first : take n (take j p) ≡ take n p = take-take n j p h in
    let long = length-take j p in
    ap (pieces_to_char n) (to-here j p ps (omega (arith, h)))
    ∙ to-here n (take j p) rest some
    ∙ ap (λ q. q ∷ pieces_to_char (n - length (take j p)) rest) first
    ∙ elim (cases_lt j (length p)) [
      | inl inside ↦
          let none : n - length (take j p) ≡ 0 = omega (arith, long, inside, h) in
          let none' : n - length p ≡ 0 = omega (arith, inside, h) in
          ap (λ k. take n p ∷ pieces_to_char k rest) none ∙ ap (λ ps'. take n p ∷ ps') (to-none rest ∙ sym (to-none ps)) ∙ ap (λ k. take n p ∷ pieces_to_char k ps) (sym none')
      | inr past ↦
          let same : n - length (take j p) ≡ n - length p = omega (arith, long, past) in
          ap (λ k. take n p ∷ pieces_to_char k rest) same ∙ ap (λ ps'. take n p ∷ ps') (to-to (n - length p) (j - length p) ps (omega (arith, h)))
    ]
    ∙ sym (to-here n p ps some)

no-take : (k : ℕ) → take {A = ℕ} k [] ≡ []
no-take zero = refl
no-take (suc k) = refl

pub drop-of-take : (a m : ℕ) (p : List ℕ) → drop a (take (a + m) p) ≡ take m (drop a p)
drop-of-take zero m p = let same : 0 + m ≡ m = omega arith in ap (λ k. take k p) same
drop-of-take (suc a) m [] = ap (drop (suc a)) (no-take (suc a + m)) ∙ sym (no-take m)
drop-of-take (suc a) m (c ∷ p) =
    let same : suc a + m ≡ suc (a + m) = omega arith in
    ap (λ k. drop (suc a) (take k (c ∷ p))) same ∙ drop-of-take a m p

to-from : (m a : ℕ) (ps : List (List ℕ)) → pieces_to_char m (pieces_from_char a ps) ≡ pieces_from_char a (pieces_to_char (a + m) ps)
to-from m a [] = refl
to-from m a (p ∷ ps) = elim (cases_lt a (length p)) [
  | inl here ↦ inside m refl here
  | inr past ↦ elim (cases_lt 0 (a + m)) [
    | inl some ↦
        let same : a - length p + m ≡ a + m - length p = omega (arith, past) in
        ap (pieces_to_char m) (from-past a p ps past)
        ∙ to-from m (a - length p) ps
        ∙ ap (λ n. pieces_from_char (a - length p) (pieces_to_char n ps)) same
        ∙ sym (ap (pieces_from_char a) (to-here (a + m) p ps some ∙ ap (λ q. q ∷ pieces_to_char (a + m - length p) ps) (take_all (a + m) p (omega (arith, past)))) ∙ from-past a p (pieces_to_char (a + m - length p) ps) past)
    | inr none ↦
        let no_m : m ≡ 0 = omega (arith, none) in
        let no_sum : a + m ≡ 0 = omega (arith, none) in
        ap (λ n. pieces_to_char n (pieces_from_char a (p ∷ ps))) no_m ∙ to-none (pieces_from_char a (p ∷ ps))
        ∙ sym (ap (λ n. pieces_from_char a (pieces_to_char n (p ∷ ps))) no_sum)
  ]
]
  where
    inside : (n : ℕ) → n ≡ m → a < length p → pieces_to_char m (pieces_from_char a (p ∷ ps)) ≡ pieces_from_char a (pieces_to_char (a + m) (p ∷ ps))
    inside zero e here =
        let none : pieces_to_char m (pieces_from_char a (p ∷ ps)) ≡ [] = ap (λ k. pieces_to_char k (pieces_from_char a (p ∷ ps))) (sym e) ∙ to-none (pieces_from_char a (p ∷ ps)) in
        let short : length (concat (pieces_to_char (a + m) (p ∷ ps))) ≤ a = omega (arith, e, ap length (text-to (a + m) (p ∷ ps)), length-take (a + m) (concat (p ∷ ps))) in
        none ∙ sym (from-all a (pieces_to_char (a + m) (p ∷ ps)) short)
    inside (suc n) e here =
        let long = length-drop a p in
        let rest : m - length (drop a p) ≡ a + m - length p = omega (arith, long, here) in
        let high : a < length (take (a + m) p) = omega (arith, e, here, length-take (a + m) p) in
        ap (pieces_to_char m) (from-here a p ps here)
        ∙ to-here m (drop a p) ps (omega (arith, e))
        ∙ ap (λ k. take m (drop a p) ∷ pieces_to_char k ps) rest
        ∙ ap (λ q. q ∷ pieces_to_char (a + m - length p) ps) (sym (drop-of-take a m p))
        ∙ sym (from-here a (take (a + m) p) (pieces_to_char (a + m - length p) ps) high)
        ∙ ap (pieces_from_char a) (sym (to-here (a + m) p ps (omega (arith, e))))

-- a clip of a clip is one of the whole
pub clip-clip : (k m a e : ℕ) (ps : List (List ℕ)) → a + m ≤ e → clip k m (clip a e ps) ≡ clip (a + k) (a + m) ps
clip-clip k m a e ps h =
    ap (pieces_from_char k) (to-from m a (pieces_to_char e ps)) ∙ from-from k a (pieces_to_char (a + m) (pieces_to_char e ps)) ∙ ap (pieces_from_char (a + k)) (to-to (a + m) e ps h)

-- a clip of nothing has no chunk
pub clip-nothing : (k : ℕ) (ps : List (List ℕ)) → clip k k ps ≡ []
clip-nothing k ps = from-all k (pieces_to_char k ps) (omega (arith, ap length (text-to k ps), length-take k (concat ps)))
