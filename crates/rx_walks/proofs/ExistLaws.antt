-- From each node at each offset there is a least walk or no walk, and therefore a search finds
-- something or nothing.
use Rattle.std.proofs.Common.{◌≡◌, ℕ, zero, suc, ◌+◌, ◌<◌, ◌≤◌, ◌⊎◌, Bool, true, false, List, [], ◌∷◌, ◌++◌, map, length, Option, Some, None, slice_get, Contains, refl, sym, ap, subst, ◌∙◌, arith, inl, inr}
use Rattle.std.proofs.lemmas.Bool.{cases_lt, cases_eq}
use Rattle.std.specs.Prelude.{IsTrue, slice_index}
use Rattle.std.specs.Str.{IsCharBoundary}
use Rattle.rx_walks.specs.Machines.{Move, ends, goes, reads, Machine, Outcome, IsForward}
use Rattle.rx_walks.specs.Walks.{IsNew, IsLeast, HasNoWalk}
use Rattle.rx_walks.specs.Finds.{Search, is_anchored, IsInside, IsPossible, MayEnd, Counts, IsFind, not_found, is_found}
use Rattle.rx_walks.specs.Steps.{Best, none, hit, miss}
use Rattle.rx_walks.specs.Looks.{Look}
use Rattle.rx_walks.specs.Programs.{Node, Program, Haystack, Notes, fresh_notes, put_note, is_within, only_if, by_character, over_characters}
use Rattle.rx_walks.specs.ProgramFinds.{first_by, holds_in, haystack_of, machine_of, start_node, IfStarts, ProgramFinds}
use Rattle.rx_walks.specs.Laws.{IsDecidable}
use Rattle.rx_walks.proofs.WalkLaws.{Contains-head, Contains-tail, Contains-cases, none_seen, none_when_seen, least_ended, least_took, none_took, none_went, chosen, opened_best}
use Rattle.rx_walks.proofs.PathLaws.{new_past}
use Rattle.rx_walks.proofs.FindLaws.{least_same}
use Rattle.rx_walks.proofs.InsideLaws.{within_high}
use Rattle.rx_walks.proofs.ForwardLaws.{characters_forward, number_told}

-- ---- decidable properties

abbrev pub IsKnown : Type 0 → Type 0
IsKnown A = A ⊎ (A → ⊥)

le_known : (a b : ℕ) → IsKnown (a ≤ b)
le_known a b = elim (cases_lt b a) [ inl above ↦ inr (λ e. omega (arith, above, e)) | inr within ↦ inl within ]

pub both_known : {A B : Type 0} → IsKnown A → IsKnown B → IsKnown (A × B)
both_known (inl a) (inl b) = inl (a, b)
both_known (inl a) (inr not) = inr (λ both. not both.1)
both_known (inr not) b = inr (λ both. not both.0)

if_known : {A B : Type 0} → IsKnown A → IsKnown B → IsKnown (A → B)
if_known (inl a) (inl b) = inl (λ _. b)
if_known (inl a) (inr not) = inr (λ f. not (f a))
if_known (inr not) b = inl (λ a. absurd (not a))

either_known : {A B : Type 0} → IsKnown A → IsKnown B → IsKnown (A ⊎ B)
either_known (inl a) b = inl (inl a)
either_known (inr not) (inl b) = inl (inr b)
either_known (inr not) (inr not') = inr (λ one. elim one [ inl a ↦ not a | inr b ↦ not' b ])

true_known : (b : Bool) → IsKnown (IsTrue b)
true_known true = inl refl
true_known false = inr (λ e. cc e)

boundary_known : (content : List ℕ) (i : ℕ) → IsKnown (IsCharBoundary content i)
boundary_known content i =
    both_known (le_known i (length content)) (if_known (le_known (suc i) (length content)) (if_known (le_known 128 (slice_index content i)) (le_known 192 (slice_index content i))))

inside_known : (s : Search) (i : ℕ) → IsKnown (IsInside s i)
inside_known s i = elim (both_known (le_known s.slice_start i) (both_known (le_known i s.slice_end) (both_known (le_known s.start i) (both_known (le_known i s.end) (le_known i (length s.content)))))) [
  | inl h ↦ inl (h.0, h.1.0, h.1.1.0, h.1.1.1.0, h.1.1.1.1)
  | inr not ↦ inr (λ h. not (h.0, (h.1, (h.2, (h.3, h.4)))))
]

pub possible_known : (s : Search) (i : ℕ) → IsKnown (IsPossible s i)
possible_known s i = both_known (inside_known s i) (if_known (true_known (is_anchored s.anchoring)) (cases_eq i s.start))

pub may_end_known : (s : Search) (i e : ℕ) → IsKnown (MayEnd s i e)
may_end_known s i e = either_known (if_known (cases_eq e i) (inr (λ never. never))) (if_known (true_known s.utf8_empty) (boundary_known s.content i))

-- the least number with a property, or none below n
pub least_number : (P : ℕ → Type 0) → ((i : ℕ) → IsKnown (P i)) → (n : ℕ) → ((i : ℕ) × P i × ((j : ℕ) → j < i → P j → ⊥)) ⊎ ((j : ℕ) → j < n → P j → ⊥)
least_number P known zero = inr (λ j below. absurd (omega (arith, below)))
least_number P known (suc n) = elim (least_number P known n) [
  | inl one ↦ inl one
  | inr never ↦ elim (known n) [
    | inl here ↦ inl (n, here, never)
    | inr not ↦ inr (λ j below is. elim (cases_eq j n) [ inl e ↦ not (subst P e is) | inr other ↦ never j (omega (arith, below, other)) is ])
  ]
]

-- ---- lists of nodes

pub contained : {Q : Type 0} → IsDecidable Q → (xs : List Q) (x : Q) → Contains xs x ⊎ IsNew xs x
contained told [] x = inr (none_seen x)
contained told (y ∷ xs) x = elim (told y x) [
  | inl e ↦ inl (Contains-head xs y x e)
  | inr other ↦ elim (contained told xs x) [ inl c ↦ inl (Contains-tail xs y x c) | inr new ↦ inr (new_past xs y x new other) ]
]

-- a list without one of its members
pub record Without {Q : Type 0} (xs : List Q) (x : Q) : Type 0 where
  pub rest : List Q
  pub shorter : length xs ≡ length rest + 1
  pub kept : (y : Q) → Contains xs y → (x ≡ y) ⊎ Contains rest y

pub without : {Q : Type 0} (xs : List Q) (x : Q) → Contains xs x → Without xs x
without [] x c = absurd (none_seen x c)
without (y ∷ xs) x c = elim (Contains-cases xs y x c) [
  | inl e ↦ record { rest = xs; shorter = omega arith; kept = λ z d. elim (Contains-cases xs y z d) [ inl e' ↦ inl (sym e ∙ e') | inr d' ↦ inr d' ] }
  | inr c' ↦ let less = without xs x c' in record {
    rest = y ∷ less.rest;
    shorter = omega (arith, less.shorter);
    kept = λ z d. elim (Contains-cases xs y z d) [
      | inl e ↦ inr (Contains-head less.rest y z e)
      | inr d' ↦ elim (less.kept z d') [ inl e ↦ inl e | inr d'' ↦ inr (Contains-tail less.rest y z d'') ]
    ];
  }
]

-- ---- walks of a machine

-- the outcome of the least walk, or no walk
abbrev pub LeastOrNone : {Q N : Type 0} → Machine Q N → List Q → N → Q → ℕ → Type 0
LeastOrNone {Q} {N} m seen n q i = ((t : Outcome N) × IsLeast m seen n q i t) ⊎ HasNoWalk m seen n q i

best_of : {Q N : Type 0} {m : Machine Q N} {seen : List Q} {i : ℕ} → ((n : N) (q : Q) → LeastOrNone m seen n q i) → (threads : List (N × Q)) → (out : Option (Outcome N)) × Best m seen i threads out
best_of each [] = (None, none)
best_of each ((n, q) ∷ threads) = elim (each n q) [ inl one ↦ (Some one.0, hit one.1) | inr never ↦ (let on = best_of each threads in (on.0, miss never on.1)) ]

of_one : {Q N : Type 0} {m : Machine Q N} {seen : List Q} {n : N} {q : Q} {i : ℕ} {out : Option (Outcome N)} → Best m seen i ((n, q) ∷ []) out → LeastOrNone m seen n q i
of_one (hit {t = t} one) = inl (t, one)
of_one (miss never best) = inr never

none_still : {Q N : Type 0} {m : Machine Q N} {seen : List Q} {n : N} {q : Q} {i : ℕ} → m.move i q ≡ goes [] → HasNoWalk m seen n q i
none_still nothing = none_went [] nothing (λ d s at. absurd (cc at))

module _ {Q N : Type 0} (m : Machine Q N) (told : IsDecidable Q) (forward : IsForward m) where
  -- at an offset, if it is decided for each later offset
  module _ (i : ℕ) (on : (j : ℕ) → i < j → (n : N) (q : Q) → LeastOrNone m [] n q j) where
    by_move : (seen : List Q) (n : N) (q : Q) → IsNew seen q → ((n' : N) (r : Q) → LeastOrNone m (q ∷ seen) n' r i) → (x : Move Q) → m.move i q ≡ x → LeastOrNone m seen n q i
    by_move seen n q new others (ends p) is = inl (record { pattern = p; end = i; notes = n }, least_ended new is)
    by_move seen n q new others (goes rs) is =
        let n' = m.note i q n in
        of_one (opened_best rs new is (chosen n' rs [] (best_of others (map (λ r. (n', r)) rs ++ [])).1))
    by_move seen n q new others (reads r j) is = elim (on j (forward i j q r is) n r) [ inl one ↦ inl (one.0, least_took new is one.1) | inr never ↦ inr (none_took is never) ]

    -- without the nodes seen, where `left` are the others that have a move
    past : (count : ℕ) (left seen : List Q) → length left ≡ count → ((x : Q) → IsNew seen x → (m.move i x ≡ goes []) ⊎ Contains left x) → (n : N) (q : Q) → LeastOrNone m seen n q i
    past zero left seen few covers n q = elim (contained told seen q) [
      | inl c ↦ inr (none_when_seen c)
      | inr new ↦ elim (covers q new) [ inl nothing ↦ inr (none_still nothing) | inr c ↦ absurd (omega (arith, few, c.1)) ]
    ]
    past (suc count) left seen few covers n q = elim (contained told seen q) [
      | inl c ↦ inr (none_when_seen c)
      | inr new ↦ elim (covers q new) [
        | inl nothing ↦ inr (none_still nothing)
        | inr c ↦ let less = without left q c in by_move seen n q new
            (past count less.rest (q ∷ seen) (omega (arith, few, less.shorter)) (λ x new'. elim (covers x (λ d. new' (Contains-tail seen q x d))) [
              | inl nothing ↦ inl nothing
              | inr d ↦ elim (less.kept x d) [ inl e ↦ absurd (new' (Contains-head seen q x e)) | inr d' ↦ inr d' ]
            ]))
            (m.move i q) refl
      ]
    ]

  -- up to a highest offset, and with this many nodes that have a move
  pub least_or_none : (high : ℕ) (nodes : List Q) → ((i : ℕ) (q : Q) → (m.move i q ≡ goes []) ⊎ ((i ≤ high) × Contains nodes q)) → (places i : ℕ) → high < i + places → (n : N) (q : Q) → LeastOrNone m [] n q i
  least_or_none high nodes still zero i above n q = elim (still i q) [ inl nothing ↦ inr (none_still nothing) | inr there ↦ absurd (omega (arith, above, there.0)) ]
  least_or_none high nodes still (suc places) i above n q = past i
      (λ j further. least_or_none high nodes still places j (omega (arith, above, further)))
      (length nodes) nodes [] refl (λ x new. elim (still i x) [ inl nothing ↦ inl nothing | inr there ↦ inr there.1 ]) n q

-- ---- finds

-- a start counts
abbrev StartCounts : {Q N : Type 0} → Machine Q N → (ℕ → N) → Search → Q → ℕ → Type 0
StartCounts {Q} {N} m fresh s q i = (t : Outcome N) × Counts m fresh s q i t

start_known : {Q N : Type 0} (m : Machine Q N) (fresh : ℕ → N) (s : Search) (q : Q) (i : ℕ) → LeastOrNone m [] (fresh i) q i → IsKnown (StartCounts m fresh s q i)
start_known m fresh s q i (inr never) = inr (λ one. never one.1.least.choices one.0 one.1.least.walk)
start_known m fresh s q i (inl one) = elim (both_known (possible_known s i) (may_end_known s i one.0.end)) [
  | inl both ↦ inl (one.0, record { possible = both.0; least = one.1; may_end = both.1 })
  | inr not ↦ inr (λ other. not (other.1.possible, subst (λ t. MayEnd s i t.end) (least_same other.1.least one.1) other.1.may_end))
]

pub find_exists : {Q N : Type 0} (m : Machine Q N) (fresh : ℕ → N) (s : Search) (q : Q) → ((i : ℕ) → LeastOrNone m [] (fresh i) q i) → (out : Option (Outcome N)) × IsFind m fresh s q out
find_exists m fresh s q least = elim (least_number (StartCounts m fresh s q) (λ i. start_known m fresh s q i (least i)) (suc (length s.content))) [
  | inl one ↦ (Some one.1.0, is_found one.1.1 (λ j u below counts. one.2 j below (u, counts)))
  | inr never ↦ (None, not_found (λ i t counts. never i (omega (arith, counts.possible.0.4)) (t, counts)))
]

-- the numbers below n
pub numbers_below : ℕ → List ℕ
numbers_below zero = []
numbers_below (suc n) = n ∷ numbers_below n

is_below : (n x : ℕ) → x < n → Contains (numbers_below n) x
unfolding numbers_below
is_below zero x below = absurd (omega (arith, below))
is_below (suc n) x below = elim (cases_eq n x) [ inl e ↦ Contains-head (numbers_below n) n x e | inr other ↦ Contains-tail (numbers_below n) n x (is_below n x (omega (arith, below, other))) ]

got_below : {X : Type 0} {x : X} (xs : List X) (k : ℕ) → slice_get xs k ≡ Some x → k < length xs
got_below [] k e = absurd (cc e)
got_below (y ∷ xs) zero e = omega arith
got_below (y ∷ xs) (suc k) e = omega (arith, got_below xs k e)

module _ {L S N : Type 0} (put : ℕ → ℕ → N → N) (member : S → ℕ → Bool) (nodes : List (Node L S)) (h : Haystack L) where
  pub still_or_there : (i q : ℕ) → ((over_characters put (first_by member) nodes h).move i q ≡ goes []) ⊎ ((i ≤ h.high) × Contains (numbers_below (length nodes)) q)
  still_or_there i q = by (is_within h.low h.high i) refl (slice_get nodes q) refl
    where
      by : (b : Bool) → is_within h.low h.high i ≡ b → (a_node : Option (Node L S)) → slice_get nodes q ≡ a_node
          → ((over_characters put (first_by member) nodes h).move i q ≡ goes []) ⊎ ((i ≤ h.high) × Contains (numbers_below (length nodes)) q)
      by false is a_node at = inl (ap (λ b. only_if b (by_character (first_by member) h i (slice_get nodes q))) is)
      by true is None at = inl (ap (λ b. only_if b (by_character (first_by member) h i (slice_get nodes q))) is ∙ ap (λ x. by_character (first_by member) h i x) at)
      by true is (Some node) at = inr (within_high h.low h.high i is, is_below (length nodes) q (got_below nodes q at))

  pub characters_least : (n : N) (q i : ℕ) → LeastOrNone (over_characters put (first_by member) nodes h) [] n q i
  characters_least n q i = least_or_none (over_characters put (first_by member) nodes h) number_told (characters_forward put member nodes h) h.high (numbers_below (length nodes)) still_or_there (suc h.high) i (omega arith) n q

module _ {S : Type 0} (member : S → ℕ → Bool) (is_word : ℕ → Bool) (p : Program Look S) where
  pub program_find_exists : (s : Search) → (out : Option (Outcome Notes)) × ProgramFinds member is_word p s out
  program_find_exists s = from_node (start_node p s.anchoring)
    where
      from_node : (o : Option ℕ) → (out : Option (Outcome Notes)) × IfStarts o (IsFind (machine_of member is_word p s) fresh_notes s) out
      from_node None = (None, refl)
      from_node (Some q) = find_exists (machine_of member is_word p s) fresh_notes s q (λ i. characters_least put_note member p.nodes (haystack_of (holds_in is_word p.line_terminator s) s) (fresh_notes i) q i)
