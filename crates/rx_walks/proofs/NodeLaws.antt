-- The nodes of the reverse program, by their numbers.
use Rattle.std.proofs.Common.{◌≡◌, ℕ, zero, suc, ◌+◌, ◌*◌, ◌<◌, ◌⊎◌, Bool, true, false, ◌||◌, ◌==◌, List, [], ◌∷◌, ◌++◌, length, cond, Some, slice_get, refl, ap, ◌∙◌, arith, inl, inr}
use Rattle.std.proofs.lemmas.Bool.{eqb-true, eq-eqb}
use Rattle.rx_walks.specs.Programs.{Node, match, pass}
use Rattle.rx_walks.proofs.WalkLaws.{same_some}
use Rattle.rx_walks.specs.Reversed.{indexed, those, has, edge_back, is_match, is_match_of, arrived, back_nodes}

-- items of concatenated lists
pub in_second : {X : Type 0} (xs ys : List X) (n k : ℕ) → length xs ≡ n → slice_get (xs ++ ys) (n + k) ≡ slice_get ys k
in_second [] ys n k e = ap (slice_get ys) (omega (arith, e))
in_second (x ∷ xs) ys zero k e = absurd (omega (arith, e))
in_second (x ∷ xs) ys (suc n) k e = let next : suc n + k ≡ suc (n + k) = omega arith in ap (slice_get (x ∷ (xs ++ ys))) next ∙ in_second xs ys n k (omega (arith, e))

pub in_first : {X : Type 0} (xs ys : List X) (k : ℕ) (x : X) → slice_get xs k ≡ Some x → slice_get (xs ++ ys) k ≡ Some x
in_first [] ys k x e = absurd (cc e)
in_first (x' ∷ xs) ys zero x e = e
in_first (x' ∷ xs) ys (suc k) x e = in_first xs ys k x e

pub in_either : {X : Type 0} (xs ys : List X) (k : ℕ) (x : X) → slice_get (xs ++ ys) k ≡ Some x → ((d : ℕ) × (slice_get xs d ≡ Some x)) ⊎ ((d : ℕ) × (slice_get ys d ≡ Some x))
in_either [] ys k x e = inr (k, e)
in_either (x' ∷ xs) ys zero x e = inl (0, e)
in_either (x' ∷ xs) ys (suc k) x e = elim (in_either xs ys k x e) [ inl at ↦ inl (suc at.0, at.1) | inr at ↦ inr at ]

pub get_below : {X : Type 0} (xs : List X) (k : ℕ) → k < length xs → (x : X) × (slice_get xs k ≡ Some x)
get_below [] k below = absurd (omega (arith, below))
get_below (x ∷ xs) zero below = (x, refl)
get_below (x ∷ xs) (suc k) below = get_below xs k (omega (arith, below))

pub below_get : {X : Type 0} (xs : List X) (k : ℕ) (x : X) → slice_get xs k ≡ Some x → k < length xs
below_get [] k x e = absurd (cc e)
below_get (x' ∷ xs) zero x e = omega arith
below_get (x' ∷ xs) (suc k) x e = omega (arith, below_get xs k x e)

-- f of each item
pub indexed_at : {X Y : Type 0} (f : ℕ → X → Y) (at : ℕ) (xs : List X) (k : ℕ) (x : X) → slice_get xs k ≡ Some x → slice_get (indexed f at xs) k ≡ Some (f (at + k) x)
indexed_at f at [] k x e = absurd (cc e)
indexed_at f at (x' ∷ xs) zero x e = let place : at ≡ at + 0 = omega arith in ap (λ z. Some (f z x')) place ∙ ap (λ z. Some (f (at + 0) z)) (same_some refl e)
indexed_at f at (x' ∷ xs) (suc k) x e = let place : suc at + k ≡ at + suc k = omega arith in indexed_at f (suc at) xs k x e ∙ ap (λ z. Some (f z x)) place

pub length-indexed : {X Y : Type 0} (f : ℕ → X → Y) (at : ℕ) (xs : List X) → length (indexed f at xs) ≡ length xs
length-indexed f at [] = refl
length-indexed f at (x ∷ xs) = ap suc (length-indexed f (suc at) xs)

-- the items that pass a test
pub those_in : {X : Type 0} (test : X → Bool) (at : ℕ) (xs : List X) (k : ℕ) (x : X) → slice_get xs k ≡ Some x → test x ≡ true → (d : ℕ) × (slice_get (those test at xs) d ≡ Some (at + k))
those_in test at [] k x e is = absurd (cc e)
those_in test at (x' ∷ xs) zero x e is =
    let passes : test x' ≡ true = ap test (same_some refl e) ∙ is in
    let place : at ≡ at + 0 = omega arith in
    (0, ap (λ b. slice_get (cond b (at ∷ those test (suc at) xs) (those test (suc at) xs)) 0) passes ∙ ap Some place)
those_in test at (x' ∷ xs) (suc k) x e is = by_test (those_in test (suc at) xs k x e is) (test x')
  where
    by_test : ((d : ℕ) × (slice_get (those test (suc at) xs) d ≡ Some (suc at + k))) → (b : Bool)
        → (d : ℕ) × (slice_get (cond b (at ∷ those test (suc at) xs) (those test (suc at) xs)) d ≡ Some (at + suc k))
    by_test on true = let place : suc at + k ≡ at + suc k = omega arith in (suc on.0, on.1 ∙ ap Some place)
    by_test on false = let place : suc at + k ≡ at + suc k = omega arith in (on.0, on.1 ∙ ap Some place)

pub those_are : {X : Type 0} (test : X → Bool) (at : ℕ) (xs : List X) (d y : ℕ) → slice_get (those test at xs) d ≡ Some y → (k : ℕ) × (x : X) × (slice_get xs k ≡ Some x) × (test x ≡ true) × (y ≡ at + k)
those_are test at [] d y e = absurd (cc e)
those_are {X = X} test at (x ∷ xs) d y e = by_test (λ d' e'. those_are test (suc at) xs d' y e') (test x) refl d e
  where
    further : (k : ℕ) × (x : X) × (slice_get xs k ≡ Some x) × (test x ≡ true) × (y ≡ suc at + k) → (k : ℕ) × (x' : X) × (slice_get (x ∷ xs) k ≡ Some x') × (test x' ≡ true) × (y ≡ at + k)
    further on = (suc on.0, on.1, on.2, on.3, omega (arith, on.4))

    by_test : ((d : ℕ) → slice_get (those test (suc at) xs) d ≡ Some y → (k : ℕ) × (x : X) × (slice_get xs k ≡ Some x) × (test x ≡ true) × (y ≡ suc at + k)) → (b : Bool) → test x ≡ b → (d : ℕ)
        → slice_get (cond b (at ∷ those test (suc at) xs) (those test (suc at) xs)) d ≡ Some y → (k : ℕ) × (x' : X) × (slice_get (x ∷ xs) k ≡ Some x') × (test x' ≡ true) × (y ≡ at + k)
    by_test again true is zero e = (0, x, refl, is, omega (arith, same_some refl e))
    by_test again true is (suc d) e = further (again d e)
    by_test again false is d e = further (again d e)

-- the targets of an edge
pub has_one : (rs : List ℕ) (k q : ℕ) → slice_get rs k ≡ Some q → has rs q ≡ true
has_one [] k q e = absurd (cc e)
has_one (r ∷ rs) zero q e = ap (λ b. b || has rs q) (eq-eqb r q (same_some refl e))
has_one (r ∷ rs) (suc k) q e = by_head (r == q) (has_one rs k q e)
  where
    by_head : (b : Bool) → has rs q ≡ true → (b || has rs q) ≡ true
    by_head true rest = refl
    by_head false rest = rest

pub one_of_has : (rs : List ℕ) (q : ℕ) → has rs q ≡ true → (k : ℕ) × (slice_get rs k ≡ Some q)
one_of_has [] q e = absurd (cc e)
one_of_has (r ∷ rs) q e = by_head (λ e'. one_of_has rs q e') (r == q) refl e
  where
    by_head : (has rs q ≡ true → (k : ℕ) × (slice_get rs k ≡ Some q)) → (b : Bool) → (r == q) ≡ b → (b || has rs q) ≡ true → (k : ℕ) × (slice_get (r ∷ rs) k ≡ Some q)
    by_head again true is e = (0, ap Some (eqb-true r q is))
    by_head again false is e = let on = again e in (suc on.0, on.1)

module _ {L S : Type 0} (nodes : List (Node L S)) (patterns : List ℕ) where
  abbrev rev : List (Node L S)
  rev = back_nodes nodes patterns

  pub arrival_at : (q : ℕ) (node : Node L S) → slice_get nodes q ≡ Some node → slice_get rev q ≡ Some (pass (arrived nodes patterns q))
  arrival_at q node e = in_first (indexed (λ q node. pass (arrived nodes patterns q)) 0 nodes) _ q _ (indexed_at (λ q node. pass (arrived nodes patterns q)) 0 nodes q node e ∙ ap (λ z. Some (pass (arrived nodes patterns z))) (omega arith))

  edges_from : (k : ℕ) → slice_get rev (length nodes + k) ≡ slice_get (indexed edge_back 0 nodes ++ (indexed (λ k start. match k) 0 patterns
      ++ (pass (those is_match 0 nodes) ∷ indexed (λ k start. pass (those (is_match_of k) 0 nodes)) 0 patterns))) k
  edges_from k = in_second (indexed (λ q node. pass (arrived nodes patterns q)) 0 nodes) _ (length nodes) k (length-indexed (λ q node. pass (arrived nodes patterns q)) 0 nodes)

  pub edge_at : (p : ℕ) (node : Node L S) → slice_get nodes p ≡ Some node → slice_get rev (length nodes + p) ≡ Some (edge_back p node)
  edge_at p node e = edges_from p ∙ in_first (indexed edge_back 0 nodes) _ p _ (indexed_at edge_back 0 nodes p node e ∙ ap (λ z. Some (edge_back z node)) (omega arith))

  ends_from : (k : ℕ) → slice_get rev (2 * length nodes + k) ≡ slice_get (indexed (λ k start. match k) 0 patterns
      ++ (pass (those is_match 0 nodes) ∷ indexed (λ k start. pass (those (is_match_of k) 0 nodes)) 0 patterns)) k
  ends_from k = let place : 2 * length nodes + k ≡ length nodes + (length nodes + k) = omega arith in
      ap (slice_get rev) place ∙ edges_from (length nodes + k) ∙ in_second (indexed edge_back 0 nodes) _ (length nodes) k (length-indexed edge_back 0 nodes)

  pub end_at : (k start : ℕ) → slice_get patterns k ≡ Some start → slice_get rev (2 * length nodes + k) ≡ Some (match k)
  end_at k start e = ends_from k ∙ in_first (indexed (λ k start. match k) 0 patterns) _ k _ (indexed_at (λ k start. match k) 0 patterns k start e ∙ ap (λ z. Some (match z)) (omega arith))

  starts_from : (k : ℕ) → slice_get rev (2 * length nodes + length patterns + k) ≡ slice_get (pass (those is_match 0 nodes) ∷ indexed (λ k start. pass (those (is_match_of k) 0 nodes)) 0 patterns) k
  starts_from k = let place : 2 * length nodes + length patterns + k ≡ 2 * length nodes + (length patterns + k) = omega arith in
      ap (slice_get rev) place ∙ ends_from (length patterns + k) ∙ in_second (indexed (λ k start. match k) 0 patterns) _ (length patterns) k (length-indexed (λ k start. match k) 0 patterns)

  pub start_at : slice_get rev (2 * length nodes + length patterns) ≡ Some (pass (those is_match 0 nodes))
  start_at = ap (slice_get rev) (omega arith) ∙ starts_from 0

  pub start_of_at : (k start : ℕ) → slice_get patterns k ≡ Some start → slice_get rev (2 * length nodes + length patterns + 1 + k) ≡ Some (pass (those (is_match_of k) 0 nodes))
  start_of_at k start e = let place : 2 * length nodes + length patterns + 1 + k ≡ 2 * length nodes + length patterns + suc k = omega arith in
      ap (slice_get rev) place ∙ starts_from (suc k) ∙ indexed_at (λ k start. pass (those (is_match_of k) 0 nodes)) 0 patterns k start e ∙ ap (λ z. Some (pass (those (is_match_of z) 0 nodes))) (omega arith)
