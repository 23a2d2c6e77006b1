-- Equal states, how they are found, and their size.
use Rattle.std.proofs.Common.{inl, inr, ◌≡◌, ℕ, zero, suc, ◌+◌, ◌<◌, ◌≤◌, ◌==◌, Bool, true, false, cond, List, [], ◌∷◌, ◌++◌, length, min, sum_by, take, Option, Some, None, slice_get, IsSome, IsSomeAnd, Result, Ok, Err, OnOk, is_err, refl, sym, ap, subst, ◌∙◌, arith, eq-eqb}
use Rattle.std.proofs.Math.Nat.{min-eq_left, min-eq_right}
use Rattle.std.proofs.lemmas.List.Sums.{sum_by_push}
use Rattle.std.specs.HashMap.{HashMap, Updates, get}
use Rattle.rx_steps.specs.Threads.{Thread}
use Rattle.rx_dfa.specs.declared.states.AutomatonState.{AutomatonState}
use Rattle.rx_dfa.specs.Hashes.{hash_of, mixed, side_number, starting_hash, with_end, with_nodes}
use Rattle.rx_dfa.specs.Caches.{AreNumbered, IsNewState, IsSameState, StandApart, counted, size_of, size_of_all}
use Rattle.rx_dfa.proofs.ClassLaws.{below_or_not}

-- ---- equal states

pub same_turned : (x y : AutomatonState) → IsSameState x y → IsSameState y x
same_turned x y same = record { threads = sym same.threads; starting = sym same.starting; behind = sym same.behind; ended = sym same.ended }

pub get_front : {A : Type 0} (xs ys : List A) (k : ℕ) → k < length xs → slice_get (xs ++ ys) k ≡ slice_get xs k
get_front [] ys k lt = absurd (omega (arith, lt))
get_front (y ∷ xs) ys zero lt = refl
get_front (y ∷ xs) ys (suc k) lt = get_front xs ys k (omega (arith, lt))

get_end : {A : Type 0} (xs : List A) (z x : A) (k : ℕ) → length xs ≤ k → slice_get (xs ++ z ∷ []) k ≡ Some x → (k ≡ length xs) × (z ≡ x)
get_end [] z x zero le e = let same : Some z ≡ Some x = e in (refl, cc same)
get_end [] z x (suc k) le e = absurd (cc e)
get_end (y ∷ xs) z x zero le e = absurd (omega (arith, le))
get_end (y ∷ xs) z x (suc k) le e = let on = get_end xs z x k (omega (arith, le)) e in (ap suc on.0, on.1)

-- with a new state, no two are equal either
pub apart_more : (states : List AutomatonState) (z : AutomatonState) → StandApart states → IsNewState states z → StandApart (states ++ z ∷ [])
apart_more states z apart new m n x y at_m at_n same = elim (below_or_not m (length states)) [
  | inl m_lt ↦
      let x_stands : slice_get states m ≡ Some x = sym (get_front states (z ∷ []) m m_lt) ∙ at_m in
      elim (below_or_not n (length states)) [
        | inl n_lt ↦ apart m n x y x_stands (sym (get_front states (z ∷ []) n n_lt) ∙ at_n) same
        | inr n_ge ↦
            let last = get_end states z y n n_ge at_n in
            absurd (new m x x_stands (subst (λ w. IsSameState w x) (sym last.1) (same_turned x y same)))
      ]
  | inr m_ge ↦
      let last = get_end states z x m m_ge at_m in
      elim (below_or_not n (length states)) [
        | inl n_lt ↦ absurd (new n y (sym (get_front states (z ∷ []) n n_lt) ∙ at_n) (subst (λ w. IsSameState w y) (sym last.1) same))
        | inr n_ge ↦ last.0 ∙ sym (get_end states z y n n_ge at_n).0
      ]
]

pub apart_none : StandApart []
apart_none m n x y at_m at_n same = absurd (cc at_m)

pub new_in_none : (states : List AutomatonState) (x : AutomatonState) → states ≡ [] → IsNewState states x
new_in_none states x e number y stands same = absurd (cc (sym (ap (λ xs. slice_get xs number) e) ∙ stands))

-- ---- hashes

pub on_not_err : {A E : Type 0} {P : Type 0} (r : Result A E) (b : Bool) → b ≡ is_err r → b ≡ false → OnOk r P → P
on_not_err (Ok x) b is not has = has
on_not_err (Err e) b is not has = absurd (cc (is, not))

pub nodes_more : (threads : List Thread) (i hash : ℕ) (q : ℕ × ℕ) → IsSomeAnd (slice_get threads i) (λ t. q ≡ t.1) → with_nodes hash (take (i + 1) threads) ≡ mixed (mixed (with_nodes hash (take i threads)) q.0) q.1
nodes_more [] i hash q is = absurd is
nodes_more (t ∷ threads) zero hash q is = ap (λ (r : ℕ × ℕ). mixed (mixed hash r.0) r.1) (sym is)
nodes_more (t ∷ threads) (suc i) hash q is =
    let more : suc i + 1 ≡ suc (i + 1) = omega arith in
    ap (λ k. with_nodes hash (take k (t ∷ threads))) more ∙ nodes_more threads i (mixed (mixed hash t.1.0) t.1.1) q is

pub same_hash : (x y : AutomatonState) → IsSameState x y → hash_of y ≡ hash_of x
same_hash x y same =
    ap (λ s. with_nodes (with_end (mixed (starting_hash s) (side_number y.behind)) y.ended) y.threads.threads) same.starting
    ∙ ap (λ b. with_nodes (with_end (mixed (starting_hash x.starting) (side_number b)) y.ended) y.threads.threads) same.behind
    ∙ ap (λ o. with_nodes (with_end (mixed (starting_hash x.starting) (side_number x.behind)) o) y.threads.threads) same.ended
    ∙ ap (λ ts. with_nodes (with_end (mixed (starting_hash x.starting) (side_number x.behind)) x.ended) ts) same.threads

some_either : (b : Bool) (o : Option ℕ) (v : ℕ) → IsSome o → IsSome (cond b (Some v) o)
some_either true o v is = refl
some_either false o v is = is

some_here : (b : Bool) (o : Option ℕ) (v : ℕ) → b ≡ true → IsSome (cond b (Some v) o)
some_here b o v is = subst (λ c. IsSome (cond c (Some v) o)) (sym is) refl

-- what has a number has one when a further one is entered
pub numbered_still : {S : Type 0} (states : List AutomatonState) (before after : HashMap ℕ ℕ S) (key value : ℕ) → Updates ◌==◌ before after key (Some value) → AreNumbered states before → AreNumbered states after
numbered_still states before after key value noted numbered number x stands =
    subst IsSome (sym (noted.0 (hash_of x))) (some_either (key == hash_of x) (get ◌==◌ before (hash_of x)) value (numbered number x stands))

-- and so has the state of the further one
pub numbered_more : {S : Type 0} (states : List AutomatonState) (z : AutomatonState) (before after : HashMap ℕ ℕ S) (value : ℕ) → Updates ◌==◌ before after (hash_of z) (Some value) → AreNumbered states before → AreNumbered (states ++ z ∷ []) after
numbered_more states z before after value noted numbered number x stands = elim (below_or_not number (length states)) [
  | inl lt ↦ numbered_still states before after (hash_of z) value noted numbered number x (sym (get_front states (z ∷ []) number lt) ∙ stands)
  | inr ge ↦
      let last = get_end states z x number ge stands in
      subst IsSome (sym (noted.0 (hash_of x))) (some_here (hash_of z == hash_of x) (get ◌==◌ before (hash_of x)) value (eq-eqb (hash_of z) (hash_of x) (ap hash_of last.1)))
]

-- without a number for its hash, a state is new
pub unnumbered_new : {S : Type 0} (states : List AutomatonState) (numbers : HashMap ℕ ℕ S) (x : AutomatonState) → AreNumbered states numbers → get ◌==◌ numbers (hash_of x) ≡ None → IsNewState states x
unnumbered_new states numbers x numbered none number y stands same =
    let is : IsSome (get ◌==◌ numbers (hash_of y)) = numbered number y stands in
    let gone : get ◌==◌ numbers (hash_of y) ≡ None = ap (λ q. get ◌==◌ numbers q) (same_hash x y same) ∙ none in
    absurd (no_some (subst IsSome gone is))
  where
    no_some : IsSome {T = ℕ} None → ⊥
    no_some e = cc e

-- ---- sizes

-- the sum of capped numbers is the capped sum
pub counted_sum : (top a b : ℕ) → min (min a top + min b top) top ≡ min (a + b) top
counted_sum top a b = elim (below_or_not top a) [
  | inl above ↦
      let full : min a top ≡ top = min-eq_right {n = top} {m = a} (omega (arith, above)) in
      min-eq_right {n = top} {m = min a top + min b top} (omega (arith, full)) ∙ sym (min-eq_right {n = top} {m = a + b} (omega (arith, above)))
  | inr within ↦ elim (below_or_not top b) [
    | inl above ↦
        let full : min b top ≡ top = min-eq_right {n = top} {m = b} (omega (arith, above)) in
        min-eq_right {n = top} {m = min a top + min b top} (omega (arith, full)) ∙ sym (min-eq_right {n = top} {m = a + b} (omega (arith, above)))
    | inr fits ↦
        let one : min a top ≡ a = min-eq_left {n = a} {m = top} within in
        let other : min b top ≡ b = min-eq_left {n = b} {m = top} fits in
        ap (λ n. min (n + min b top) top) one ∙ ap (λ n. min (a + n) top) other
  ]
]

-- all states and a further one
pub used_more : (width : ℕ) (states : List AutomatonState) (z : AutomatonState) → counted (size_of_all width states + counted (size_of width z)) ≡ size_of_all width (states ++ z ∷ [])
used_more width states z =
    counted_sum 18446744073709551615 (sum_by (size_of width) states) (size_of width z)
    ∙ ap counted (sym (sum_by_push (size_of width) states z))
