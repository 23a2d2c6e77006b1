-- A walk is a path that takes no pair of node and offset twice.
use Rattle.std.proofs.Common.{ℕ, ◌≤◌, List, [], ◌∷◌, Contains, refl, sym, ap, subst, arith, inl, inr}
use Rattle.rx_walks.specs.Machines.{Machine, Outcome, IsForward}
use Rattle.rx_walks.specs.Walks.{IsNew, Walk, ended, went, took}
use Rattle.rx_walks.specs.Paths.{PathThrough, through_end, through_edge, through_read, HasNoRepeat}
use Rattle.rx_walks.proofs.WalkLaws.{Contains-head, Contains-tail, Contains-cases, none_seen}

-- the pairs of a walk: distinct, none before its offset, and at its offset none that was seen
pub record Pairs {Q N : Type 0} (m : Machine Q N) (seen : List Q) (n : N) (q : Q) (i : ℕ) (cs : List ℕ) (t : Outcome N) : Type 0 where
  pub pairs : List (Q × ℕ)
  pub path : PathThrough m n q i cs pairs t
  pub once : HasNoRepeat pairs
  pub onward : (x : Q) (j : ℕ) → Contains pairs (x, j) → i ≤ j
  pub fresh : (x : Q) → Contains pairs (x, i) → IsNew seen x

pub walk_pairs : {Q N : Type 0} {m : Machine Q N} {seen : List Q} {n : N} {q : Q} {i : ℕ} {cs : List ℕ} {t : Outcome N} → IsForward m → Walk m seen n q i cs t → Pairs m seen n q i cs t
walk_pairs on (ended {seen = seen} {q = q} {i = i} new is) = record {
  pairs = (q, i) ∷ [];
  path = through_end is;
  once = (none_seen (q, i), tt);
  onward = λ x j c. elim (Contains-cases [] (q, i) (x, j) c) [ inl e ↦ omega (arith, ap (λ z. z.1) e) | inr c' ↦ absurd (none_seen (x, j) c') ];
  fresh = λ x c. elim (Contains-cases [] (q, i) (x, i) c) [ inl e ↦ subst (λ y. IsNew seen y) (ap (λ z. z.0) e) new | inr c' ↦ absurd (none_seen (x, i) c') ];
}
walk_pairs on (went {seen = seen} {q = q} {i = i} rs r new is at w) = let more = walk_pairs on w in record {
  pairs = (q, i) ∷ more.pairs;
  path = through_edge rs r is at more.path;
  once = ((λ c. more.fresh q c (Contains-head seen q q refl)), more.once);
  onward = λ x j c. elim (Contains-cases more.pairs (q, i) (x, j) c) [ inl e ↦ omega (arith, ap (λ z. z.1) e) | inr c' ↦ more.onward x j c' ];
  fresh = λ x c. elim (Contains-cases more.pairs (q, i) (x, i) c) [
    | inl e ↦ subst (λ y. IsNew seen y) (ap (λ z. z.0) e) new
    | inr c' ↦ λ d. more.fresh x c' (Contains-tail seen q x d)
  ];
}
walk_pairs on (took {seen = seen} {q = q} {i = i} r j new is w) = let more = walk_pairs on w in let above = on i j q r is in record {
  pairs = (q, i) ∷ more.pairs;
  path = through_read r j is more.path;
  once = ((λ c. omega (arith, above, more.onward q i c)), more.once);
  onward = λ x k c. elim (Contains-cases more.pairs (q, i) (x, k) c) [ inl e ↦ omega (arith, ap (λ z. z.1) e) | inr c' ↦ omega (arith, above, more.onward x k c') ];
  fresh = λ x c. elim (Contains-cases more.pairs (q, i) (x, i) c) [
    | inl e ↦ subst (λ y. IsNew seen y) (ap (λ z. z.0) e) new
    | inr c' ↦ absurd (omega (arith, above, more.onward x i c'))
  ];
}

pub pairs_walk : {Q N : Type 0} {m : Machine Q N} {n : N} {q : Q} {i : ℕ} {cs : List ℕ} {pairs : List (Q × ℕ)} {t : Outcome N} (seen : List Q) → PathThrough m n q i cs pairs t → HasNoRepeat pairs
    → ((x : Q) → Contains pairs (x, i) → IsNew seen x) → Walk m seen n q i cs t
pairs_walk seen (through_end {q = q} {i = i} is) once fresh = ended (fresh q (Contains-head [] (q, i) (q, i) refl)) is
pairs_walk seen (through_edge {q = q} {i = i} {pairs = pairs} rs r is at path) once fresh =
    went rs r (fresh q (Contains-head pairs (q, i) (q, i) refl)) is at (pairs_walk (q ∷ seen) path once.1 (λ x c d. elim (Contains-cases seen q x d) [
      | inl e ↦ once.0 (subst (λ y. Contains pairs (y, i)) (sym e) c)
      | inr d' ↦ fresh x (Contains-tail pairs (q, i) (x, i) c) d'
    ]))
pairs_walk seen (through_read {q = q} {i = i} {pairs = pairs} r j is path) once fresh =
    took r j (fresh q (Contains-head pairs (q, i) (q, i) refl)) is (pairs_walk [] path once.1 (λ x c. none_seen x))
