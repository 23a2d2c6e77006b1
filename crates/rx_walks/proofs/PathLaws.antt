-- Loops are removed from a path.
use Rattle.std.proofs.Common.{◌≡◌, ℕ, ◌⊎◌, List, [], ◌∷◌, Contains, refl, sym, subst, ◌∙◌, inl, inr}
use Rattle.rx_walks.specs.Machines.{Machine, Outcome}
use Rattle.rx_walks.specs.Walks.{IsNew, Walk, ended, went, took, Reaches}
use Rattle.rx_walks.specs.Paths.{Path, at_end, by_edge, by_read}
use Rattle.rx_walks.proofs.WalkLaws.{Contains-cases, Contains-head, Contains-tail, none_seen, wider, weaker, forget, from_node}

-- what a walk reaches, without one more node or with other notes
pub reaches : {Q N : Type 0} {m : Machine Q N} {seen : List Q} {n : N} {q : Q} {i p e : ℕ} {cs : List ℕ} {t : Outcome N} → Walk m seen n q i cs t → t.pattern ≡ p → t.end ≡ e → Reaches m seen n q i p e
reaches w is is' = record { choices = _; outcome = _; walk = w; pattern_is = is; end_is = is' }

reaches_renoted : {Q N : Type 0} {m : Machine Q N} {seen : List Q} {n : N} {q : Q} {i : ℕ} {cs : List ℕ} {t : Outcome N} (n' : N) → Walk m seen n q i cs t → Reaches m seen n' q i t.pattern t.end
reaches_renoted n' (ended new is) = reaches (ended new is) refl refl
reaches_renoted {m = m} n' (went {q = q} {i = i} rs r new is at w) = let on = reaches_renoted (m.note i q n') w in reaches (went rs r new is at on.walk) on.pattern_is on.end_is
reaches_renoted n' (took r j new is w) = let on = reaches_renoted n' w in reaches (took r j new is on.walk) on.pattern_is on.end_is

pub new_past : {Q : Type 0} (seen : List Q) (b q : Q) → IsNew seen q → (b ≡ q → ⊥) → IsNew (b ∷ seen) q
new_past seen b q new other c = elim (Contains-cases seen b q c) [ inl e ↦ other e | inr c' ↦ new c' ]

turned : {Q : Type 0} (seen : List Q) (a b x : Q) → Contains (a ∷ b ∷ seen) x → Contains (b ∷ a ∷ seen) x
turned seen a b x c = elim (Contains-cases (b ∷ seen) a x c) [
  | inl e ↦ Contains-tail (a ∷ seen) b x (Contains-head seen a x e)
  | inr c' ↦ wider seen (a ∷ seen) (λ y d. Contains-tail seen a y d) b x c'
]

-- a walk takes a node, or avoids it
pub passes_or : {Q N : Type 0} {m : Machine Q N} {seen : List Q} {n : N} {q : Q} {i : ℕ} {cs : List ℕ} {t : Outcome N} (same : (a b : Q) → (a ≡ b) ⊎ (a ≡ b → ⊥)) (b : Q) → Walk m seen n q i cs t
    → Walk m (b ∷ seen) n q i cs t ⊎ ((n' : N) → Reaches m seen n' b i t.pattern t.end)
passes_or same b (ended {seen = seen} {n = n} {q = q} new is) = elim (same b q) [
  | inl e ↦ inr (λ n'. reaches_renoted n' (from_node (sym e) (ended {n = n} new is)))
  | inr other ↦ inl (ended (new_past seen b q new other) is)
]
passes_or same b (went {seen = seen} {q = q} rs r new is at w) = elim (same b q) [
  | inl e ↦ inr (λ n'. reaches_renoted n' (from_node (sym e) (went rs r new is at w)))
  | inr other ↦ elim (passes_or same b w) [
    | inl w' ↦ inl (went rs r (new_past seen b q new other) is at (weaker (q ∷ b ∷ seen) (turned seen q b) w'))
    | inr back ↦ inr (λ n'. let on = back n' in reaches (forget on.walk) on.pattern_is on.end_is)
  ]
]
passes_or same b (took {seen = seen} {q = q} r j new is w) = elim (same b q) [
  | inl e ↦ inr (λ n'. reaches_renoted n' (from_node (sym e) (took r j new is w)))
  | inr other ↦ inl (took r j (new_past seen b q new other) is w)
]

pub path_has_walk : {Q N : Type 0} {m : Machine Q N} {q : Q} {i p e : ℕ} → ((a b : Q) → (a ≡ b) ⊎ (a ≡ b → ⊥)) → Path m q i p e → (n : N) → Reaches m [] n q i p e
path_has_walk same (at_end {q = q} is) n = reaches (ended (none_seen q) is) refl refl
path_has_walk {m = m} same (by_edge {q = q} {i = i} rs r k is at path) n =
    let on = path_has_walk same path (m.note i q n) in
    elim (passes_or same q on.walk) [
      | inl w ↦ reaches (went rs r (none_seen q) is at w) on.pattern_is on.end_is
      | inr back ↦ let again = back n in reaches again.walk (again.pattern_is ∙ on.pattern_is) (again.end_is ∙ on.end_is)
    ]
path_has_walk same (by_read {q = q} r j is path) n = let on = path_has_walk same path n in reaches (took r j (none_seen q) is on.walk) on.pattern_is on.end_is

pub walk_has_path : {Q N : Type 0} {m : Machine Q N} {seen : List Q} {n : N} {q : Q} {i : ℕ} {cs : List ℕ} {t : Outcome N} → Walk m seen n q i cs t → Path m q i t.pattern t.end
walk_has_path (ended new is) = at_end is
walk_has_path (went {k = k} rs r new is at w) = by_edge rs r k is at (walk_has_path w)
walk_has_path (took r j new is w) = by_read r j is (walk_has_path w)

pub walk_reaches : {Q N : Type 0} {m : Machine Q N} {seen : List Q} {n : N} {q : Q} {i p e : ℕ} → Reaches m seen n q i p e → Path m q i p e
walk_reaches {m = m} {q = q} {i = i} {p = p} reached = subst (λ x. Path m q i p x) reached.end_is (subst (λ x. Path m q i x reached.outcome.end) reached.pattern_is (walk_has_path reached.walk))
