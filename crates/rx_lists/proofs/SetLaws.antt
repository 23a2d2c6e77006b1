-- Sets of nodes by their indices.
use Rattle.std.proofs.Common.{◌≡◌, ℕ, ◌↔◌, Bool, true, false, List, [], ◌∷◌, ◌++◌, Option, Some, None, Contains, IsTrue, slice_get, refl, sym, ap, ap₂, subst, ◌∙◌, arith, inl, inr}
use Rattle.std.proofs.lemmas.Option.{slice_get_within, get_or_from_slice_get}
use Rattle.std.proofs.lemmas.List.Elements.{Contains-append_left, Contains-append_right, Contains-push_cases}
use Rattle.rx_steps.specs.Nodes.{index_from, IsInserted, IsMember}
use Rattle.rx_steps.proofs.IndexLaws.{one_index}
use Rattle.rx_lists.specs.Sets.{AreOf}

same_some : {a b : ℕ} → Some a ≡ Some b → a ≡ b
same_some e = cc e

pub none_in : {X : Type 0} (x : X) → Contains [] x → ⊥
none_in x (k, within, is) = absurd (omega (arith, within))

pub member_has : (widths ids : List ℕ) (nodes : List (ℕ × ℕ)) (q : ℕ × ℕ) (b : Bool) (o : Option ℕ) → index_from 0 widths q.0 q.1 ≡ o → IsMember o b ids → AreOf widths ids nodes → IsTrue b ↔ Contains nodes q
member_has widths ids nodes q b None at is are = (
  (λ yes. absurd (cc (sym yes ∙ is))),
  (λ c. let there = (are q).1 c in absurd (cc (sym at ∙ there.1))),
)
member_has widths ids nodes q b (Some k) at is are = (
  (λ yes. (are q).0 (k, at, is.0 yes)),
  (λ c. let there = (are q).1 c in is.1 (subst (λ n. Contains ids n) (same_some (sym there.1 ∙ at)) there.2)),
)

pub not_inserted : (o : Option ℕ) (b : Bool) (ids ids' : List ℕ) → b ≡ false → IsInserted o b ids ids' → ids' ≡ ids
not_inserted None b ids ids' e is = is.1
not_inserted (Some k) true ids ids' e is = absurd (cc e)
not_inserted (Some k) false ids ids' e is = is.1

pub inserted_before : (widths ids ids' : List ℕ) (nodes : List (ℕ × ℕ)) (q : ℕ × ℕ) (b : Bool) (o : Option ℕ) (k : ℕ) → b ≡ false → o ≡ Some k → index_from 0 widths q.0 q.1 ≡ o → IsInserted o b ids ids' → AreOf widths ids nodes → Contains nodes q
inserted_before widths ids ids' nodes q b None k e f at is are = absurd (cc f)
inserted_before widths ids ids' nodes q true (Some j) k e f at is are = absurd (cc e)
inserted_before widths ids ids' nodes q false (Some j) k e f at is are = (are q).0 (j, at, is.0)

pub of_same : (widths widths' ids ids' : List ℕ) (nodes : List (ℕ × ℕ)) → widths' ≡ widths → ids' ≡ ids → AreOf widths ids nodes → AreOf widths' ids' nodes
of_same widths widths' ids ids' nodes e f are = rw e (rw f are)

pub of_more : (widths ids : List ℕ) (nodes : List (ℕ × ℕ)) (x : ℕ × ℕ) (k : ℕ) → index_from 0 widths x.0 x.1 ≡ Some k → AreOf widths ids nodes → AreOf widths (ids ++ k ∷ []) (nodes ++ x ∷ [])
of_more widths ids nodes x k at are q = (
  (λ there. elim (Contains-push_cases ids k there.0 there.2) [
    | inl c ↦ Contains-append_left nodes (x ∷ []) q ((are q).0 (there.0, there.1, c))
    | inr e ↦ let same = one_index 0 widths x.0 x.1 q.0 q.1 there.0 (at ∙ ap (λ n. Some n) e) there.1 in
        subst (λ y. Contains (nodes ++ x ∷ []) y) (ap₂ (λ a b. (a, b)) same.0 same.1) (Contains-append_right nodes (x ∷ []) x (0, omega arith, refl))
  ]),
  (λ c. elim (Contains-push_cases nodes x q c) [
    | inl c' ↦ let there = (are q).1 c' in (there.0, there.1, Contains-append_left ids (k ∷ []) there.0 there.2)
    | inr e ↦ (k, ap (λ z. index_from 0 widths z.0 z.1) (sym e) ∙ at, Contains-append_right ids (k ∷ []) k (0, omega arith, refl))
  ]),
)

pub with_one : {X : Type 0} (old new : List X) (x q : X) → new ≡ old ++ x ∷ [] → Contains old q → Contains new q
with_one old new x q e c = subst (λ xs. Contains xs q) (sym e) (Contains-append_left old (x ∷ []) q c)

pub last_one : {X : Type 0} (old new : List X) (x q : X) → new ≡ old ++ x ∷ [] → x ≡ q → Contains new q
last_one old new x q e f = subst (λ xs. Contains xs q) (sym e) (subst (λ y. Contains (old ++ x ∷ []) y) f (Contains-append_right old (x ∷ []) x (0, omega arith, refl)))

pub there_at : {X : Type 0} (xs : List X) (k : ℕ) (x : X) → slice_get xs k ≡ Some x → Contains xs x
there_at xs k x at = (k, slice_get_within xs k x at, get_or_from_slice_get xs k x x at)
