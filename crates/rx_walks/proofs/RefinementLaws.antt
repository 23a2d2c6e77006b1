-- A machine that reads in smaller steps has the same walks.
use Rattle.std.proofs.Common.{◌≡◌, ℕ, zero, suc, ◌↔◌, List, [], ◌∷◌, map, Option, Some, option_map, slice_get, Contains, refl, sym, ap, ap₂, subst, ◌∙◌, arith, inl, inr}
use Rattle.std.proofs.lemmas.Option.{slice_get-map}
use Rattle.rx_walks.specs.Machines.{ends, goes, reads, Machine, Outcome}
use Rattle.rx_walks.specs.Walks.{IsNew, Walk, ended, went, took, IsLeast}
use Rattle.rx_walks.specs.Steps.{FindsFrom, nowhere, found}
use Rattle.rx_walks.specs.Refinements.{Chain, last, more, Dies, at_once, after_read, Agrees, both_end, both_go, both_read, both_fail, Refines}
use Rattle.rx_walks.proofs.WalkLaws.{Contains-cases, Contains-head, Contains-tail, none_seen, ends_not_goes, ends_not_reads, goes_not_reads, same_end, same_open, same_read, same_some, from_node, from_place, with_notes}

Contains_to : {C B : Type 0} (f : C → B) (seen : List C) (q : C) → Contains seen q → Contains (map f seen) (f q)
Contains_to f [] q (k, within, is) = absurd (omega (arith, within))
Contains_to f (x ∷ seen) q c = elim (Contains-cases seen x q c) [ inl e ↦ Contains-head (map f seen) (f x) (f q) (ap f e) | inr c' ↦ Contains-tail (map f seen) (f x) (f q) (Contains_to f seen q c') ]

Contains_back : {C B : Type 0} (f : C → B) → ((q r : C) → f q ≡ f r → q ≡ r) → (seen : List C) (q : C) → Contains (map f seen) (f q) → Contains seen q
Contains_back f apart [] q (k, within, is) = absurd (omega (arith, within))
Contains_back f apart (x ∷ seen) q c = elim (Contains-cases (map f seen) (f x) (f q) c) [
  | inl e ↦ Contains-head seen x q (apart x q e)
  | inr c' ↦ Contains-tail seen x q (Contains_back f apart seen q c')
]

-- the moves of an agreeing node
to_end : {C B N : Type 0} {c : Machine C N} {b : Machine B N} {f : C → B} {i p : ℕ} {q : C} → Agrees c b f i q → c.move i q ≡ ends p → b.move i (f q) ≡ ends p
to_end (both_end is is') e = is' ∙ ap ends (same_end is e)
to_end (both_go is is') e = absurd (ends_not_goes e is)
to_end (both_read is chain) e = absurd (ends_not_reads e is)
to_end (both_fail is dies) e = absurd (ends_not_goes e is)

to_open : {C B N : Type 0} {c : Machine C N} {b : Machine B N} {f : C → B} {i : ℕ} {q : C} (rs : List C) (k : ℕ) (r : C) → Agrees c b f i q → c.move i q ≡ goes rs → slice_get rs k ≡ Some r
    → b.move i (f q) ≡ goes (map f rs)
to_open rs k r (both_end is is') e at = absurd (ends_not_goes is e)
to_open {f = f} rs k r (both_go is is') e at = is' ∙ ap (λ x. goes (map f x)) (same_open is e)
to_open rs k r (both_read is chain) e at = absurd (goes_not_reads e is)
to_open rs k r (both_fail is dies) e at = absurd (cc (subst (λ x. slice_get x k ≡ Some r) (same_open e is) at))

to_chain : {C B N : Type 0} {c : Machine C N} {b : Machine B N} {f : C → B} {i j : ℕ} {q r : C} → Agrees c b f i q → c.move i q ≡ reads r j → Chain b (f q) i (f r) j
to_chain (both_end is is') e = absurd (ends_not_reads is e)
to_chain (both_go is is') e = absurd (goes_not_reads is e)
to_chain {b = b} {f = f} {i = i} {q = q} (both_read is chain) e = let same = same_read is e in chain_to same.0 same.1 chain
  where
    chain_to : {r r' : _} {j j' : ℕ} → r ≡ r' → j ≡ j' → Chain b (f q) i (f r) j → Chain b (f q) i (f r') j'
    chain_to {r = r} {j' = j'} e e' chain = subst (λ x. Chain b (f q) i (f x) j') e (subst (λ x. Chain b (f q) i (f r) x) e' chain)
to_chain (both_fail is dies) e = absurd (goes_not_reads is e)

chain_walk : {Q N : Type 0} {m : Machine Q N} {seen : List Q} {n : N} {q r : Q} {i j : ℕ} {cs : List ℕ} {t : Outcome N} → Chain m q i r j → IsNew seen q → Walk m [] n r j cs t → Walk m seen n q i cs t
chain_walk (last is) new w = took _ _ new is w
chain_walk (more {r = r} is chain) new w = took _ _ new is (chain_walk chain (none_seen r) w)

-- from c to b
pub refined : {C B N : Type 0} {c : Machine C N} {b : Machine B N} {f : C → B} {seen : List C} {n : N} {q : C} {i : ℕ} {cs : List ℕ} {t : Outcome N} → Refines c b f
    → Walk c seen n q i cs t → Walk b (map f seen) n (f q) i cs t
refined {f = f} same (ended {seen = seen} {q = q} {i = i} new is) = ended (λ x. new (Contains_back f same.apart seen q x)) (to_end (same.agrees i q) is)
refined {f = f} same (went {seen = seen} {n = n} {q = q} {i = i} {k = k} rs r new is at w) =
    went (map f rs) (f r) (λ x. new (Contains_back f same.apart seen q x)) (to_open rs k r (same.agrees i q) is at) (slice_get-map f rs k ∙ ap (option_map f) at) (with_notes (sym (same.notes i q n)) (refined same w))
refined {f = f} same (took {seen = seen} {q = q} {i = i} r j new is w) = chain_walk (to_chain (same.agrees i q) is) (λ x. new (Contains_back f same.apart seen q x)) (refined same w)

-- from b to c
map_at : {C B : Type 0} (f : C → B) (rs : List C) (k : ℕ) (y : B) → slice_get (map f rs) k ≡ Some y → (r : C) × (slice_get rs k ≡ Some r) × (y ≡ f r)
map_at f [] k y at = absurd (cc at)
map_at f (r ∷ rs) zero y at = (r, refl, sym (same_some refl at))
map_at f (r ∷ rs) (suc k) y at = map_at f rs k y at

-- from the end of a chain, or from its middle
abbrev Returns : {C B N : Type 0} → Machine C N → Machine B N → (C → B) → List B → N → B → ℕ → List ℕ → Outcome N → Type 0
Returns {C = C} c b f seen n x i cs t = ((seen' : List C) (q : C) → seen ≡ map f seen' → x ≡ f q → Walk c seen' n q i cs t) × ((q : C) (j : ℕ) → Chain b x i (f q) j → Walk c [] n q j cs t)

no_chain : {Q N : Type 0} {m : Machine Q N} {q r : Q} {i j : ℕ} → Chain m q i r j → ((s : Q) (k : ℕ) → m.move i q ≡ reads s k → ⊥) → ⊥
no_chain (last is) never = never _ _ is
no_chain (more is chain) never = never _ _ is

no_death : {Q N : Type 0} {m : Machine Q N} {seen : List Q} {n : N} {q : Q} {i : ℕ} {cs : List ℕ} {t : Outcome N} → Dies m q i → Walk m seen n q i cs t → ⊥
no_death (at_once is) (ended new is') = ends_not_goes is' is
no_death (at_once is) (went {k = k} rs r new is' at w) = cc (subst (λ x. slice_get x k ≡ Some r) (same_open is' is) at)
no_death (at_once is) (took r j new is' w) = goes_not_reads is is'
no_death (after_read is dies) (ended new is') = ends_not_reads is' is
no_death (after_read is dies) (went rs r new is' at w) = goes_not_reads is' is
no_death (after_read is dies) (took r j new is' w) = let same = same_read is' is in no_death dies (from_node same.0 (from_place same.1 w))

still_seen : {C B : Type 0} (f : C → B) (seen : List B) (seen' : List C) (x : B) (q : C) → seen ≡ map f seen' → x ≡ f q → IsNew seen x → IsNew seen' q
still_seen f seen seen' x q e e' new within = new (subst (λ y. Contains seen y) (sym e') (subst (λ ys. Contains ys (f q)) (sym e) (Contains_to f seen' q within)))

chain_from : {Q N : Type 0} {m : Machine Q N} {q r s : Q} {i j k : ℕ} → q ≡ r → i ≡ j → Chain m q i s k → Chain m r j s k
chain_from {m = m} {r = r} {s = s} {i = i} {k = k} e e' chain = subst (λ x. Chain m r x s k) e' (subst (λ x. Chain m x i s k) e chain)

onward : {C B N : Type 0} {c : Machine C N} {b : Machine B N} {f : C → B} {n : N} {x y : B} {i j k : ℕ} {cs : List ℕ} {t : Outcome N} (r : C) → b.move i x ≡ reads y j → Returns c b f [] n y j cs t
    → Chain b x i (f r) k → Walk c [] n r k cs t
onward r is back (last is') = let same = same_read is is' in from_place same.1 (back.0 [] r refl same.0)
onward {k = k} r is back (more is' chain) = let same = same_read is' is in back.1 r k (chain_from same.0 same.1 chain)

back_ended : {C B N : Type 0} {c : Machine C N} {b : Machine B N} {f : C → B} {seen : List C} {n : N} {q : C} {i p : ℕ} → Agrees c b f i q → IsNew seen q → b.move i (f q) ≡ ends p
    → Walk c seen n q i [] (record { pattern = p; end = i; notes = n })
back_ended (both_end is is') new e = ended new (is ∙ ap ends (same_end is' e))
back_ended (both_go is is') new e = absurd (ends_not_goes e is')
back_ended (both_read is chain) new e = absurd (no_chain chain (λ s k is'. ends_not_reads e is'))
back_ended (both_fail is (at_once is')) new e = absurd (ends_not_goes e is')
back_ended (both_fail is (after_read is' dies)) new e = absurd (ends_not_reads e is')

back_took : {C B N : Type 0} {c : Machine C N} {b : Machine B N} {f : C → B} {seen : List C} {n : N} {q : C} {y : B} {i j : ℕ} {cs : List ℕ} {t : Outcome N} → Agrees c b f i q → IsNew seen q
    → b.move i (f q) ≡ reads y j → Walk b [] n y j cs t → Returns c b f [] n y j cs t → Walk c seen n q i cs t
back_took (both_end is is') new e w back = absurd (ends_not_reads is' e)
back_took (both_go is is') new e w back = absurd (goes_not_reads is' e)
back_took (both_read {r = r} {j = k} is chain) new e w back = took r k new is (onward r e back chain)
back_took (both_fail is (at_once is')) new e w back = absurd (goes_not_reads is' e)
back_took (both_fail is (after_read is' dies)) new e w back = let same = same_read e is' in absurd (no_death dies (from_node same.0 (from_place same.1 w)))

back_went : {C B N : Type 0} {c : Machine C N} {b : Machine B N} {f : C → B} {seen : List C} {n : N} {q : C} {y : B} {i k : ℕ} {cs : List ℕ} {t : Outcome N} (ys : List B) → Agrees c b f i q → IsNew seen q
    → b.move i (f q) ≡ goes ys → slice_get ys k ≡ Some y → b.note i (f q) n ≡ c.note i q n → Returns c b f (f q ∷ map f seen) (b.note i (f q) n) y i cs t → Walk c seen n q i (k ∷ cs) t
back_went ys (both_end is is') new e at note back = absurd (ends_not_goes is' e)
back_went {f = f} {seen = seen} {q = q} {y = y} {k = k} ys (both_go {rs = rs} is is') new e at note back =
    let one = map_at f rs k y (subst (λ x. slice_get x k ≡ Some y) (same_open e is') at) in
    went rs one.0 new is one.1 (with_notes note (back.0 (q ∷ seen) one.0 refl one.2))
back_went ys (both_read is chain) new e at note back = absurd (no_chain chain (λ s k is'. goes_not_reads e is'))
back_went {y = y} {k = k} ys (both_fail is (at_once is')) new e at note back = absurd (cc (subst (λ x. slice_get x k ≡ Some y) (same_open e is') at))
back_went ys (both_fail is (after_read is' dies)) new e at note back = absurd (goes_not_reads e is')

returns : {C B N : Type 0} {c : Machine C N} {b : Machine B N} {f : C → B} {seen : List B} {n : N} {x : B} {i : ℕ} {cs : List ℕ} {t : Outcome N} → Refines c b f → Walk b seen n x i cs t
    → Returns c b f seen n x i cs t
returns {b = b} {f = f} same (ended {seen = seen} {q = x} {i = i} new is) = (
  (λ seen' q e e'. back_ended (same.agrees i q) (still_seen f seen seen' x q e e' new) (ap (b.move i) (sym e') ∙ is)),
  (λ q j chain. absurd (no_chain chain (λ s k is'. ends_not_reads is is'))),
)
returns {c = c} {b = b} {f = f} same (went {seen = seen} {n = n} {q = x} {i = i} {cs = cs} {t = t} ys y new is at w) = (
  (λ seen' q e e'. back_went ys (same.agrees i q) (still_seen f seen seen' x q e e' new) (ap (b.move i) (sym e') ∙ is) at (same.notes i q n)
      (subst (λ z. Returns c b f z (b.note i (f q) n) y i cs t) (ap₂ (λ z zs. z ∷ zs) e' e) (subst (λ z. Returns c b f (x ∷ seen) z y i cs t) (ap (λ z. b.note i z n) e') (returns same w)))),
  (λ q j chain. absurd (no_chain chain (λ s k is'. goes_not_reads is is'))),
)
returns {b = b} {f = f} same (took {seen = seen} {q = x} {i = i} y j new is w) = (
  (λ seen' q e e'. back_took (same.agrees i q) (still_seen f seen seen' x q e e' new) (ap (b.move i) (sym e') ∙ is) w (returns same w)),
  (λ q k chain. onward q is (returns same w) chain),
)

pub unrefined : {C B N : Type 0} {c : Machine C N} {b : Machine B N} {f : C → B} {n : N} {i : ℕ} {cs : List ℕ} {t : Outcome N} (seen : List C) (q : C) → Refines c b f
    → Walk b (map f seen) n (f q) i cs t → Walk c seen n q i cs t
unrefined seen q same w = (returns same w).0 seen q refl refl

-- least walks and finds
pub least_refined : {C B N : Type 0} {c : Machine C N} {b : Machine B N} {f : C → B} {seen : List C} {n : N} {q : C} {i : ℕ} {t : Outcome N} → Refines c b f
    → IsLeast c seen n q i t ↔ IsLeast b (map f seen) n (f q) i t
least_refined {seen = seen} {q = q} same = (
  (λ one. record { choices = one.choices; walk = refined same one.walk; least = λ ds u w. one.least ds u (unrefined seen q same w) }),
  (λ one. record { choices = one.choices; walk = unrefined seen q same one.walk; least = λ ds u w. one.least ds u (refined same w) }),
)

pub finds_unrefined : {C B N : Type 0} {c : Machine C N} {b : Machine B N} {f : C → B} {begins : ℕ → Type 0} {fresh : ℕ → N} {i : ℕ} {out : Option (Outcome N)} (q : C) → Refines c b f
    → FindsFrom b begins fresh (f q) i out → FindsFrom c begins fresh q i out
finds_unrefined q same (nowhere never) = nowhere (λ j from begun cs t w. never j from begun cs t (refined same w))
finds_unrefined q same (found j from begun one before) =
    found j from begun ((least_refined same).1 one) (λ k from' below begun' cs t w. before k from' below begun' cs t (refined same w))
