-- How walks relate to each other.
use Rattle.std.proofs.Common.{◌≡◌, ℕ, zero, suc, ◌+◌, ◌<◌, ◌⊎◌, List, [], ◌∷◌, ◌++◌, map, Option, Some, slice_get, Contains, refl, sym, ap, ap₂, subst, arith, inl, inr}
use Rattle.std.proofs.lemmas.Bool.{cases_order}
use Rattle.rx_walks.specs.Machines.{Move, ends, goes, reads, Machine, Outcome}
use Rattle.rx_walks.specs.Walks.{IsNew, Walk, ended, went, took, Before, here, later, IsLeast, HasNoWalk}
use Rattle.rx_walks.specs.Steps.{Thins, thin_end, kept, left_out, Best, none, hit, miss, Steps, done, passed, met, opened, read, either}

-- membership
pub Contains-head : {X : Type 0} (xs : List X) (y x : X) → y ≡ x → Contains (y ∷ xs) x
Contains-head xs y x e = (0, omega arith, e)

pub Contains-tail : {X : Type 0} (xs : List X) (y x : X) → Contains xs x → Contains (y ∷ xs) x
Contains-tail xs y x (k, within, is) = (suc k, omega (arith, within), is)

pub Contains-cases : {X : Type 0} (xs : List X) (y x : X) → Contains (y ∷ xs) x → (y ≡ x) ⊎ Contains xs x
Contains-cases xs y x (zero, within, is) = inl is
Contains-cases xs y x (suc k, within, is) = inr (k, omega (arith, within), is)

pub wider : {X : Type 0} (xs ys : List X) → ((x : X) → Contains xs x → Contains ys x) → (y x : X) → Contains (y ∷ xs) x → Contains (y ∷ ys) x
wider xs ys within y x c = elim (Contains-cases xs y x c) [ inl e ↦ Contains-head ys y x e | inr c' ↦ Contains-tail ys y x (within x c') ]

pub none_seen : {X : Type 0} (x : X) → IsNew [] x
none_seen x (k, within, is) = absurd (omega (arith, within))

-- a node has one move
pub ends_not_goes : {Q : Type 0} {x : Move Q} {p : ℕ} {rs : List Q} → x ≡ ends p → x ≡ goes rs → ⊥
ends_not_goes e f = cc (e, f)

pub ends_not_reads : {Q : Type 0} {x : Move Q} {p j : ℕ} {r : Q} → x ≡ ends p → x ≡ reads r j → ⊥
ends_not_reads e f = cc (e, f)

pub goes_not_reads : {Q : Type 0} {x : Move Q} {j : ℕ} {r : Q} {rs : List Q} → x ≡ goes rs → x ≡ reads r j → ⊥
goes_not_reads e f = cc (e, f)

pub same_end : {Q : Type 0} {x : Move Q} {p s : ℕ} → x ≡ ends p → x ≡ ends s → p ≡ s
same_end e f = cc (e, f)

pub same_open : {Q : Type 0} {x : Move Q} {rs ss : List Q} → x ≡ goes rs → x ≡ goes ss → rs ≡ ss
same_open e f = cc (e, f)

pub same_read : {Q : Type 0} {x : Move Q} {r s : Q} {j k : ℕ} → x ≡ reads r j → x ≡ reads s k → (r ≡ s) × (j ≡ k)
same_read e f = (cc (e, f), cc (e, f))

pub same_some : {X : Type 0} {o : Option X} {x y : X} → o ≡ Some x → o ≡ Some y → x ≡ y
same_some e f = cc (e, f)

-- a walk from an equal node, at an equal offset
pub from_node : {Q N : Type 0} {m : Machine Q N} {seen : List Q} {n : N} {q r : Q} {i : ℕ} {cs : List ℕ} {t : Outcome N} → q ≡ r → Walk m seen n q i cs t → Walk m seen n r i cs t
from_node {m = m} {seen = seen} {n = n} {i = i} {cs = cs} {t = t} e w = subst (λ x. Walk m seen n x i cs t) e w

pub from_place : {Q N : Type 0} {m : Machine Q N} {seen : List Q} {n : N} {q : Q} {i j : ℕ} {cs : List ℕ} {t : Outcome N} → i ≡ j → Walk m seen n q i cs t → Walk m seen n q j cs t
from_place {m = m} {seen = seen} {n = n} {q = q} {cs = cs} {t = t} e w = subst (λ x. Walk m seen n q x cs t) e w

pub with_notes : {Q N : Type 0} {m : Machine Q N} {seen : List Q} {n n' : N} {q : Q} {i : ℕ} {cs : List ℕ} {t : Outcome N} → n ≡ n' → Walk m seen n q i cs t → Walk m seen n' q i cs t
with_notes {m = m} {seen = seen} {q = q} {i = i} {cs = cs} {t = t} e w = subst (λ x. Walk m seen x q i cs t) e w

pub one_of_open : {Q : Type 0} {x : Move Q} (rs ss : List Q) (k : ℕ) {r s : Q} → x ≡ goes rs → x ≡ goes ss → slice_get rs k ≡ Some r → slice_get ss k ≡ Some s → r ≡ s
one_of_open rs ss k {s = s} e f at at' = same_some at (subst (λ xs. slice_get xs k ≡ Some s) (same_open f e) at')

-- a walk with fewer nodes seen
pub weaker : {Q N : Type 0} {m : Machine Q N} {seen : List Q} {n : N} {q : Q} {i : ℕ} {cs : List ℕ} {t : Outcome N} (fewer : List Q) → ((x : Q) → Contains fewer x → Contains seen x) → Walk m seen n q i cs t → Walk m fewer n q i cs t
weaker fewer within (ended new is) = ended (λ c. new (within _ c)) is
weaker fewer within (went {seen = seen} {q = q} rs r new is at w) = went rs r (λ c. new (within _ c)) is at (weaker (q ∷ fewer) (wider fewer seen within q) w)
weaker fewer within (took r j new is w) = took r j (λ c. new (within _ c)) is w

pub forget : {Q N : Type 0} {m : Machine Q N} {seen : List Q} {b : Q} {n : N} {q : Q} {i : ℕ} {cs : List ℕ} {t : Outcome N} → Walk m (b ∷ seen) n q i cs t → Walk m seen n q i cs t
forget {seen = seen} {b = b} w = weaker seen (λ x c. Contains-tail seen b x c) w

pub renoted : {Q N : Type 0} {m : Machine Q N} {seen : List Q} {n : N} {q : Q} {i : ℕ} {cs : List ℕ} {t : Outcome N} (n' : N) → Walk m seen n q i cs t
    → (t' : Outcome N) × Walk m seen n' q i cs t'
renoted n' (ended new is) = (_, ended new is)
renoted {m = m} n' (went {q = q} {i = i} rs r new is at w) = let on = renoted (m.note i q n') w in (on.0, went rs r new is at on.1)
renoted n' (took r j new is w) = let on = renoted n' w in (on.0, took r j new is on.1)

pub none_renoted : {Q N : Type 0} {m : Machine Q N} {seen : List Q} {n : N} {q : Q} {i : ℕ} → HasNoWalk m seen n q i → (n' : N) → HasNoWalk m seen n' q i
none_renoted {n = n} never n' cs t w = let back = renoted n w in never cs back.0 back.1

-- a node from which no walk continues may count as seen
still_new : {Q N : Type 0} {m : Machine Q N} {seen : List Q} {n : N} {q : Q} {i : ℕ} {cs : List ℕ} {t : Outcome N} (more : List Q) (b : Q)
    → ((x : Q) → Contains more x → (b ≡ x) ⊎ Contains seen x) → ((n' : N) → HasNoWalk m seen n' b i) → IsNew seen q → Walk m seen n q i cs t → IsNew more q
still_new {m = m} {seen = seen} {n = n} {q = q} {i = i} {cs = cs} {t = t} more b within never new w c = elim (within q c) [ inl e ↦ subst (λ x. HasNoWalk m seen n x i) e (never n) cs t w | inr c' ↦ new c' ]

wider_by : {X : Type 0} (xs ys : List X) (b : X) → ((x : X) → Contains xs x → (b ≡ x) ⊎ Contains ys x) → (y x : X) → Contains (y ∷ xs) x → (b ≡ x) ⊎ Contains (y ∷ ys) x
wider_by xs ys b within y x c = elim (Contains-cases xs y x c) [
  | inl e ↦ inr (Contains-head ys y x e)
  | inr c' ↦ elim (within x c') [ inl e ↦ inl e | inr c'' ↦ inr (Contains-tail ys y x c'') ]
]

pub narrower : {Q N : Type 0} {m : Machine Q N} {seen : List Q} {n : N} {q : Q} {i : ℕ} {cs : List ℕ} {t : Outcome N} (more : List Q) (b : Q)
    → ((x : Q) → Contains more x → (b ≡ x) ⊎ Contains seen x) → ((n' : N) → HasNoWalk m seen n' b i) → Walk m seen n q i cs t → Walk m more n q i cs t
narrower more b within never (ended {n = n} new is) = ended (still_new {n = n} more b within never new (ended new is)) is
narrower more b within never (went {seen = seen} {q = q} rs r new is at w) = went rs r (still_new more b within never new (went rs r new is at w)) is at
    (narrower (q ∷ more) b (wider_by more seen b within q) (λ n' cs t w'. never n' cs t (forget w')) w)
narrower more b within never (took r j new is w) = took r j (still_new more b within never new (took r j new is w)) is w

-- from a node that was seen no walk continues
pub none_when_seen : {Q N : Type 0} {m : Machine Q N} {seen : List Q} {n : N} {q : Q} {i : ℕ} → Contains seen q → HasNoWalk m seen n q i
none_when_seen c cs t (ended new is) = new c
none_when_seen c cs t (went rs r new is at w) = new c
none_when_seen c cs t (took r j new is w) = new c

-- equal choices make equal walks
pub same_walk : {Q N : Type 0} {m : Machine Q N} {seen : List Q} {n : N} {q : Q} {i : ℕ} {cs : List ℕ} {t u : Outcome N} → Walk m seen n q i cs t → Walk m seen n q i cs u → t ≡ u
same_walk (ended {n = n} {i = i} new is) (ended new' is') = ap (λ x. record { pattern = x; end = i; notes = n }) (same_end is is')
same_walk (ended new is) (took r j new' is' w') = absurd (ends_not_reads is is')
same_walk (went {k = k} rs r new is at w) (went rs' r' new' is' at' w') = same_walk w (from_node (one_of_open rs' rs k is' is at' at) w')
same_walk (went rs r new is at w) (took r' j new' is' w') = absurd (goes_not_reads is is')
same_walk (took r j new is w) (ended new' is') = absurd (ends_not_reads is' is)
same_walk (took r j new is w) (went rs r' new' is' at' w') = absurd (goes_not_reads is' is)
same_walk (took r j new is w) (took r' j' new' is' w') = let one = same_read is' is in same_walk w (from_node one.0 (from_place one.1 w'))

-- the least walk of a node
pub least_ended : {Q N : Type 0} {m : Machine Q N} {seen : List Q} {n : N} {q : Q} {i p : ℕ} → IsNew seen q → m.move i q ≡ ends p → IsLeast m seen n q i (record { pattern = p; end = i; notes = n })
least_ended {m = m} {seen = seen} {n = n} {q = q} {i = i} new is = record { choices = []; walk = ended new is; least = only }
  where
    only : (ds : List ℕ) (u : Outcome _) → Walk m seen n q i ds u → (ds ≡ []) ⊎ Before [] ds
    only ds u (ended new' is') = inl refl
    only ds u (went rs r new' is' at w) = absurd (ends_not_goes is is')
    only ds u (took r j new' is' w) = absurd (ends_not_reads is is')

pub least_took : {Q N : Type 0} {m : Machine Q N} {seen : List Q} {n : N} {q r : Q} {i j : ℕ} {t : Outcome N} → IsNew seen q → m.move i q ≡ reads r j → IsLeast m [] n r j t → IsLeast m seen n q i t
least_took {m = m} {seen = seen} {n = n} {q = q} {r = r} {i = i} {j = j} new is one = record { choices = one.choices; walk = took r j new is one.walk; least = first }
  where
    first : (ds : List ℕ) (u : Outcome _) → Walk m seen n q i ds u → (ds ≡ one.choices) ⊎ Before one.choices ds
    first ds u (ended new' is') = absurd (ends_not_reads is' is)
    first ds u (went rs r' new' is' at w) = absurd (goes_not_reads is' is)
    first ds u (took r' j' new' is' w) = let same = same_read is' is in one.least ds u (from_node same.0 (from_place same.1 w))

pub none_took : {Q N : Type 0} {m : Machine Q N} {seen : List Q} {n : N} {q r : Q} {i j : ℕ} → m.move i q ≡ reads r j → HasNoWalk m [] n r j → HasNoWalk m seen n q i
none_took is never cs t (ended new is') = ends_not_reads is' is
none_took is never cs t (went rs r' new is' at w) = goes_not_reads is' is
none_took is never cs t (took r' j' new is' w) = let same = same_read is' is in never cs t (from_node same.0 (from_place same.1 w))

later_at : {c d : ℕ} {cs ds : List ℕ} → d ≡ c → (ds ≡ cs) ⊎ Before cs ds → (d ∷ ds ≡ c ∷ cs) ⊎ Before (c ∷ cs) (d ∷ ds)
later_at e (inl same) = inl (ap₂ (λ x y. x ∷ y) e same)
later_at e (inr b) = inr (later (sym e) b)

least_went : {Q N : Type 0} {m : Machine Q N} {seen : List Q} {n : N} {q r : Q} {i k : ℕ} {t : Outcome N} (rs : List Q) → IsNew seen q → m.move i q ≡ goes rs → slice_get rs k ≡ Some r
    → IsLeast m (q ∷ seen) (m.note i q n) r i t → ((d : ℕ) (s : Q) → d < k → slice_get rs d ≡ Some s → HasNoWalk m (q ∷ seen) (m.note i q n) s i) → IsLeast m seen n q i t
least_went {Q = Q} {m = m} {seen = seen} {n = n} {q = q} {r = r} {i = i} {k = k} rs new is at one before = record { choices = k ∷ one.choices; walk = went rs r new is at one.walk; least = first }
  where
    chosen : (d : ℕ) (ds : List ℕ) (u : Outcome _) (s : Q) → slice_get rs d ≡ Some s → Walk m (q ∷ seen) (m.note i q n) s i ds u → (d ∷ ds ≡ k ∷ one.choices) ⊎ Before (k ∷ one.choices) (d ∷ ds)
    chosen d ds u s at' w = elim (cases_order d k) [
      | inl e ↦ later_at e (one.least ds u (from_node (same_some at' (subst (λ x. slice_get rs x ≡ Some r) (sym e) at)) w))
      | inr (inl below) ↦ absurd (before d s below at' ds u w)
      | inr (inr above) ↦ inr (here above)
    ]

    first : (ds : List ℕ) (u : Outcome _) → Walk m seen n q i ds u → (ds ≡ k ∷ one.choices) ⊎ Before (k ∷ one.choices) ds
    first ds u (ended new' is') = absurd (ends_not_goes is' is)
    first ds u (went {k = d} {cs = ds'} rs' s new' is' at' w) = chosen d ds' u s (subst (λ x. slice_get x d ≡ Some s) (same_open is' is) at') w
    first ds u (took r' j' new' is' w) = absurd (goes_not_reads is is')

pub none_went : {Q N : Type 0} {m : Machine Q N} {seen : List Q} {n : N} {q : Q} {i : ℕ} (rs : List Q) → m.move i q ≡ goes rs
    → ((d : ℕ) (s : Q) → slice_get rs d ≡ Some s → HasNoWalk m (q ∷ seen) (m.note i q n) s i) → HasNoWalk m seen n q i
none_went rs is never cs t (ended new is') = ends_not_goes is' is
none_went rs is never cs t (went {k = d} {cs = ds} rs' s new is' at w) = never d s (subst (λ x. slice_get x d ≡ Some s) (same_open is' is) at) ds t w
none_went rs is never cs t (took r' j' new is' w) = goes_not_reads is is'

-- the best of threads, without a node from which no walk continues
pub unseen : {Q N : Type 0} {m : Machine Q N} {seen : List Q} {q : Q} {i : ℕ} {threads : List (N × Q)} {out : Option (Outcome N)} → ((n : N) → HasNoWalk m seen n q i)
    → Best m (q ∷ seen) i threads out → Best m seen i threads out
unseen never none = none
unseen {seen = seen} {q = q} never (hit one) = hit (record {
  choices = one.choices;
  walk = forget one.walk;
  least = λ ds u w. one.least ds u (narrower (q ∷ seen) q (λ x c. Contains-cases seen q x c) never w);
})
unseen {seen = seen} {q = q} never (miss never' best) = miss (λ cs t w. never' cs t (narrower (q ∷ seen) q (λ x c. Contains-cases seen q x c) never w)) (unseen never best)

-- the best of a node's targets and other threads
pub data Chosen {Q N : Type 0} (m : Machine Q N) (seen : List Q) (n : N) (i : ℕ) (rs : List Q) (others : List (N × Q)) : Option (Outcome N) → Type 0 where
  past : {out : Option (Outcome N)} → ((d : ℕ) (s : Q) → slice_get rs d ≡ Some s → HasNoWalk m seen n s i) → Best m seen i others out → Chosen m seen n i rs others out
  among : {t : Outcome N} (k : ℕ) (r : Q) → slice_get rs k ≡ Some r → IsLeast m seen n r i t → ((d : ℕ) (s : Q) → d < k → slice_get rs d ≡ Some s → HasNoWalk m seen n s i) → Chosen m seen n i rs others (Some t)

never_from : {Q N : Type 0} {m : Machine Q N} {seen : List Q} {n : N} {i : ℕ} {r s : Q} → HasNoWalk m seen n r i → r ≡ s → HasNoWalk m seen n s i
never_from never e cs t w = never cs t (from_node (sym e) w)

never_among : {Q N : Type 0} {m : Machine Q N} {seen : List Q} {n : N} {i : ℕ} (r : Q) (rs : List Q) → HasNoWalk m seen n r i → ((d : ℕ) (s : Q) → slice_get rs d ≡ Some s → HasNoWalk m seen n s i)
    → (d : ℕ) (s : Q) → slice_get (r ∷ rs) d ≡ Some s → HasNoWalk m seen n s i
never_among r rs never all zero s at = never_from never (same_some refl at)
never_among r rs never all (suc d) s at = all d s at

never_before : {Q N : Type 0} {m : Machine Q N} {seen : List Q} {n : N} {i : ℕ} (r : Q) (rs : List Q) (k : ℕ) → HasNoWalk m seen n r i
    → ((d : ℕ) (s : Q) → d < k → slice_get rs d ≡ Some s → HasNoWalk m seen n s i) → (d : ℕ) (s : Q) → d < suc k → slice_get (r ∷ rs) d ≡ Some s → HasNoWalk m seen n s i
never_before r rs k never all zero s below at = never_from never (same_some refl at)
never_before r rs k never all (suc d) s below at = all d s (omega (arith, below)) at

further : {Q N : Type 0} {m : Machine Q N} {seen : List Q} {n : N} {i : ℕ} {r : Q} {rs : List Q} {others : List (N × Q)} {out : Option (Outcome N)} → HasNoWalk m seen n r i
    → Chosen m seen n i rs others out → Chosen m seen n i (r ∷ rs) others out
further {r = r} {rs = rs} never (past all best) = past (never_among r rs never all) best
further {r = r} {rs = rs} never (among k s at one before) = among (suc k) s at one (never_before r rs k never before)

pub chosen : {Q N : Type 0} {m : Machine Q N} {seen : List Q} {i : ℕ} {out : Option (Outcome N)} (n : N) (rs : List Q) (others : List (N × Q))
    → Best m seen i (map (λ r. (n, r)) rs ++ others) out → Chosen m seen n i rs others out
chosen n [] others best = past (λ d s at. absurd (cc at)) best
chosen n (r ∷ rs) others (hit one) = among 0 r refl one (λ d s below. absurd (omega (arith, below)))
chosen n (r ∷ rs) others (miss never best) = further never (chosen n rs others best)

pub opened_best : {Q N : Type 0} {m : Machine Q N} {seen : List Q} {n : N} {q : Q} {i : ℕ} {others : List (N × Q)} {out : Option (Outcome N)} (rs : List Q) → IsNew seen q → m.move i q ≡ goes rs
    → Chosen m (q ∷ seen) (m.note i q n) i rs others out → Best m seen i ((n, q) ∷ others) out
opened_best rs new is (past all best) = let never = none_went rs is all in miss never (unseen (none_renoted never) best)
opened_best rs new is (among k r at one before) = hit (least_went rs new is at one before)

-- one step keeps the best walk
pub step_keeps : {Q N : Type 0} {m : Machine Q N} {i : ℕ} {seen : List Q} {threads next : List (N × Q)} {met' res : Option (Outcome N)} → Steps m i seen threads next met'
    → Best m [] (i + 1) next res → Best m seen i threads (either res met')
step_keeps done none = none
step_keeps (passed c steps) best = miss (none_when_seen c) (step_keeps steps best)
step_keeps (met new is) none = hit (least_ended new is)
step_keeps {m = m} {i = i} (opened {n = n} {q = q} {others = others} rs new is steps) best = opened_best rs new is (chosen (m.note i q n) rs others (step_keeps steps best))
step_keeps (read r new is steps) (hit one) = hit (least_took new is one)
step_keeps (read r new is steps) (miss never best) = let never' = none_took is never in miss never' (unseen (none_renoted never') (step_keeps steps best))

-- thinned threads have the same best
thinner : {Q N : Type 0} {m : Machine Q N} {i : ℕ} {gone : List Q} {xs ys : List (N × Q)} {out : Option (Outcome N)} (seen : List Q) → ((x : Q) → Contains gone x → (n : N) → HasNoWalk m seen n x i) → Thins gone xs ys
    → Best m seen i ys out → Best m seen i xs out
thinner seen never thin_end none = none
thinner seen never (kept thins) (hit one) = hit one
thinner {Q = Q} {N = N} {m = m} {i = i} seen never (kept {seen = gone} {n = n} {q = q} thins) (miss never' best) = miss never' (thinner seen all thins best)
  where
    all : (x : Q) → Contains (q ∷ gone) x → (n : N) → HasNoWalk m seen n x i
    all x c n' = elim (Contains-cases gone q x c) [ inl e ↦ subst (λ y. HasNoWalk m seen n' y i) e (none_renoted never' n') | inr c' ↦ never x c' n' ]
thinner seen never (left_out {n = n} {q = q} c thins) best = miss (never q c n) (thinner seen never thins best)

pub thinned_best : {Q N : Type 0} {m : Machine Q N} {seen : List Q} {i : ℕ} {xs ys : List (N × Q)} {out : Option (Outcome N)} → Thins [] xs ys → Best m seen i ys out → Best m seen i xs out
thinned_best {seen = seen} thins best = thinner seen (λ x c. absurd (none_seen x c)) thins best

pub thins_none : {Q N : Type 0} (seen : List Q) (xs : List (N × Q)) → Thins seen xs xs
thins_none seen [] = thin_end
thins_none seen ((n, q) ∷ xs) = kept (thins_none (q ∷ seen) xs)
