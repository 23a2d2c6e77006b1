-- The search loop finds what a search finds, and there is one result.
use Rattle.std.proofs.Common.{◌≡◌, ℕ, ◌+◌, ◌⊎◌, List, ◌∷◌, Option, Some, None, refl, sym, ap, ap₂, subst, ◌∙◌, arith, inl, inr}
use Rattle.std.proofs.lemmas.Bool.{cases_order}
use Rattle.std.specs.Str.{IsCharBoundary}
use Rattle.rx_walks.specs.Machines.{reads, Machine, Outcome}
use Rattle.rx_walks.specs.Walks.{Walk, ended, went, took, Before, here, later, IsLeast}
use Rattle.rx_walks.specs.Finds.{Search, Counts, IsFind, not_found, is_found}
use Rattle.rx_walks.specs.Matches.{RepeatedFinds, Next, no_more, at_once, moved, Further, last, one_more, Matches, no_match, first}
use Rattle.rx_walks.specs.Steps.{FindsFrom, nowhere, found}
use Rattle.rx_walks.specs.Laws.{MayBegin}
use Rattle.rx_walks.proofs.WalkLaws.{same_walk, same_some}

-- one least walk
not_both : {cs ds : List ℕ} → Before cs ds → Before ds cs → ⊥
not_both (here below) (here below') = omega (arith, below, below')
not_both (here below) (later e b) = omega (arith, below, e)
not_both (later e b) (here below) = omega (arith, below, e)
not_both (later e b) (later e' b') = not_both b b'

pub least_same : {Q N : Type 0} {m : Machine Q N} {seen : List Q} {n : N} {q : Q} {i : ℕ} {t u : Outcome N} → IsLeast m seen n q i t → IsLeast m seen n q i u → t ≡ u
least_same {m = m} {seen = seen} {n = n} {q = q} {i = i} {t = t} {u = u} one other = elim (one.least other.choices u other.walk) [
  | inl e ↦ same_walk one.walk (subst (λ cs. Walk m seen n q i cs u) e other.walk)
  | inr b ↦ elim (other.least one.choices t one.walk) [
    | inl e ↦ same_walk (subst (λ cs. Walk m seen n q i cs t) e one.walk) other.walk
    | inr b' ↦ absurd (not_both b b')
  ]
]

-- a walk that ends elsewhere has read at its start
pub has_read : {Q N : Type 0} {m : Machine Q N} {seen : List Q} {n : N} {q : Q} {i : ℕ} {cs : List ℕ} {t : Outcome N}
    → (content : List ℕ) → ((i j : ℕ) (q r : Q) → m.move i q ≡ reads r j → IsCharBoundary content i) → Walk m seen n q i cs t → (t.end ≡ i) ⊎ IsCharBoundary content i
has_read content at_whole (ended new is) = inl refl
has_read content at_whole (went rs r new is at w) = has_read content at_whole w
has_read content at_whole (took {q = q} {i = i} r j new is w) = inr (at_whole i j q r is)

pub begins : {Q N : Type 0} {m : Machine Q N} {fresh : ℕ → N} {s : Search} {q : Q} {i : ℕ} {t : Outcome N} → ((i j : ℕ) (q r : Q) → m.move i q ≡ reads r j → IsCharBoundary s.content i) → Counts m fresh s q i t
    → MayBegin s i
begins {s = s} {i = i} {t = t} at_whole counts = (
  counts.possible,
  λ on. elim counts.may_end [
    | inl elsewhere ↦ elim (has_read s.content at_whole counts.least.walk) [ inl e ↦ absurd (elsewhere e) | inr whole ↦ whole ]
    | inr whole ↦ whole on
  ],
)

pub find_from_finds : {Q N : Type 0} {m : Machine Q N} {fresh : ℕ → N} {s : Search} {q : Q} {out : Option (Outcome N)} → ((i j : ℕ) (q r : Q) → m.move i q ≡ reads r j → IsCharBoundary s.content i)
    → FindsFrom m (MayBegin s) fresh q s.start out → IsFind m fresh s q out
find_from_finds {s = s} at_whole (nowhere never) = not_found (λ i t counts. never i counts.possible.0.2 (begins at_whole counts) counts.least.choices t counts.least.walk)
find_from_finds {s = s} at_whole (found j from b one before) = is_found
    (record { possible = b.0; least = one; may_end = inr b.1 })
    (λ k u below counts. before k counts.possible.0.2 below (begins at_whole counts) counts.least.choices u counts.least.walk)

-- one find
pub find_unique : {Q N : Type 0} {m : Machine Q N} {fresh : ℕ → N} {s : Search} {q : Q} {out out' : Option (Outcome N)} → IsFind m fresh s q out → IsFind m fresh s q out' → out ≡ out'
find_unique (not_found never) (not_found never') = refl
find_unique (not_found never) (is_found {i = i} {t = t} counts before) = absurd (never i t counts)
find_unique (is_found {i = i} {t = t} counts before) (not_found never) = absurd (never i t counts)
find_unique {m = m} {fresh = fresh} {s = s} {q = q} (is_found {i = i} {t = t} counts before) (is_found {i = j} {t = u} counts' before') = elim (cases_order i j) [
  | inl e ↦ ap Some (least_same (subst (λ x. Counts m fresh s q x t) e counts).least counts'.least)
  | inr (inl below) ↦ absurd (before' i t below counts)
  | inr (inr above) ↦ absurd (before j u above counts')
]

-- one list of matches
abbrev IsOne : {A : Type 0} → (ℕ → Option A → Type 0) → Type 0
IsOne {A} find = (i : ℕ) (out out' : Option A) → find i out → find i out' → out ≡ out'

not_moved : {A : Type 0} (start_of end_of : A → ℕ) {e : ℕ} {a b : A} → Some a ≡ Some b → (start_of a ≡ e → end_of a ≡ e → ⊥) → start_of b ≡ e → end_of b ≡ e → ⊥
not_moved start_of end_of same not is is' = let one = same_some refl same in not (ap start_of one ∙ is) (ap end_of one ∙ is')

pub next_unique : {A : Type 0} {finds : RepeatedFinds A} {e : ℕ} {out out' : Option A} → IsOne finds.find → Next finds e out → Next finds e out' → out ≡ out'
next_unique one (no_more f) (no_more f') = refl
next_unique {e = e} one (no_more f) (at_once {a = a} f' not) = one e None (Some a) f f'
next_unique {e = e} one (no_more f) (moved {a = a} f' is is' f'') = absurd (cc (one e None (Some a) f f'))
next_unique {e = e} one (at_once {a = a} f not) (no_more f') = one e (Some a) None f f'
next_unique {e = e} one (at_once {a = a} f not) (at_once {a = b} f' not') = one e (Some a) (Some b) f f'
next_unique {finds = finds} {e = e} one (at_once {a = a} f not) (moved {a = b} f' is is' f'') = absurd (not_moved finds.start_of finds.end_of (one e (Some a) (Some b) f f') not is is')
next_unique {e = e} one (moved {a = a} f is is' f') (no_more f'') = absurd (cc (one e (Some a) None f f''))
next_unique {finds = finds} {e = e} one (moved {a = b} f is is' f') (at_once {a = a} f'' not) = absurd (not_moved finds.start_of finds.end_of (one e (Some a) (Some b) f'' f) not is is')
next_unique {e = e} one (moved {out = out} f is is' f') (moved {out = out'} f'' is'' is''' f''') = one (e + 1) out out' f' f'''

further_unique : {A : Type 0} {finds : RepeatedFinds A} {e : ℕ} {ms ms' : List A} → IsOne finds.find → Further finds e ms → Further finds e ms' → ms ≡ ms'
further_unique one (last n) (last n') = refl
further_unique one (last n) (one_more n' others) = absurd (cc (next_unique one n n'))
further_unique one (one_more n others) (last n') = absurd (cc (next_unique one n n'))
further_unique {finds = finds} one (one_more n others) (one_more {others = xs} n' others') =
    let same = same_some refl (next_unique one n n') in
    ap₂ (λ x xs. x ∷ xs) same (further_unique one others (subst (λ x. Further finds (finds.end_of x) xs) (sym same) others'))

pub matches_unique : {A : Type 0} {finds : RepeatedFinds A} {start : ℕ} {ms ms' : List A} → IsOne finds.find → Matches finds start ms → Matches finds start ms'
    → ms ≡ ms'
matches_unique one (no_match f) (no_match f') = refl
matches_unique {start = start} one (no_match f) (first {a = a} f' others) = absurd (cc (one start None (Some a) f f'))
matches_unique {start = start} one (first {a = a} f others) (no_match f') = absurd (cc (one start (Some a) None f f'))
matches_unique {finds = finds} {start = start} one (first {a = a} f others) (first {a = b} {others = xs} f' others') =
    let same = same_some refl (one start (Some a) (Some b) f f') in
    ap₂ (λ x xs. x ∷ xs) same (further_unique one others (subst (λ x. Further finds (finds.end_of x) xs) (sym same) others'))
