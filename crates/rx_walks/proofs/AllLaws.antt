-- One step for all matches keeps every match end, with the least start.
use Rattle.std.proofs.Common.{◌≡◌, ℕ, zero, suc, ◌+◌, ◌≤◌, ◌⊎◌, List, [], ◌∷◌, ◌++◌, map, Some, slice_get, refl, subst, ◌∙◌, arith, inl, inr}
use Rattle.rx_walks.specs.Machines.{ends, goes, reads, Machine, Outcome}
use Rattle.rx_walks.specs.Walks.{Walk, ended, went, took, Reaches}
use Rattle.rx_walks.specs.Paths.{Path, at_end, by_edge, by_read}
use Rattle.rx_walks.specs.StepsAll.{StepsAll, done, passed, met, opened, read, StartsRise, no_more, one_more, Met, met_first, met_other}
use Rattle.rx_walks.proofs.WalkLaws.{ends_not_goes, ends_not_reads, goes_not_reads, same_end, same_open, same_read, same_some, from_node, from_place, none_when_seen}
use Rattle.rx_walks.proofs.PathLaws.{passes_or}

-- what a node's move determines about what it reaches
walk_to_end : {Q N : Type 0} {m : Machine Q N} {seen : List Q} {n : N} {q : Q} {i p : ℕ} {cs : List ℕ} {t : Outcome N} → m.move i q ≡ ends p → Walk m seen n q i cs t → (p ≡ t.pattern) × (i ≡ t.end)
walk_to_end is (ended new is') = (same_end is is', refl)
walk_to_end is (went rs r new is' at w) = absurd (ends_not_goes is is')
walk_to_end is (took r j new is' w) = absurd (ends_not_reads is is')

walk_open : {Q N : Type 0} {m : Machine Q N} {seen : List Q} {n : N} {q : Q} {i : ℕ} {cs : List ℕ} {t : Outcome N} (rs : List Q) → m.move i q ≡ goes rs → Walk m seen n q i cs t
    → (k : ℕ) × (r : Q) × (slice_get rs k ≡ Some r) × Reaches m (q ∷ seen) (m.note i q n) r i t.pattern t.end
walk_open rs is (ended new is') = absurd (ends_not_goes is' is)
walk_open rs is (went {k = k} rs' r new is' at w) = (k, r, subst (λ x. slice_get x k ≡ Some r) (same_open is' is) at, record { choices = _; outcome = _; walk = w; pattern_is = refl; end_is = refl })
walk_open rs is (took r j new is' w) = absurd (goes_not_reads is is')

walk_read : {Q N : Type 0} {m : Machine Q N} {seen : List Q} {n : N} {q r : Q} {i j : ℕ} {cs : List ℕ} {t : Outcome N} → m.move i q ≡ reads r j → Walk m seen n q i cs t → Reaches m [] n r j t.pattern t.end
walk_read is (ended new is') = absurd (ends_not_reads is' is)
walk_read is (went rs r new is' at w) = absurd (goes_not_reads is' is)
walk_read is (took r' j' new is' w) = let same = same_read is' is in record { choices = _; outcome = _; walk = from_node same.0 (from_place same.1 w); pattern_is = refl; end_is = refl }

-- a thread with this start reaches this end, without the nodes seen
pub data From {Q N : Type 0} (m : Machine Q N) (seen : List Q) (i p e : ℕ) : ℕ → List (ℕ × Q) → Type 0 where
  by_first : {s : ℕ} {q : Q} {others : List (ℕ × Q)} (n : N) → Reaches m seen n q i p e → From m seen i p e s ((s, q) ∷ others)
  by_other : {s s' : ℕ} {q : Q} {others : List (ℕ × Q)} → From m seen i p e s others → From m seen i p e s ((s', q) ∷ others)

-- a start that is no later reaches this end from the next offset, or has met it
pub data Covered {Q N : Type 0} (m : Machine Q N) (i p e s : ℕ) (next : List (ℕ × Q)) (ms : List (ℕ × ℕ)) : Type 0 where
  goes_on : (s' : ℕ) → s' ≤ s → From m [] (i + 1) p e s' next → Covered m i p e s next ms
  is_met : (s' : ℕ) → s' ≤ s → i ≡ e → Met s' p ms → Covered m i p e s next ms

covered_later : {Q N : Type 0} {m : Machine Q N} {i p e s s' : ℕ} {next : List (ℕ × Q)} {ms : List (ℕ × ℕ)} → s' ≤ s → Covered m i p e s' next ms → Covered m i p e s next ms
covered_later below (goes_on s' within from) = goes_on s' (omega (arith, below, within)) from
covered_later below (is_met s' within e has) = is_met s' (omega (arith, below, within)) e has

covered_met : {Q N : Type 0} {m : Machine Q N} {i p e s s' p' : ℕ} {next : List (ℕ × Q)} {ms : List (ℕ × ℕ)} → Covered m i p e s next ms → Covered m i p e s next ((s', p') ∷ ms)
covered_met (goes_on s' within from) = goes_on s' within from
covered_met (is_met s' within e has) = is_met s' within e (met_other has)

covered_next : {Q N : Type 0} {m : Machine Q N} {i p e s s' : ℕ} {r : Q} {next : List (ℕ × Q)} {ms : List (ℕ × ℕ)} → Covered m i p e s next ms → Covered m i p e s ((s', r) ∷ next) ms
covered_next (goes_on s' within from) = goes_on s' within (by_other from)
covered_next (is_met s' within e has) = is_met s' within e has

from_above : {Q N : Type 0} {m : Machine Q N} {seen : List Q} {i p e s high low : ℕ} {threads : List (ℕ × Q)} → StartsRise high low threads → From m seen i p e s threads → low ≤ s
from_above no_more from = elim from [ ]
from_above (one_more within to rise) (by_first n reached) = within
from_above (one_more within to rise) (by_other from) = omega (arith, within, from_above rise from)

pub rise_open : {Q : Type 0} {high low s : ℕ} (rs : List Q) (others : List (ℕ × Q)) → low ≤ s → s ≤ high → StartsRise high s others → StartsRise high low (map (λ r. (s, r)) rs ++ others)
rise_open [] others within to no_more = no_more
rise_open [] others within to (one_more within' to' rise) = one_more (omega (arith, within, within')) to' rise
rise_open (r ∷ rs) others within to rise = one_more within to (rise_open rs others (omega arith) to rise)

from_open : {Q N : Type 0} {m : Machine Q N} {seen : List Q} {n : N} {i p e s : ℕ} {r : Q} (rs : List Q) (k : ℕ) (others : List (ℕ × Q)) → slice_get rs k ≡ Some r → Reaches m seen n r i p e
    → From m seen i p e s (map (λ x. (s, x)) rs ++ others)
from_open [] k others at reached = absurd (cc at)
from_open {m = m} {seen = seen} {n = n} {i = i} {p = p} {e = e} (x ∷ rs) zero others at reached = by_first n (subst (λ y. Reaches m seen n y i p e) (same_some at refl) reached)
from_open (x ∷ rs) (suc k) others at reached = by_other (from_open rs k others at reached)

from_others : {Q N : Type 0} {m : Machine Q N} {seen : List Q} {i p e s : ℕ} (s' : ℕ) (rs : List Q) (others : List (ℕ × Q)) → From m seen i p e s others → From m seen i p e s (map (λ x. (s', x)) rs ++ others)
from_others s' [] others from = from
from_others s' (x ∷ rs) others from = by_other (from_others s' rs others from)

reaches_as : {Q N : Type 0} {m : Machine Q N} {seen : List Q} {n : N} {q : Q} {i p p' e e' : ℕ} → p ≡ p' → e ≡ e' → Reaches m seen n q i p e → Reaches m seen n q i p' e'
reaches_as is is' reached = record { choices = reached.choices; outcome = reached.outcome; walk = reached.walk; pattern_is = reached.pattern_is ∙ is; end_is = reached.end_is ∙ is' }

-- a thread's walk takes one more node, or avoids it
from_past : {Q N : Type 0} {m : Machine Q N} {seen : List Q} {i p e s : ℕ} {threads : List (ℕ × Q)} (same : (a b : Q) → (a ≡ b) ⊎ (a ≡ b → ⊥)) (q : Q) → From m seen i p e s threads
    → From m (q ∷ seen) i p e s threads ⊎ ((n : N) × Reaches m seen n q i p e)
from_past same q (by_first n reached) = elim (passes_or same q reached.walk) [
  | inl w ↦ inl (by_first n (record { choices = reached.choices; outcome = reached.outcome; walk = w; pattern_is = reached.pattern_is; end_is = reached.end_is }))
  | inr back ↦ inr (n, reaches_as reached.pattern_is reached.end_is (back n))
]
from_past same q (by_other from) = elim (from_past same q from) [ inl f ↦ inl (by_other f) | inr back ↦ inr back ]

step_covered : {Q N : Type 0} {m : Machine Q N} {i : ℕ} {seen : List Q} {p e s high s' : ℕ} {q : Q} {others next : List (ℕ × Q)} {ms : List (ℕ × ℕ)} → ((a b : Q) → (a ≡ b) ⊎ (a ≡ b → ⊥)) → StartsRise high s' others
    → ((n : N) → Reaches m seen n q i p e → Covered m i p e s' next ms) → ((s : ℕ) → From m (q ∷ seen) i p e s others → Covered m i p e s next ms) → From m seen i p e s ((s', q) ∷ others) → Covered m i p e s next ms
step_covered same rise first rest (by_first n reached) = first n reached
step_covered {s = s} {q = q} same rise first rest (by_other from) = elim (from_past same q from) [
  | inl f ↦ rest s f
  | inr back ↦ covered_later (from_above rise from) (first back.0 back.1)
]

pub all_covered : {Q N : Type 0} {m : Machine Q N} {i : ℕ} {seen : List Q} {high low : ℕ} {threads next : List (ℕ × Q)} {ms : List (ℕ × ℕ)} → ((a b : Q) → (a ≡ b) ⊎ (a ≡ b → ⊥)) → StepsAll m i seen threads next ms
    → StartsRise high low threads → (p e s : ℕ) → From m seen i p e s threads → Covered m i p e s next ms
all_covered same done rise p e s from = elim from [ ]
all_covered same (passed c steps) (one_more within to rise) p e s (by_first n reached) = absurd (none_when_seen c reached.choices reached.outcome reached.walk)
all_covered same (passed c steps) (one_more within to rise) p e s (by_other from) = all_covered same steps rise p e s from
all_covered same (met {s = s'} new is steps) (one_more within to rise) p e s from = step_covered same rise
    (λ n reached. let at = walk_to_end is reached.walk in is_met s' (omega arith) (at.1 ∙ reached.end_is) (met_first refl (at.0 ∙ reached.pattern_is)))
    (λ s f. covered_met (all_covered same steps rise p e s f)) from
all_covered same (opened {s = s'} {others = others} rs new is steps) (one_more within to rise) p e s from =
    let on : (s : ℕ) → From _ _ _ p e s _ → Covered _ _ p e s _ _ = λ s f. all_covered same steps (rise_open rs others within to rise) p e s f in
    step_covered same rise
    (λ n reached. let one = walk_open rs is reached.walk in on s' (from_open rs one.0 others one.2 (reaches_as reached.pattern_is reached.end_is one.3)))
    (λ s f. on s (from_others s' rs others f)) from
all_covered same (read {s = s'} r new is steps) (one_more within to rise) p e s from = step_covered same rise
    (λ n reached. goes_on s' (omega arith) (by_first n (reaches_as reached.pattern_is reached.end_is (walk_read is reached.walk))))
    (λ s f. covered_next (all_covered same steps rise p e s f)) from

-- and there are no others
pub data Has {Q N : Type 0} (m : Machine Q N) (i p e s : ℕ) : List (ℕ × Q) → Type 0 where
  has_first : {s' : ℕ} {q : Q} {others : List (ℕ × Q)} → s' ≡ s → Path m q i p e → Has m i p e s ((s', q) ∷ others)
  has_other : {s' : ℕ} {q : Q} {others : List (ℕ × Q)} → Has m i p e s others → Has m i p e s ((s', q) ∷ others)

has_open : {Q N : Type 0} {m : Machine Q N} {q : Q} {i p e s s' : ℕ} (rs ss : List Q) (others : List (ℕ × Q)) → m.move i q ≡ goes ss → ((r : Q) (k : ℕ) → slice_get rs k ≡ Some r → (d : ℕ) × (slice_get ss d ≡ Some r))
    → Has m i p e s (map (λ r. (s', r)) rs ++ others) → Has m i p e s ((s', q) ∷ others)
has_open [] ss others is within has = has_other has
has_open (r ∷ rs) ss others is within (has_first same path) = let one = within r 0 refl in has_first same (by_edge ss r one.0 is one.1 path)
has_open (r ∷ rs) ss others is within (has_other has) = has_open rs ss others is (λ x k at. within x (suc k) at) has

pub next_has : {Q N : Type 0} {m : Machine Q N} {i : ℕ} {seen : List Q} {threads next : List (ℕ × Q)} {ms : List (ℕ × ℕ)} → StepsAll m i seen threads next ms → (p e s : ℕ) → Has m (i + 1) p e s next → Has m i p e s threads
next_has done p e s has = elim has [ ]
next_has (passed c steps) p e s has = has_other (next_has steps p e s has)
next_has (met new is steps) p e s has = has_other (next_has steps p e s has)
next_has (opened {others = others} rs new is steps) p e s has = has_open rs rs others is (λ r k at. (k, at)) (next_has steps p e s has)
next_has {i = i} (read r new is steps) p e s (has_first same path) = has_first same (by_read r (i + 1) is path)
next_has (read r new is steps) p e s (has_other has) = has_other (next_has steps p e s has)

pub met_has : {Q N : Type 0} {m : Machine Q N} {i : ℕ} {seen : List Q} {threads next : List (ℕ × Q)} {ms : List (ℕ × ℕ)} → StepsAll m i seen threads next ms → (p s : ℕ) → Met s p ms → Has m i p i s threads
met_has done p s has = elim has [ ]
met_has (passed c steps) p s has = has_other (met_has steps p s has)
met_has {m = m} {i = i} (met {q = q} new is steps) p s (met_first same same') = has_first same (subst (λ x. Path m q i x i) same' (at_end is))
met_has (met new is steps) p s (met_other has) = has_other (met_has steps p s has)
met_has (opened {others = others} rs new is steps) p s has = has_open rs rs others is (λ r k at. (k, at)) (met_has steps p s has)
met_has (read r new is steps) p s has = has_other (met_has steps p s has)
