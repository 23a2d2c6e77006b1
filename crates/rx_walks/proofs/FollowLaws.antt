-- The walk followed over leading nodes is the best of the threads, and there is one from every
-- leading node.
use Rattle.std.proofs.Common.{◌≡◌, ℕ, List, [], ◌∷◌, Option, Some, subst}
use Rattle.rx_walks.specs.Machines.{reads, Machine, Outcome}
use Rattle.rx_walks.specs.Walks.{IsNew, Walk, IsLeast, HasNoWalk}
use Rattle.rx_walks.specs.Paths.{Path, at_end, by_edge, by_read}
use Rattle.rx_walks.specs.Steps.{Best, none, hit, miss}
use Rattle.rx_walks.specs.Laws.{IsDecidable}
use Rattle.rx_walks.proofs.WalkLaws.{none_when_seen, least_ended, least_took, chosen, opened_best, ends_not_reads, goes_not_reads, same_read}
use Rattle.rx_walks.proofs.PathLaws.{path_has_walk, walk_has_path}
use Rattle.rx_walks.specs.Leading.{LeadsToMatch, Follows, nothing, entered, leads_not, matched, opened, read}

-- a node leads exactly if it has a walk
pub walk_leads_to : {Q N : Type 0} {m : Machine Q N} {seen : List Q} {n : N} {q : Q} {i : ℕ} {cs : List ℕ} {t : Outcome N} → Walk m seen n q i cs t → LeadsToMatch m q i
walk_leads_to {t = t} w = record { pattern = t.pattern; end = t.end; path = walk_has_path w }

pub walk_leads : {Q N : Type 0} {m : Machine Q N} {seen : List Q} {n : N} {q : Q} {i : ℕ} → (LeadsToMatch m q i → ⊥) → HasNoWalk m seen n q i
walk_leads never cs t w = never (walk_leads_to w)

pub leads_walk : {Q N : Type 0} {m : Machine Q N} {n : N} {q : Q} {i : ℕ} → IsDecidable Q → LeadsToMatch m q i → HasNoWalk m [] n q i → ⊥
leads_walk {n = n} told leads never = let on = path_has_walk told leads.path n in never on.choices on.outcome on.walk

path_on : {Q N : Type 0} {m : Machine Q N} {q r : Q} {i j p e : ℕ} → m.move i q ≡ reads r j → Path m q i p e → Path m r j p e
path_on is (at_end is') = absurd (ends_not_reads is' is)
path_on is (by_edge rs r' k is' at path) = absurd (goes_not_reads is' is)
path_on {m = m} {j = j} {p = p} {e = e} is (by_read r' j' is' path) = let one = same_read is' is in subst (λ x. Path m x j p e) one.0 (subst (λ x. Path m r' x p e) one.1 path)

-- then the node after a read leads, too
pub leads_on : {Q N : Type 0} {m : Machine Q N} {q r : Q} {i j : ℕ} → m.move i q ≡ reads r j → LeadsToMatch m q i → LeadsToMatch m r j
leads_on is leads = record { pattern = leads.pattern; end = leads.end; path = path_on is leads.path }

-- the walk of a thread that leads
read_best : {Q N : Type 0} {m : Machine Q N} {seen : List Q} {n : N} {q r : Q} {i j : ℕ} {others : List (N × Q)} {out : Option (Outcome N)} → IsDecidable Q → IsNew seen q → LeadsToMatch m q i → m.move i q ≡ reads r j
    → Best m [] j ((n, r) ∷ []) out → Best m seen i ((n, q) ∷ others) out
read_best told new leads is (hit one) = hit (least_took new is one)
read_best told new leads is (miss never best) = absurd (leads_walk told (leads_on is leads) never)

pub followed_best : {Q N : Type 0} {m : Machine Q N} {i : ℕ} {seen : List Q} {threads : List (N × Q)} {out : Option (Outcome N)} → IsDecidable Q → Follows m i seen threads out → Best m seen i threads out
followed_best told nothing = none
followed_best told (entered c follows) = miss (none_when_seen c) (followed_best told follows)
followed_best told (leads_not never follows) = miss (walk_leads never) (followed_best told follows)
followed_best told (matched new is) = hit (least_ended new is)
followed_best {m = m} {i = i} told (opened {n = n} {q = q} {others = others} rs new leads is follows) = opened_best rs new is (chosen (m.note i q n) rs others (followed_best told follows))
followed_best told (read r new leads is follows) = read_best told new leads is (followed_best told follows)

best_is_least : {Q N : Type 0} {m : Machine Q N} {seen : List Q} {n : N} {q : Q} {i : ℕ} {t : Outcome N} → Best m seen i ((n, q) ∷ []) (Some t) → IsLeast m seen n q i t
best_is_least (hit one) = one
best_is_least (miss never best) = elim best [ ]

pub followed_is_least : {Q N : Type 0} {m : Machine Q N} {n : N} {q : Q} {i : ℕ} {t : Outcome N} → IsDecidable Q → Follows m i [] ((n, q) ∷ []) (Some t) → IsLeast m [] n q i t
followed_is_least told follows = best_is_least (followed_best told follows)
