-- Following threads finds something or nothing, and something from every leading node.
use Rattle.std.proofs.Common.{◌≡◌, ℕ, zero, suc, ◌+◌, ◌<◌, ◌≤◌, List, [], ◌∷◌, ◌++◌, map, length, Option, Some, None, Contains, refl, subst, arith, inl, inr}
use Rattle.rx_walks.specs.Machines.{Move, ends, goes, reads, Machine, Outcome, IsForward}
use Rattle.rx_walks.specs.Walks.{IsNew, IsLeast, HasNoWalk}
use Rattle.rx_walks.specs.Steps.{Best, miss}
use Rattle.rx_walks.specs.Laws.{IsDecidable}
use Rattle.rx_walks.proofs.WalkLaws.{none_went, Contains-head, Contains-tail}
use Rattle.rx_walks.proofs.FindLaws.{least_same}
use Rattle.rx_walks.proofs.ExistLaws.{LeastOrNone, least_or_none, IsKnown, contained, without}
use Rattle.rx_walks.specs.Leading.{LeadsToMatch, Follows, nothing, entered, leads_not, matched, opened, read}
use Rattle.rx_walks.specs.LeadLaws.{FollowsLeast, IsFinite}
use Rattle.rx_walks.proofs.FollowLaws.{walk_leads_to, leads_walk, followed_best, followed_is_least}

-- ---- whether a node leads is decidable

pub known_by_least : {Q N : Type 0} {m : Machine Q N} {n : N} {q : Q} {i : ℕ} → IsDecidable Q → LeastOrNone m [] n q i → IsKnown (LeadsToMatch m q i)
known_by_least told (inl one) = inl (walk_leads_to one.1.walk)
known_by_least told (inr never) = inr (λ leads. leads_walk told leads never)

module _ {Q N : Type 0} (m : Machine Q N) (told : IsDecidable Q) (forward : IsForward m) (finite : IsFinite m) where
  pub least_known : (n : N) (q : Q) (i : ℕ) → LeastOrNone m [] n q i
  least_known n q i = least_or_none m told forward finite.high finite.nodes finite.still_or_there (suc finite.high) i (omega arith) n q

  pub leads_known : N → (q : Q) (i : ℕ) → IsKnown (LeadsToMatch m q i)
  leads_known n q i = known_by_least told (least_known n q i)

  -- a leading node has a move
  leads_there : {q : Q} {i : ℕ} → N → LeadsToMatch m q i → Contains finite.nodes q × (i ≤ finite.high)
  leads_there {q = q} {i = i} n leads = elim (finite.still_or_there i q) [
    | inl still ↦ absurd (leads_walk {n = n} told leads (none_went [] still (λ d s at. absurd (cc at))))
    | inr there ↦ (there.1, there.0)
  ]

  abbrev Answer : ℕ → List Q → List (N × Q) → Type 0
  Answer i seen threads = (out : Option (Outcome N)) × Follows m i seen threads out

  module _ (i : ℕ) (on : (j : ℕ) → i < j → (n : N) (q : Q) → Answer j [] ((n, q) ∷ [])) where
    -- if it is decided for threads without one more node
    each : (seen : List Q) → ((n : N) (q : Q) → IsNew seen q → LeadsToMatch m q i → (threads : List (N × Q)) → Answer i (q ∷ seen) threads) → (threads : List (N × Q)) → Answer i seen threads
    each seen deeper [] = (None, nothing)
    each seen deeper ((n, q) ∷ others) = elim (contained told seen q) [
      | inl c ↦ let rest = each seen deeper others in (rest.0, entered c rest.1)
      | inr new ↦ elim (leads_known n q i) [
        | inr never ↦ let rest = each seen deeper others in (rest.0, leads_not never rest.1)
        | inl leads ↦ by_move new leads (m.move i q) refl
      ]
    ]
      where
        by_move : IsNew seen q → LeadsToMatch m q i → (x : Move Q) → m.move i q ≡ x → Answer i seen ((n, q) ∷ others)
        by_move new leads (ends p) is = (Some (record { pattern = p; end = i; notes = n }), matched new is)
        by_move new leads (goes rs) is = let further = deeper n q new leads (map (λ r. (m.note i q n, r)) rs ++ others) in (further.0, opened rs new leads is further.1)
        by_move new leads (reads r j) is = let further = on j (forward i j q r is) n r in (further.0, read r new leads is further.1)

    -- `left` are the nodes that lead and weren't entered
    past : (count : ℕ) (left seen : List Q) → length left ≡ count → ((x : Q) → IsNew seen x → LeadsToMatch m x i → Contains left x) → (threads : List (N × Q)) → Answer i seen threads
    past zero left seen few covers threads = each seen (λ n q new leads others. absurd (omega (arith, few, (covers q new leads).1))) threads
    past (suc count) left seen few covers threads = each seen
        (λ n q new leads others. let less = without left q (covers q new leads) in past count less.rest (q ∷ seen) (omega (arith, few, less.shorter))
        (λ x new' leads'. elim (less.kept x (covers x (λ d. new' (Contains-tail seen q x d)) leads')) [ inl e ↦ absurd (new' (Contains-head seen q x e)) | inr d ↦ d ])
        others)
        threads

  answers_from : (places i : ℕ) → finite.high < i + places → (n : N) (q : Q) → Answer i [] ((n, q) ∷ [])
  answers_from zero i above n q = elim (leads_known n q i) [
    | inl leads ↦ absurd (omega (arith, above, (leads_there n leads).1))
    | inr never ↦ (None, leads_not never nothing)
  ]
  answers_from (suc places) i above n q = past i
      (λ j further. answers_from places j (omega (arith, above, further)))
      (length finite.nodes) finite.nodes [] refl (λ x new leads. (leads_there n leads).0) ((n, q) ∷ [])

  pub answers : (n : N) (q : Q) (i : ℕ) → Answer i [] ((n, q) ∷ [])
  answers n q i = answers_from (suc finite.high) i (omega arith) n q

  best_none : {seen : List Q} {n : N} {q : Q} {i : ℕ} → Best m seen i ((n, q) ∷ []) None → HasNoWalk m seen n q i
  best_none (miss never best) = never

  pub follows_least : (n : N) (q : Q) (i : ℕ) → FollowsLeast m n q i
  follows_least n q i = record {
    least = λ t. ((λ follows. followed_is_least told follows), (λ one. to_least t one (answers n q i).0 (answers n q i).1));
    leads_not = (
      (λ follows leads. leads_walk told leads (best_none (followed_best told follows))),
      (λ never. leads_not never nothing),
    );
  }
    where
      to_least : (t : Outcome N) → IsLeast m [] n q i t → (out : Option (Outcome N)) → Follows m i [] ((n, q) ∷ []) out → Follows m i [] ((n, q) ∷ []) (Some t)
      to_least t one None follows = absurd (best_none (followed_best told follows) one.choices t one.walk)
      to_least t one (Some u) follows = subst (λ x. Follows m i [] ((n, q) ∷ []) (Some x)) (least_same (followed_is_least told follows) one) follows
