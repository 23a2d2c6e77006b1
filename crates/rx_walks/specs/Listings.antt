-- All matches, found with leading nodes.
use Rattle.std.specs.Prelude.{◌≡◌, ℕ, ◌+◌, ◌≤◌, Bool, true, false, IsTrue, List, [], ◌∷◌, Some}
use Rattle.rx_walks.specs.Machines.{Machine, Outcome}
use Rattle.rx_walks.specs.Leading.{LeadsToMatch, Follows}

-- The matches from an offset on, of the find that began at `from`; `after` is set if a match ended
-- there. A start counts if a match may begin there and the node leads; an empty match where one
-- ended is skipped.
pub data Listing {Q N : Type 0} (m : Machine Q N) (begins : ℕ → ℕ → Type 0) (fresh : ℕ → N)
    (q : Q) : Bool → ℕ → ℕ → List (Outcome N) → Type 0 where
  over : {after : Bool} {from i : ℕ} → ((j : ℕ) → i ≤ j → begins from j → LeadsToMatch m q j → ⊥)
      → Listing m begins fresh q after from i []
  no_start : {after : Bool} {from i : ℕ} {ms : List (Outcome N)} → (begins from i → LeadsToMatch m q i → ⊥)
      → Listing m begins fresh q after from (i + 1) ms → Listing m begins fresh q after from i ms
  passed_over : {i : ℕ} {t : Outcome N} {ms : List (Outcome N)} → begins i i
      → Follows m i [] ((fresh i, q) ∷ []) (Some t) → t.end ≡ i
      → Listing m begins fresh q false (i + 1) (i + 1) ms → Listing m begins fresh q true i i ms
  listed : {after : Bool} {from i : ℕ} {t : Outcome N} {ms : List (Outcome N)} → begins from i
      → Follows m i [] ((fresh i, q) ∷ []) (Some t)
      → (IsTrue after → i ≡ from → t.end ≡ i → ⊥)
      → Listing m begins fresh q true t.end t.end ms
      → Listing m begins fresh q after from i (t ∷ ms)
