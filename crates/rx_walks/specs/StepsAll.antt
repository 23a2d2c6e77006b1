-- How an engine follows all walks to the greatest end.
use Rattle.std.specs.Prelude.{◌≡◌, ℕ, ◌+◌, ◌≤◌, List, [], ◌∷◌, ◌++◌, map, Option, Some, None, Contains}
use Rattle.rx_walks.specs.Machines.{Machine, ends, goes, reads}
use Rattle.rx_walks.specs.Walks.{IsNew}
use Rattle.rx_walks.specs.Paths.{Path}
use Rattle.rx_walks.specs.Finds.{PatternMatch, IsAtLeast}

-- the best of the matches of paths from the offsets from i on at which a match may begin
pub data FindsAll {Q N : Type 0} (m : Machine Q N) (begins : ℕ → Type 0) (q : Q)
    (i : ℕ) : Option PatternMatch → Type 0 where
  nowhere : ((a : PatternMatch)
      → i ≤ a.start → begins a.start → Path m q a.start a.pattern a.end → ⊥)
      → FindsAll m begins q i None
  found : {a : PatternMatch} → i ≤ a.start → begins a.start → Path m q a.start a.pattern a.end
      →
      ((b : PatternMatch) → i ≤ b.start → begins b.start → Path m q b.start b.pattern b.end
      → IsAtLeast a b)
      → FindsAll m begins q i (Some a)

-- One step: threads, each a node with its start, give those at the next offset, and all match ends,
-- each a start and a pattern.
pub data StepsAll {Q N : Type 0} (m : Machine Q N) (i : ℕ) : List Q → List (ℕ × Q) → List (ℕ × Q)
    → List (ℕ × ℕ) → Type 0 where
  done : {seen : List Q} → StepsAll m i seen [] [] []
  passed : {seen : List Q} {s : ℕ} {q : Q} {others next : List (ℕ × Q)} {met : List (ℕ × ℕ)}
      → Contains seen q
      → StepsAll m i seen others next met → StepsAll m i seen ((s, q) ∷ others) next met
  met : {seen : List Q} {s p : ℕ} {q : Q} {others next : List (ℕ × Q)} {met : List (ℕ × ℕ)}
      → IsNew seen q
      → m.move i q ≡ ends p → StepsAll m i (q ∷ seen) others next met
      → StepsAll m i seen ((s, q) ∷ others) next ((s, p) ∷ met)
  opened : {seen : List Q} {s : ℕ} {q : Q} {others next : List (ℕ × Q)} {met : List (ℕ × ℕ)}
      (rs : List Q)
      → IsNew seen q → m.move i q ≡ goes rs
      → StepsAll m i (q ∷ seen) (map (λ r. (s, r)) rs ++ others) next met
      → StepsAll m i seen ((s, q) ∷ others) next met
  read : {seen : List Q} {s : ℕ} {q : Q} {others next : List (ℕ × Q)} {met : List (ℕ × ℕ)} (r : Q)
      → IsNew seen q → m.move i q ≡ reads r (i + 1)
      → StepsAll m i (q ∷ seen) others next met
      → StepsAll m i seen ((s, q) ∷ others) ((s, r) ∷ next) met

-- starts that don't decrease, from low up to high
pub data StartsRise {Q : Type 0} (high : ℕ) : ℕ → List (ℕ × Q) → Type 0 where
  no_more : {low : ℕ} → StartsRise high low []
  one_more : {low s : ℕ} {q : Q} {others : List (ℕ × Q)} → low ≤ s → s ≤ high
      → StartsRise high s others
      → StartsRise high low ((s, q) ∷ others)

-- a match end with this start and pattern was met
pub data Met (s p : ℕ) : List (ℕ × ℕ) → Type 0 where
  met_first : {s' p' : ℕ} {others : List (ℕ × ℕ)} → s' ≡ s → p' ≡ p → Met s p ((s', p') ∷ others)
  met_other : {s' p' : ℕ} {others : List (ℕ × ℕ)} → Met s p others → Met s p ((s', p') ∷ others)

-- of the match ends at an offset the one with the least start, then the least pattern; without one,
-- the best match before
pub data Latest (i : ℕ) (best : Option PatternMatch) (ms : List (ℕ × ℕ)) : Option PatternMatch
    → Type 0 where
  none_met : ((s p : ℕ) → Met s p ms → ⊥) → Latest i best ms best
  some_met : {s p : ℕ} → Met s p ms → ((s' p' : ℕ) → Met s' p' ms → (s ≤ s') × (s' ≡ s → p ≤ p'))
      → Latest i best ms (Some (record { start = s; pattern = p; end = i }))

-- the search loop: each offset at which a match may begin adds a thread after the others
pub data SearchesAll {Q N : Type 0} (m : Machine Q N) (begins : ℕ → Type 0) (q : Q) : ℕ
    → List (ℕ × Q) → Option PatternMatch → Option PatternMatch → Type 0 where
  over : {i : ℕ} {best : Option PatternMatch} → ((j : ℕ) → i ≤ j → begins j → ⊥)
      → SearchesAll m begins q i [] best best
  started : {i : ℕ} {live next : List (ℕ × Q)} {ms : List (ℕ × ℕ)}
      {best best' out : Option PatternMatch}
      → begins i
      → StepsAll m i [] (live ++ (i, q) ∷ []) next ms → Latest i best ms best'
      → SearchesAll m begins q (i + 1) next best' out → SearchesAll m begins q i live best out
  stepped : {i : ℕ} {live next : List (ℕ × Q)} {ms : List (ℕ × ℕ)}
      {best best' out : Option PatternMatch}
      → (begins i → ⊥)
      → StepsAll m i [] live next ms → Latest i best ms best'
      → SearchesAll m begins q (i + 1) next best' out → SearchesAll m begins q i live best out
