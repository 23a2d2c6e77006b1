-- Paths of a program over characters, edge by edge.
use Rattle.std.specs.Prelude.{◌≡◌, ℕ, ◌+◌, ◌≤◌, true, List, Option, Some, slice_get}
use Rattle.rx_walks.specs.Programs.{Node, match, pass, note, look, set, Haystack, left_from}

-- an offset between two others, or one of them
pub record Within (low high i : ℕ) : Type 0 where
  pub above : low ≤ i
  pub below : i ≤ high

-- an edge leads from a node at an offset to a node at an offset
pub data Edge {L S : Type 0} (first : S → List ℕ → Option ℕ) (nodes : List (Node L S))
    (h : Haystack L) : ℕ → ℕ → ℕ → ℕ → Type 0 where
  by_pass : {q i r : ℕ} (rs : List ℕ) (k : ℕ) → slice_get nodes q ≡ Some (pass rs)
      → slice_get rs k ≡ Some r → Edge first nodes h q i r i
  by_note : {q i r : ℕ} (slot : ℕ) → slice_get nodes q ≡ Some (note slot r)
      → Edge first nodes h q i r i
  by_look : {q i r : ℕ} (l : L) → slice_get nodes q ≡ Some (look l r) → h.holds l i ≡ true
      → Edge first nodes h q i r i
  by_set : {q i r j : ℕ} (x : S) (k : ℕ) → slice_get nodes q ≡ Some (set x r)
      → first x (left_from h i) ≡ Some k → i + k ≡ j → Edge first nodes h q i r j

-- edges, one after the other, from a node at an offset to the end of a match of a pattern
pub data Trail {L S : Type 0} (first : S → List ℕ → Option ℕ) (nodes : List (Node L S))
    (h : Haystack L) : ℕ → ℕ → ℕ → ℕ → Type 0 where
  trail_end : {q i p : ℕ} → Within h.low h.high i → slice_get nodes q ≡ Some (match p)
      → Trail first nodes h q i p i
  trail_on : {q i r j p e : ℕ} → Within h.low h.high i → Edge first nodes h q i r j
      → Trail first nodes h r j p e → Trail first nodes h q i p e

-- the haystack, if walks stop at this offset
abbrev pub cut_at : {L : Type 0} → Haystack L → ℕ → Haystack L
cut_at h high = record h { high = high }
