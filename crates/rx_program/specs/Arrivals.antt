-- How a program is reversed: for each of its nodes the edges that lead to it.
use Rattle.std.specs.Prelude.{◌≡◌, ℕ, ◌-◌, ◌<◌, Bool, false, ◌==◌, cond, List, [], ◌∷◌, ◌++◌, length, map, get_or, slice_get, Option, Some, None}
use Rattle.rx_walks.specs.Programs.{Node, match, pass, note, look, set}

abbrev pub is_number : Option ℕ → ℕ → Bool
is_number None n = false
is_number (Some x) n = x == n

abbrev pub ends_with : List ℕ → ℕ → Bool
ends_with xs n = is_number (slice_get xs (length xs - 1)) n

-- the list with this number at its end
abbrev pub with_last : List ℕ → ℕ → List ℕ
with_last xs n = cond (ends_with xs n) xs (xs ++ n ∷ [])

-- the number was appended to the lists that pass a test
pub record PutsNumber (n : ℕ) (test : ℕ → Bool) (lists lists' : List (List ℕ)) : Type 0 where
  pub len : length lists' ≡ length lists
  pub each : (q : ℕ) → q < length lists
      → get_or lists' q [] ≡ cond (test q) (with_last (get_or lists q []) n) (get_or lists q [])

-- `count` lists, each given by its number
pub record AreLists (count : ℕ) (list : ℕ → List ℕ) (lists : List (List ℕ)) : Type 0 where
  pub len : length lists ≡ count
  pub each : (q : ℕ) → q < count → get_or lists q [] ≡ list q

-- the pattern whose match ends at a node
abbrev pub match_in : {L S : Type 0} → Node L S → Option ℕ
match_in (match k) = Some k
match_in (pass rs) = None
match_in (note slot r) = None
match_in (look l r) = None
match_in (set x r) = None

-- for each list a node with epsilon transitions to its elements
abbrev pub unions : {L S : Type 0} → List (List ℕ) → List (Node L S)
unions lists = map (λ list. pass list) lists
