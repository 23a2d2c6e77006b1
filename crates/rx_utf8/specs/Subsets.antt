-- How an automaton is reversed: states of the new one represent sets of the other one's states.
use Rattle.std.specs.Prelude.{◌≡◌, ℕ, ◌+◌, ◌<◌, ◌≤◌, Bool, true, false, ◌&&◌, ◌||◌, nat_le, nat_lt, nat_eq, cond, List, [], ◌∷◌, ◌++◌, Option, Some, None, length, get_or, map, All, Vec}
use Rattle.rx_utf8.specs.declared.byte_ranges.ByteRange.{ByteRange}
use Rattle.rx_utf8.specs.declared.entries.Entry.{Entry}
use Rattle.rx_utf8.specs.Automata.{look_up, IsAutomatonRow}
use Rattle.rx_utf8.specs.Blocks.{Extends}
use Rattle.rx_walks.specs.Bytes.{Automaton}
use Rattle.rx_walks.specs.Reversed.{has}
use Rattle.rx_walks.specs.Transposed.{ReadingPlace, LeadsBack}

abbrev pub lists_of : {A Z : Type 0} → List (Vec A Z) → List (List A)
lists_of lists = map (λ list. list.items) lists

-- one of the sets has this state
abbrev pub in_some : List (List ℕ) → ℕ → Bool
in_some [] s = false
in_some (set ∷ sets) s = has set s || in_some sets s

-- the end, if it is one of the positions, and those of the states that are
abbrev pub is_place : Bool → List Bool → ReadingPlace → Bool
is_place end states None = end
is_place end states (Some s) = get_or states s false

-- the ranges in the row of state s that lead to one of the positions
abbrev pub entries_of : (ReadingPlace → Bool) → ℕ → List ByteRange → List Entry
entries_of into s [] = []
entries_of into s (range ∷ row) =
    cond (into range.next) (record { source = s; range = range } ∷ []) [] ++ entries_of into s row

-- and those of all states from s on
abbrev pub entries_from : (ReadingPlace → Bool) → ℕ → List (List ByteRange) → List Entry
entries_from into s [] = []
entries_from into s (row ∷ rows) = entries_of into s row ++ entries_from into (s + 1) rows

abbrev pub covers : ByteRange → ℕ → Bool
covers range b = nat_le range.first b && nat_le b range.last

-- the states from which a byte leads to one of the positions
abbrev pub sources : (ReadingPlace → Bool) → List Entry → ℕ → List ℕ
sources into [] b = []
sources into (entry ∷ entries) b =
    cond (into entry.range.next) (cond (covers entry.range b) (entry.source ∷ []) []) []
    ++ sources into entries b

-- what the states represent: the first one only the end, each other one a set of the states below n
abbrev pub stands_for : ℕ → List (List ℕ) → ℕ → ReadingPlace → Bool
stands_for n sets t None = nat_eq t 0
stands_for n sets t (Some s) = nat_lt s n && has (get_or sets t []) s

abbrev pub SamePlaces : (ReadingPlace → Bool) → (ReadingPlace → Bool) → Type 0
SamePlaces those others = (place : ReadingPlace) → those place ≡ others place

-- where a byte leads backward that leads on from the states of a set: nowhere if there is none, to
-- a character's start if the first state is among them, else to a state that represents the set
abbrev pub IsLeadOf : List (List ℕ) → ℕ → List ℕ → Option ReadingPlace → Type 0
IsLeadOf sets from set None = set ≡ []
IsLeadOf sets from set (Some None) = has set 0 ≡ true
IsLeadOf sets from set (Some (Some t)) =
    (has set 0 ≡ false) × (from ≤ t) × (t < length sets) × (get_or sets t [] ≡ set)

-- the row of a state that represents those positions: it leads to states from `from` on
abbrev pub RowReads : ℕ → Automaton → List (List ℕ) → ℕ → (ReadingPlace → Bool) → List ByteRange
    → Type 0
RowReads n step sets from those row = (b : ℕ) → LeadsBack (length sets) step
    (λ next t. (from ≤ t) × SamePlaces (stands_for n sets t) next) those b (look_up row b)

-- rows are added up to that of state `to`, and the sets of the states to which they lead, after the
-- sets that were there
pub record AddsRowsUpTo (n : ℕ) (step : Automaton) (sets : List (List ℕ))
    (rows : List (List ByteRange))
    (to : ℕ) (sets' : List (List ℕ)) (rows' : List (List ByteRange)) : Type 0 where
  pub sets_kept : Extends sets sets'
  pub rows_kept : Extends rows rows'
  pub added : length rows' ≡ to
  pub reads : (t : ℕ) → length rows ≤ t → t < to
      → RowReads n step sets' (length sets) (stands_for n sets t) (get_or rows' t [])
  pub disjoint : All IsAutomatonRow rows'
