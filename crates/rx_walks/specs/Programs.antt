-- Programs, and the machine of a program's nodes over a haystack.
use Rattle.std.specs.Prelude.{◌≡◌, ℕ, ◌+◌, Bool, true, false, ◌&&◌, ◌==◌, nat_le, List, [], ◌∷◌, take, drop, cond, Option, Some, None, slice_get}
use Rattle.rx_walks.specs.Machines.{Move, ends, goes, reads, Machine}

-- a node of a program, whose edges are numbers of nodes; assertions are of L, sets of characters of
-- S
pub data Node (L S : Type 0) : Type 0 where
  -- a match of this pattern ends
  match : ℕ → Node L S
  -- ordered epsilon transitions, the preferred one first
  pass : List ℕ → Node L S
  -- notes the offset in this slot
  note : ℕ → ℕ → Node L S
  -- an epsilon transition if the assertion holds
  look : L → ℕ → Node L S
  -- an edge that reads one character of the set
  set : S → ℕ → Node L S

-- a program: its nodes, the start node of all patterns, that of each pattern, and the line
-- terminator
pub record Program (L S : Type 0) : Type 0 where
  pub nodes : List (Node L S)
  pub start : ℕ
  pub patterns : List ℕ
  pub line_terminator : ℕ

-- a single pattern has the start node; several, or none, have a node above them with ordered edges
-- to each
pub data IsAbovePatterns {L S : Type 0} (p : Program L S) : Type 0 where
  one_pattern : p.patterns ≡ p.start ∷ [] → IsAbovePatterns p
  several : slice_get p.nodes p.start ≡ Some (pass p.patterns) → IsAbovePatterns p

-- a haystack: the bytes, the least and the greatest offset that a walk can reach, and the
-- assertions that hold at each offset
pub record Haystack (L : Type 0) : Type 0 where
  pub content : List ℕ
  pub low : ℕ
  pub high : ℕ
  pub holds : L → ℕ → Bool

abbrev pub only_if : {Q : Type 0} → Bool → Move Q → Move Q
only_if true x = x
only_if false x = goes []

abbrev pub is_within : ℕ → ℕ → ℕ → Bool
is_within low high i = nat_le low i && nat_le i high

-- the bytes from an offset on that a walk may read
abbrev pub left_from : {L : Type 0} → Haystack L → ℕ → List ℕ
left_from h i = drop i (take h.high h.content)

abbrev pub read_up_to : {Q : Type 0} → Q → ℕ → Option ℕ → Move Q
read_up_to r i None = goes []
read_up_to r i (Some k) = reads r (i + k)

-- the move at a node; `first` is the number of bytes of the first character, if it is in a set
abbrev pub by_character : {L S : Type 0} → (S → List ℕ → Option ℕ) → Haystack L → ℕ
    → Option (Node L S) → Move ℕ
by_character first h i None = goes []
by_character first h i (Some (match k)) = ends k
by_character first h i (Some (pass rs)) = goes rs
by_character first h i (Some (note slot r)) = goes (r ∷ [])
by_character first h i (Some (look l r)) = only_if (h.holds l i) (goes (r ∷ []))
by_character first h i (Some (set s r)) = read_up_to r i (first s (left_from h i))

abbrev pub note_at : {L S N : Type 0} → (ℕ → ℕ → N → N) → ℕ → Option (Node L S) → N → N
note_at put i (Some (note slot r)) n = put slot i n
note_at put i _ n = n

-- the machine whose reads are whole characters; `put` notes an offset in a slot
abbrev pub over_characters : {L S N : Type 0} → (ℕ → ℕ → N → N) → (S → List ℕ → Option ℕ)
    → List (Node L S) → Haystack L → Machine ℕ N
over_characters put first nodes h = record {
  move = λ i q. only_if (is_within h.low h.high i) (by_character first h i (slice_get nodes q));
  note = λ i q n. note_at put i (slice_get nodes q) n;
}

-- what a walk notes: where it started, and slots with offsets, the last one first
pub record Notes : Type 0 where
  pub start : ℕ
  pub noted : List (ℕ × ℕ)

abbrev pub fresh_notes : ℕ → Notes
fresh_notes i = record { start = i; noted = [] }

abbrev pub put_note : ℕ → ℕ → Notes → Notes
put_note slot i n = record n { noted = (slot, i) ∷ n.noted }

-- the offset that was noted last in a slot
abbrev pub last_noted : ℕ → List (ℕ × ℕ) → Option ℕ
last_noted slot [] = None
last_noted slot (x ∷ noted) = cond (slot == x.0) (Some x.1) (last_noted slot noted)

abbrev pub slot_of : Notes → ℕ → Option ℕ
slot_of n slot = last_noted slot n.noted
