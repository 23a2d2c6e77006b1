-- The machine that reads characters byte by byte. Each node with a set has an automaton.
use Rattle.std.specs.Prelude.{ℕ, suc, ◌+◌, List, [], ◌∷◌, map, Option, Some, None, option_map, slice_get}
use Rattle.rx_walks.specs.Machines.{Move, ends, goes, reads, Machine}
use Rattle.rx_walks.specs.Programs.{Node, match, pass, note, look, set, Haystack, only_if, is_within, left_from, note_at}

-- what an automaton does with a byte at a state: refuse it (`None`), end a character (`Some None`),
-- or go to a state
abbrev pub Automaton : Type 0
Automaton = ℕ → ℕ → Option (Option ℕ)

-- the number of bytes that it reads from a state on, if it reads a character
abbrev pub run : Automaton → ℕ → List ℕ → Option ℕ
run step s [] = None
run step s (b ∷ bs) = elim (step s b) [
  | None ↦ None
  | Some None ↦ Some 1
  | Some (Some s') ↦ option_map suc (run step s' bs)
]

abbrev pub read_on : ℕ → ℕ → ℕ → Option (Option ℕ) → Move (ℕ × ℕ)
read_on q r i None = goes []
read_on q r i (Some None) = reads (r, 0) (i + 1)
read_on q r i (Some (Some s')) = reads (q, s') (i + 1)

abbrev pub read_byte : Automaton → ℕ → ℕ → ℕ → ℕ → List ℕ → Move (ℕ × ℕ)
read_byte step q r s i [] = goes []
read_byte step q r s i (b ∷ bs) = read_on q r i (step s b)

-- the move at a node and a state of its automaton
abbrev pub by_byte : {L S : Type 0} → (ℕ → Automaton) → Haystack L → ℕ → ℕ → ℕ → Option (Node L S)
    → Move (ℕ × ℕ)
by_byte step h i q s None = goes []
by_byte step h i q s (Some (match k)) = ends k
by_byte step h i q s (Some (pass rs)) = goes (map (λ r. (r, 0)) rs)
by_byte step h i q s (Some (note slot r)) = goes ((r, 0) ∷ [])
by_byte step h i q s (Some (look l r)) = only_if (h.holds l i) (goes ((r, 0) ∷ []))
by_byte step h i q s (Some (set x r)) = read_byte (step q) q r s i (left_from h i)

-- the machine whose reads are single bytes; `step` is the automaton of each node with a set
abbrev pub over_bytes : {L S N : Type 0} → (ℕ → ℕ → N → N) → (ℕ → Automaton) → List (Node L S)
    → Haystack L → Machine (ℕ × ℕ) N
over_bytes put step nodes h = record {
  move = λ i q. only_if (is_within h.low h.high i) (by_byte step h i q.0 q.1 (slice_get nodes q.0));
  note = λ i q n. note_at put i (slice_get nodes q.0) n;
}
