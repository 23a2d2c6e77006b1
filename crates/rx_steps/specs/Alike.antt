-- Positions at which the steps of threads without slots are the same.
use Rattle.std.specs.Prelude.{◌≡◌, ℕ, Option, Some, None, List, [], ◌∷◌}
use Rattle.rx_walks.specs.Looks as walks
use Rattle.rx_program.specs.Programs.{ByteProgram, automata_of}
use Rattle.rx_steps.specs.declared.place.Place.{Place}
use Rattle.rx_steps.specs.Threads.{Slots, Thread}
use Rattle.rx_steps.specs.Lists.{Asks, is_among, IsNextList}

-- each automaton of a program steps alike over both bytes
abbrev pub ReadAlike : ByteProgram → ℕ → ℕ → Type 0
ReadAlike p b c = (q s : ℕ) → automata_of p q s b ≡ automata_of p q s c

-- both are the end, or bytes over which the automata step alike
abbrev pub AreReadAlike : ByteProgram → Option ℕ → Option ℕ → Type 0
AreReadAlike p None None = Unit {0}
AreReadAlike p (Some b) (Some c) = ReadAlike p b c
AreReadAlike p _ _ = ⊥

-- positions that are alike for a program: its automata step alike over the bytes, and the same of
-- its assertions hold
pub record AreAlike (p : ByteProgram) (first second : Place) : Type 0 where
  pub reads : AreReadAlike p first.byte second.byte
  pub looks : (l : walks.Look) → Asks p.states l
      → is_among first.looks l ≡ is_among second.looks l

-- threads that have no slots
abbrev pub AreBare : List Thread → Type 0
AreBare [] = Unit {0}
AreBare (t ∷ threads) = (t.0 ≡ []) × AreBare threads

-- the step of threads without slots is the same at all positions that are alike
abbrev pub StepsAreAlike : ByteProgram → Type 0
StepsAreAlike p = (place other : Place) (threads next : List Thread) (met : Option ℕ)
    (slots : Slots) → AreBare threads → AreAlike p place other
    → IsNextList p place threads next met slots → IsNextList p other threads next met []

-- if no byte is read, a step leaves no thread
abbrev pub StepsEnd : ByteProgram → Type 0
StepsEnd p = (place : Place) (threads next : List Thread) (met : Option ℕ) (slots : Slots)
    → place.byte ≡ None → IsNextList p place threads next met slots → next ≡ []
