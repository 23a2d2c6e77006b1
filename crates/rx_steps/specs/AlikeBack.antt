-- Backward steps that are the same: at positions that are alike, if the byte isn't read, and with
-- threads left out.
use Rattle.std.specs.Prelude.{ℕ, List, [], Option, None}
use Rattle.rx_walks.specs.Steps.{Thins}
use Rattle.rx_program.specs.Programs.{ByteProgram}
use Rattle.rx_steps.specs.declared.place.Place.{Place}
use Rattle.rx_steps.specs.Alike.{AreAlike}
use Rattle.rx_steps.specs.ListsAll.{nodes_of}
use Rattle.rx_steps.specs.Reversed.{IsNextListBack}
use Rattle.rx_steps.specs.Threads.{Thread}

-- a backward step is the same at all positions that are alike
abbrev pub StepsBackAreAlike : ByteProgram → Type 0
StepsBackAreAlike p = (place other : Place) (nodes next : List (ℕ × ℕ)) (met : Option ℕ)
    → AreAlike p place other → IsNextListBack p place nodes next met
    → IsNextListBack p other nodes next met

-- it meets the same match start if the byte isn't read, and leaves no thread
abbrev pub StartsAreMetUnread : ByteProgram → Type 0
StartsAreMetUnread p = (place : Place) (nodes next : List (ℕ × ℕ)) (met : Option ℕ)
    → IsNextListBack p place nodes next met
    → IsNextListBack p (record place { byte = None }) nodes [] met

-- it needs only the first of several threads at the same node
abbrev pub StepsBackAreThinned : ByteProgram → Type 0
StepsBackAreThinned p = (place : Place) (threads thin : List Thread) (next : List (ℕ × ℕ))
    (met : Option ℕ) → Thins [] threads thin → IsNextListBack p place (nodes_of thin) next met
    → IsNextListBack p place (nodes_of threads) next met
