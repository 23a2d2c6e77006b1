-- Steps at which the next byte isn't read.
use Rattle.std.specs.Prelude.{ℕ, Option, None, List, []}
use Rattle.rx_program.specs.Programs.{ByteProgram}
use Rattle.rx_steps.specs.declared.place.Place.{Place}
use Rattle.rx_steps.specs.Threads.{Slots, Thread}
use Rattle.rx_steps.specs.Lists.{IsNextList}
use Rattle.rx_steps.specs.Alike.{AreBare}

-- a step of threads without slots meets the same match end if the next byte isn't read
abbrev pub EndsAreMetUnread : ByteProgram → Type 0
EndsAreMetUnread p = (place : Place) (threads next : List Thread) (met : Option ℕ)
    (slots : Slots) → AreBare threads → IsNextList p place threads next met slots
    → IsNextList p (record place { byte = None }) threads [] met []
