-- Slots that are lent for writing.
use Rattle.std.specs.Prelude.{ℕ, ◌++◌, List, length, take, drop, Option}
use Rattle.std.specs.Borrow.{Lends, MutBor, Fml, Array}
use Rattle.std.specs.contracts.option.Option.{the_row as OptionOf}
use Rattle.rx_util.specs.Captured.{Captured}
use Rattle.rx_util.specs.contracts.primitives.NonMaxUsize.{the_row as Place}
use Rattle.rx_util.specs.contracts.captures.Captures.{the_row}

-- captures with other values in the slots, whose number stays
abbrev pub with_slots : Captured → List (Option ℕ) → Captured
with_slots c slots = record c { slots = take (length c.slots) (slots ++ drop (length slots) c.slots) }

-- c ends with the slots that are left in the borrowed slice
abbrev pub LendsSlots : MutBor Captured → MutBor (List (Option ℕ)) → Fml
LendsSlots c slots = Lends the_row (Array (OptionOf Place) 0) c slots (with_slots c.now)
