-- An automaton that reads `é`, U+E9 (C3 A9 in UTF-8), and how many of some bytes it takes, each by
-- computation.
use Rattle.std.specs.Prelude.{◌≡◌, List, [], ◌∷◌, Some, None, refl}
use Rattle.rx_utf8.specs.declared.byte_ranges.ByteRange.{ByteRange}
use Rattle.rx_utf8.specs.Automata.{look_up, step_in}
use Rattle.rx_walks.specs.Bytes.{run}

abbrev rows : List (List ByteRange)
rows = (record { first = 0xC3; last = 0xC3; next = Some 1 } ∷ [])
    ∷ (record { first = 0xA9; last = 0xA9; next = None } ∷ []) ∷ []

-- in its second state, A9 ends a character, and any other byte is refused
ends_at : look_up (record { first = 0xA9; last = 0xA9; next = None } ∷ []) 0xA9 ≡ Some None
ends_at = refl

leads_nowhere : step_in rows 1 0xAA ≡ None
leads_nowhere = refl

-- it takes the two bytes of `é`, whatever follows, and nothing of `è`, `e` or a cut character
takes : run (step_in rows) 0 (0xC3 ∷ 0xA9 ∷ 0x62 ∷ []) ≡ Some 2
takes = refl

other_character : run (step_in rows) 0 (0xC3 ∷ 0xA8 ∷ []) ≡ None
other_character = refl

letter : run (step_in rows) 0 (0x65 ∷ []) ≡ None
letter = refl

cut : run (step_in rows) 0 (0xC3 ∷ []) ≡ None
cut = refl

continuation : run (step_in rows) 0 (0xA9 ∷ []) ≡ None
continuation = refl
