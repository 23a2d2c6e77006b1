-- Texts whose bytes arrive in parts: what is kept of them, and the text that they are in the end.
use Rattle.std.specs.Prelude.{◌≡◌, ◌<◌, ◌≤◌, ◌↔◌, ℕ, List, ◌++◌, length, Result, Ok, Err, IsUtf8, chars}
use Rattle.ropey.specs.Chunks.{text_of}
use Rattle.ropey.specs.Reading.{BeginsText}
use Rattle.rope_search_io.specs.declared.faults.Fault.{Fault}
use Rattle.rope_search_io.specs.declared.faults.Fault.TheVariants.{Utf8, Size, Memory}
use Rattle.rope_search_io.specs.Utf8Judge.{Continues}
use Rattle.rope_search_texts.specs.declared.arriving.ArrivingText.{ArrivingText}
use Rattle.rope_search_texts.specs.declared.arriving.ArrivingText.TheVariants.{Growing, Judged, Refused, Lost}

-- why a text doesn't go on with the last of these bytes: no text begins with them, or there was no
-- memory
abbrev pub StopsText : Fault → List ℕ → Type 0
StopsText Utf8 bytes = BeginsText bytes → ⊥
StopsText Memory bytes = Unit {0}
StopsText fault bytes = ⊥

-- what is kept of the bytes so far, of a text with `len` bytes in all. If it is over the limit, only
-- whether they are UTF-8 is kept; otherwise the bytes; or nothing, if no text begins with them or
-- there was no memory
abbrev pub Arrives : ℕ → ℕ → ArrivingText → List ℕ → Type 0
Arrives limit len (Growing bytes) before = (len ≤ limit) × (bytes ≡ before)
Arrives limit len (Judged judge) before =
    (limit < len) × ((more : List ℕ) → IsUtf8 (before ++ more) ↔ Continues judge more)
Arrives limit len Refused before = (len ≤ limit) × (BeginsText before → ⊥)
Arrives limit len Lost before = len ≤ limit

-- what is kept after more bytes, from what was kept before
abbrev pub ArrivesMore : ArrivingText → ArrivingText → List ℕ → Type 0
ArrivesMore old new bytes =
    (limit len : ℕ) (before : List ℕ) → Arrives limit len old before
    → Arrives limit len new (before ++ bytes)

-- what is kept of the bytes so far, of a text whose number of bytes isn't known in advance. If they
-- are over the limit, only whether they are UTF-8 is kept; otherwise the bytes; or nothing, if no
-- text begins with them or there was no memory
abbrev pub ArrivesWithin : ℕ → ArrivingText → List ℕ → Type 0
ArrivesWithin limit (Growing bytes) before = (length before ≤ limit) × (bytes ≡ before)
ArrivesWithin limit (Judged judge) before =
    (limit < length before) × ((more : List ℕ) → IsUtf8 (before ++ more) ↔ Continues judge more)
ArrivesWithin limit Refused before = BeginsText before → ⊥
ArrivesWithin limit Lost before = Unit {0}

-- what is kept after more bytes of such a text, from what was kept before
abbrev pub ArrivesMoreWithin : ℕ → ArrivingText → ArrivingText → List ℕ → Type 0
ArrivesMoreWithin limit old new bytes =
    (before : List ℕ) → ArrivesWithin limit old before → ArrivesWithin limit new (before ++ bytes)

-- a reason to refuse the text whatever follows, if one is known. One that is over the limit may still
-- turn out not to be UTF-8, which is then the reason
abbrev pub refusal_so_far : ArrivingText → Result Unit Fault
refusal_so_far (Growing bytes) = Ok tt
refusal_so_far (Judged judge) = Err Size
refusal_so_far Refused = Err Utf8
refusal_so_far Lost = Err Memory

-- the text that these bytes are, or why there is none
abbrev pub Finishes : ℕ → List ℕ → Result (List (List ℕ)) Fault → Type 0
Finishes limit bytes (Ok rope) = (length bytes ≤ limit) × IsUtf8 bytes × (text_of rope ≡ chars bytes)
Finishes limit bytes (Err Utf8) = IsUtf8 bytes → ⊥
Finishes limit bytes (Err Size) = (limit < length bytes) × IsUtf8 bytes
Finishes limit bytes (Err Memory) = length bytes ≤ limit
Finishes limit bytes (Err fault) = ⊥

-- the same for a text whose number of bytes isn't known in advance: memory may have been refused
-- before they were over the limit
abbrev pub FinishesWithin : ℕ → List ℕ → Result (List (List ℕ)) Fault → Type 0
FinishesWithin limit bytes (Err Memory) = Unit {0}
FinishesWithin limit bytes answer = Finishes limit bytes answer
