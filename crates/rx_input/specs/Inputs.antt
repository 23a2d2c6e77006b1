-- The position in a haystack, and the settings of a search. Offsets are bytes of the haystack.
use Rattle.std.specs.Prelude.{◌≡◌, ℕ, ◌+◌, ◌-◌, ◌^◌, ◌<◌, ◌≤◌, Bool, false, not, ◌&&◌, nat_lt, List, length, take, drop, min, max, if◌then◌else◌, unwrap_or}
use Rattle.rx_util.specs.declared.search.Span.{Span}
use Rattle.rx_util.specs.declared.search.Anchored.{Anchored}
use Rattle.rx_util.specs.declared.search.Anchored.TheVariants.{No}
use Rattle.rx_input.specs.declared.ranges.Ends.{Ends}
use Rattle.rx_input.specs.Cursors.{CursorState, IsLawful, IsSameContent, told_length}

-- the settings of a search: the span of the match, the slice that look-around assertions see, where
-- a match may start, and whether any match may be reported
pub record Asked : Type 0 where
  pub span : Span
  pub slice : Span
  pub anchored : Anchored
  pub earliest : Bool

-- a haystack with its current chunk, a position in it, and the settings of a search
pub record InputState : Type 0 where
  pub cursor : CursorState
  pub position : ℕ
  pub asked : Asked

-- the current chunk contains the byte at the offset; at the end of the haystack it is the last
-- chunk
pub record HoldsPlace (c : CursorState) (at : ℕ) : Type 0 where
  pub lawful : IsLawful c
  pub behind_start : c.start ≤ at
  pub before_end : at ≤ c.end
  pub at_end : at ≡ c.end → c.end ≡ length c.content

-- the end of the haystack, or the greatest `usize` if the cursor doesn't report it
abbrev pub told_end : CursorState → ℕ
told_end c = unwrap_or (told_length c) (2 ^ 64 - 1)

-- the initial settings: a match anywhere from the current chunk on, with a slice that is the whole
-- haystack
abbrev pub asked_first : CursorState → Asked
asked_first c = record {
  span = record { start = c.start; end = told_end c };
  slice = record { start = 0; end = 2 ^ 64 - 1 };
  anchored = No;
  earliest = false;
}

-- the span ends before it starts
abbrev pub is_done : Span → Bool
is_done span = nat_lt span.end span.start

-- a span may end one byte before it starts, but no more
abbrev pub IsSpan : Span → Type 0
IsSpan span = span.start ≤ span.end + 1

-- the position after the span is set: a position before the span moves to its start, and one after
-- it to its end, unless the old span was done; neither moves past the end of the haystack
abbrev pub moved_into : InputState → Span → ℕ
moved_into i span =
    if nat_lt i.position span.start then min span.start (length i.cursor.content)
    else if not (is_done i.asked.span) && nat_lt span.end i.position
    then min span.end (length i.cursor.content)
    else i.position

-- an input over the same haystack, with this position and these settings; the current chunk may
-- differ
pub record IsMoved (old new : InputState) (position : ℕ) (asked : Asked) : Type 0 where
  pub same : IsSameContent old.cursor new.cursor
  pub position_is : new.position ≡ position
  pub asked_is : new.asked ≡ asked

-- the span was set
abbrev pub HasSpan : InputState → InputState → Span → Type 0
HasSpan old new span =
    IsMoved old new (moved_into old span) (record old.asked { span = span })

-- the span and the slice were set
abbrev pub HasSlice : InputState → InputState → Span → Type 0
HasSlice old new span =
    IsMoved old new (moved_into old span) (record old.asked { span = span; slice = span })

-- the span of a range; an open start is 0, and an open end is the haystack's, as far as the cursor
-- reports it
abbrev pub span_of : Ends → CursorState → Span
span_of ends c = record { start = unwrap_or ends.start 0; end = unwrap_or ends.end (told_end c) }

-- bytes around a position, and how many of them are before it
pub record Seen : Type 0 where
  pub bytes : List ℕ
  pub position : ℕ

-- the bytes of a haystack from one offset to another
abbrev pub between : ℕ → ℕ → List ℕ → List ℕ
between from to content = drop from (take to content)

-- the bytes of the slice from four before an offset to four after it
abbrev pub seen_from : Span → ℕ → ℕ
seen_from slice at = max slice.start (at - 4)

abbrev pub seen_bytes : Span → ℕ → List ℕ → List ℕ
seen_bytes slice at content = between (seen_from slice at) (min slice.end (at + 4)) content

abbrev pub seen_around : InputState → Seen
seen_around i = record {
  bytes = seen_bytes i.asked.slice i.position i.cursor.content;
  position = min (i.position - seen_from i.asked.slice i.position)
      (length (seen_bytes i.asked.slice i.position i.cursor.content));
}
