-- What is read from the source for a line, a payload and a command.
use Rattle.std.specs.Prelude.{◌≡◌, ℕ, ◌<◌, ◌≤◌, ◌↔◌, ◌⊎◌, List, [], ◌∷◌, ◌++◌, length, take, Bool, true, false, Option, None, Some, Result, Ok, Err, IsUtf8}
use Rattle.rope_search_io.specs.declared.faults.Broken.{Broken}
use Rattle.rope_search_io.specs.Sources.{SourceState}
use Rattle.rope_search_io.specs.ReadBuffer.{Unread, Takes, TakesLast, TakesUntil}
use Rattle.rope_search_io.specs.Utf8Judge.{Continues}
use Rattle.rope_search_texts.specs.declared.arriving.ArrivingText.{ArrivingText}
use Rattle.rope_search_texts.specs.Arriving.{Arrives}
use Rattle.rope_search.specs.declared.command_lines.LineRead.{LineRead}
use Rattle.rope_search.specs.declared.command_lines.LineRead.TheVariants.{Whole, Long, Part}
use Rattle.rope_search.specs.declared.payloads.Collected.{Collected}
use Rattle.rope_search.specs.declared.payloads.Collected.TheVariants.{Kept, Judged, Lost}
use Rattle.rope_search.specs.declared.commands.CommandOf.{CommandOf}
use Rattle.rope_search.specs.declared.requests.Request.{Request}
use Rattle.rope_search.specs.declared.requests.Request.TheVariants.{Text, Given, End}
use Rattle.rope_search.specs.declared.endings.Ended.{Ended}
use Rattle.rope_search.specs.declared.endings.Ended.TheVariants.{Input, Command, Cut}
use Rattle.rope_search.specs.Order.{Order, SetText}
use Rattle.rope_search.specs.Stands.{limit_on}
use Rattle.rope_search.specs.Header.{IsHeaderOf}
use Rattle.rope_search.specs.Reads.{HasNoLf, SpellsOrder, Ends, payload_of}

-- a line of at most 128 bytes and its LF; 129 bytes without one; or the bytes without one before
-- the end
abbrev pub TakesLine : Result LineRead Broken → List ℕ → Unread → Unread → SourceState → SourceState
    → Type 0
TakesLine (Ok (Whole len)) line old new source source' =
    (len ≤ 128) × HasNoLf (take len line) × Takes old new source source' (take len line ++ 10 ∷ [])
TakesLine (Ok Long) line old new source source' =
    HasNoLf line × Takes old new source source' line
TakesLine (Ok (Part len)) line old new source source' =
    (len ≤ 128) × HasNoLf (take len line) × TakesLast old new source source' (take len line)
TakesLine (Err broken) line old new source source' =
    (bytes : List ℕ) × (length bytes ≤ 128) × HasNoLf bytes
    × TakesUntil broken old new source source' bytes

-- what is kept of the bytes so far, of a payload with `len` bytes in all. If it is over the limit,
-- only whether they are UTF-8 is kept; otherwise the bytes, or nothing
abbrev pub Collects : ℕ → ℕ → Collected → List ℕ → Type 0
Collects limit len (Kept bytes) before = (len ≤ limit) × (bytes.items ≡ before)
Collects limit len (Judged judge) before =
    (limit < len) × ((more : List ℕ) → IsUtf8 (before ++ more) ↔ Continues judge more)
Collects limit len Lost before = len ≤ limit

-- what is kept of a payload so far, given a limit on its bytes, their number in all, and those
-- before
abbrev pub KeptSoFar : Type 0 → Type 1
KeptSoFar K = ℕ → ℕ → K → List ℕ → Type 0

-- what is kept after more bytes, from what was kept before
abbrev pub GathersMore : {K : Type 0} → KeptSoFar K → K → K → List ℕ → Type 0
GathersMore Keeps old new bytes =
    (limit len : ℕ) (before : List ℕ) → Keeps limit len old before
    → Keeps limit len new (before ++ bytes)

-- a payload of this many bytes was taken, or fewer, before the end or before an error
abbrev pub TakesPayload : {K : Type 0} → KeptSoFar K → Result Bool Broken → ℕ → K → K → Unread → Unread
    → SourceState → SourceState → Type 0
TakesPayload Keeps (Ok true) len kept kept' old new source source' =
    (bytes : List ℕ) × (length bytes ≡ len) × GathersMore Keeps kept kept' bytes
    × Takes old new source source' bytes
TakesPayload Keeps (Ok false) len kept kept' old new source source' =
    (bytes : List ℕ) × (length bytes < len) × TakesLast old new source source' bytes
TakesPayload Keeps (Err broken) len kept kept' old new source source' =
    (bytes : List ℕ) × (length bytes < len) × TakesUntil broken old new source source' bytes

-- a payload of this many bytes was read, and gathered under a limit on them; or the input ended
-- before, or there was an error
abbrev pub TakesGathered : {K : Type 0} → KeptSoFar K → Result (Option K) Broken → ℕ → ℕ → Unread
    → Unread → SourceState → SourceState → Type 0
TakesGathered Keeps (Ok (Some kept)) limit len old new source source' =
    (bytes : List ℕ) × (length bytes ≡ len) × Keeps limit len kept bytes
    × Takes old new source source' bytes
TakesGathered Keeps (Ok None) limit len old new source source' =
    (bytes : List ℕ) × (length bytes < len) × TakesLast old new source source' bytes
TakesGathered Keeps (Err broken) limit len old new source source' =
    (bytes : List ℕ) × (length bytes < len) × TakesUntil broken old new source source' bytes

-- a header and what was kept of a payload are of this command, under a limit on the bytes of a text
pub record IsReadAs (limit : ℕ) (header : CommandOf ℕ) (kept : Collected)
    (order : Order) : Type 0 where
  pub of_header : IsHeaderOf header order
  pub payload : Collects (limit_on header limit) (length (payload_of order)) kept (payload_of order)

-- a text is that of a command that sets it, under a limit on its bytes
pub record IsTextOf (limit : ℕ) (text : ArrivingText) (order : Order) : Type 0 where
  pub payload : List ℕ
  pub sets : order ≡ SetText payload
  pub arrived : Arrives limit (length payload) text payload

-- all bytes of a command of which this holds were taken
pub record TakesOrder (Is : Order → Type 0) (old new : Unread)
    (source source' : SourceState) : Type 0 where
  pub order : Order
  pub bytes : List ℕ
  pub spells : SpellsOrder order bytes
  pub is : Is order
  pub taken : Takes old new source source' bytes

-- after these bytes the source reported its end, except for a line that is no command
abbrev pub TakesTo : Ended → Unread → Unread → SourceState → SourceState → List ℕ → Type 0
TakesTo Command old new source source' bytes = Takes old new source source' bytes
TakesTo Input old new source source' bytes = TakesLast old new source source' bytes
TakesTo Cut old new source source' bytes = TakesLast old new source source' bytes

-- bytes were taken with which the input ends like this
pub record TakesEnding (ending : Ended) (old new : Unread)
    (source source' : SourceState) : Type 0 where
  pub rest : List ℕ
  pub ends : Ends rest ending
  pub taken : TakesTo ending old new source source' rest

-- these bytes contain no whole command, and none that is known to be wrong
abbrev pub IsUnfinished : List ℕ → Type 0
IsUnfinished rest = Ends rest Input ⊎ Ends rest Cut

-- bytes were taken that are no whole command, and then there was an error
pub record TakesUnfinished (broken : Broken) (old new : Unread)
    (source source' : SourceState) : Type 0 where
  pub rest : List ℕ
  pub unfinished : IsUnfinished rest
  pub taken : TakesUntil broken old new source source' rest

-- a command was read whole, or the input ended, or there was an error
abbrev pub TakesRequest : ℕ → Result Request Broken → Unread → Unread → SourceState → SourceState
    → Type 0
TakesRequest limit (Ok (Text text)) old new source source' =
    TakesOrder (IsTextOf limit text) old new source source'
TakesRequest limit (Ok (Given header kept)) old new source source' =
    TakesOrder (IsReadAs limit header kept) old new source source'
TakesRequest limit (Ok (End ending)) old new source source' =
    TakesEnding ending old new source source'
TakesRequest limit (Err broken) old new source source' =
    TakesUnfinished broken old new source source'

-- the payload of a command with this header was taken, and this holds of the command
pub record TakesRestOf (header : CommandOf ℕ) (Is : Order → Type 0) (old new : Unread)
    (source source' : SourceState) : Type 0 where
  pub order : Order
  pub of_header : IsHeaderOf header order
  pub is : Is order
  pub taken : Takes old new source source' (payload_of order)

-- fewer bytes than the payload of a command with this header were taken
pub record TakesPartOf (header : CommandOf ℕ) (Taken : List ℕ → Type 0) : Type 0 where
  pub order : Order
  pub of_header : IsHeaderOf header order
  pub part : List ℕ
  pub short : length part < length (payload_of order)
  pub taken : Taken part

-- what follows a command's line was read
abbrev pub TakesRest : ℕ → CommandOf ℕ → Result Request Broken → Unread → Unread → SourceState
    → SourceState → Type 0
TakesRest limit header (Ok (Text text)) old new source source' =
    TakesRestOf header (IsTextOf limit text) old new source source'
TakesRest limit header (Ok (Given given kept)) old new source source' =
    TakesRestOf header (IsReadAs limit given kept) old new source source'
TakesRest limit header (Ok (End Cut)) old new source source' =
    TakesPartOf header (TakesLast old new source source')
TakesRest limit header (Ok (End Input)) old new source source' = ⊥
TakesRest limit header (Ok (End Command)) old new source source' = ⊥
TakesRest limit header (Err broken) old new source source' =
    TakesPartOf header (TakesUntil broken old new source source')
