-- The commands that a command with what was kept of its payload represents.
use Rattle.std.specs.Prelude.{◌≡◌, ℕ, ◌<◌, ◌↔◌, List, length, IsTrue, IsUtf8, Option, None, Some}
use Rattle.rope_search.specs.declared.commands.CommandOf.{CommandOf}
use Rattle.rope_search.specs.declared.commands.Payload.{Payload}
use Rattle.rope_search.specs.declared.commands.Payload.TheVariants.{Kept, Long, Lost}
use Rattle.rope_search.specs.Order.{Order, SetText, EditText, UndoEdit, RedoEdit, PrintText, ForkBuffer, SetPattern, DropPattern, ListMatches, FindNext, ReplaceAll, UseBuffer, IsOf}
use Rattle.rope_search_reports.specs.Pattern.{pattern_limit}

-- what was kept of a payload represents each payload of its kind, under a limit on its bytes
abbrev pub StandsFor : ℕ → Payload → List ℕ → Type 0
StandsFor limit (Kept bytes) payload = payload ≡ bytes.now
StandsFor limit (Long utf8) payload = (limit < length payload) × (IsTrue utf8 ↔ IsUtf8 payload)
StandsFor limit Lost payload = Unit {0}

-- the command represents this one, which has its whole payload
abbrev pub Stands : ℕ → CommandOf Payload → Order → Type 0
Stands limit command order = IsOf StandsFor limit command order

-- P holds of each whole command that this one represents
abbrev pub ForOrders : ℕ → CommandOf Payload → (Order → Type 0) → Type 0
ForOrders limit command P = (order : Order) → Stands limit command order → P order

-- what was kept of the command's payload, if it has one
abbrev pub kept_of : CommandOf Payload → Option Payload
kept_of (SetText payload) = Some payload
kept_of (EditText from to payload) = Some payload
kept_of UndoEdit = None
kept_of RedoEdit = None
kept_of PrintText = None
kept_of ForkBuffer = None
kept_of (SetPattern payload) = Some payload
kept_of DropPattern = None
kept_of ListMatches = None
kept_of (FindNext from) = None
kept_of (ReplaceAll payload) = Some payload
kept_of (UseBuffer k) = None

-- the maximum number of bytes of a command's payload that are kept, under a limit on texts
abbrev pub limit_on : {P : Type 0} → CommandOf P → ℕ → ℕ
limit_on (SetText p) limit = limit
limit_on (EditText from to p) limit = limit
limit_on UndoEdit limit = limit
limit_on RedoEdit limit = limit
limit_on PrintText limit = limit
limit_on ForkBuffer limit = limit
limit_on (SetPattern p) limit = pattern_limit
limit_on DropPattern limit = limit
limit_on ListMatches limit = limit
limit_on (FindNext from) limit = limit
limit_on (ReplaceAll p) limit = limit
limit_on (UseBuffer k) limit = limit
