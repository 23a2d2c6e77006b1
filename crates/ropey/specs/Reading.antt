-- What a reader gives, and what holds if no rope is made from it.
use Rattle.std.specs.Prelude.{◌≡◌, ℕ, ◌<◌, ◌≤◌, ◌^◌, ◌⊎◌, List, [], ◌++◌, length, Option}
use Rattle.std.specs.Str.{IsUtf8}
use Rattle.std.specs.Io.KnownBytes.{Consumes, IsAtEnd}
use Rattle.ropey.specs.declared.read_fault.ReadFault.{ReadFault}
use Rattle.ropey.specs.declared.read_fault.ReadFault.TheVariants.{Read, Utf8, Memory, Size, Turns}

-- some valid text begins with these bytes
abbrev pub BeginsText : List ℕ → Type 0
BeginsText bytes = (more : List ℕ) × IsUtf8 (bytes ++ more)

-- a reader gave these bytes and then its end
pub record GivesToEnd (left left' : Option (List ℕ)) (bytes : List ℕ) : Type 0 where
  pub consumed : Consumes left left' bytes
  pub at_end : IsAtEnd left'

-- what holds of the bytes that a reader gave, and of those that it has left, if this fault is the
-- first
abbrev pub MeetsFault : ReadFault → List ℕ → Option (List ℕ) → Type 0
MeetsFault Read given left = BeginsText given
MeetsFault Utf8 given left = (BeginsText given → ⊥) ⊎ ((IsUtf8 given → ⊥) × IsAtEnd left)
MeetsFault Memory given left = BeginsText given
MeetsFault Size given left = BeginsText given × (2 ^ 63 ≤ length given)
MeetsFault Turns given left = BeginsText given × (2 ^ 62 ≤ length given)

-- a reader gave some bytes, and then a fault was met
pub record GivesUntil (fault : ReadFault) (left left' : Option (List ℕ)) : Type 0 where
  pub given : List ℕ
  pub consumed : Consumes left left' given
  pub met : MeetsFault fault given left'

-- bytes that are a valid text, then nothing or a proper part of a character
pub record IsCutAt (bytes text rest : List ℕ) : Type 0 where
  pub parts : bytes ≡ text ++ rest
  pub utf8 : IsUtf8 text
  pub begins : BeginsText rest
  pub no_text : IsUtf8 rest → rest ≡ []
  pub short : length rest < 4

-- a reader gave one byte or more, which are now after the old ones
pub record GivesMore (left left' : Option (List ℕ)) (old new : List ℕ) : Type 0 where
  pub bytes : List ℕ
  pub consumed : Consumes left left' bytes
  pub some : 0 < length bytes
  pub behind : new ≡ old ++ bytes
