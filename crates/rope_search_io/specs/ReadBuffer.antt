-- The bytes that were read from a source but not yet consumed, and how consuming changes them.
use Rattle.std.specs.Prelude.{◌≡◌, ℕ, ◌+◌, ◌-◌, ◌*◌, ◌^◌, ◌≤◌, List, [], length, Option}
use Rattle.std.specs.Io.KnownBytes.{prepend_known, Consumes, IsAtEnd}
use Rattle.rope_search_io.specs.Sources.{SourceState}
use Rattle.rope_search_io.specs.declared.faults.Broken.{Broken}
use Rattle.rope_search_io.specs.declared.faults.Broken.TheVariants.{Read, Write, Turns, Memory}

-- the bytes that were read but not yet consumed, and the number of reads
pub record Unread : Type 0 where
  pub bytes : List ℕ
  pub reads : ℕ

-- all bytes that are still to be consumed, if they are known
abbrev pub to_come : Unread → SourceState → Option (List ℕ)
to_come unread source = prepend_known unread.bytes source.left

-- a bound on the bytes that can still come: those in the buffer, and 4,097 for each remaining read
abbrev pub most_to_come : Unread → ℕ
most_to_come unread = (2 ^ 62 - unread.reads) * 4097 + length unread.bytes

-- these bytes were consumed, and no read failed
pub record Takes (old new : Unread) (source source' : SourceState) (bytes : List ℕ) : Type 0 where
  pub consumed : Consumes (to_come old source) (to_come new source') bytes
  pub fewer : most_to_come new + length bytes ≤ most_to_come old
  pub counted : new.reads + source.reads ≡ old.reads + source'.reads
  pub sound : source'.failures ≡ source.failures
  pub open_end : source'.ends ≡ source.ends
  pub wide : source'.narrow ≡ source.narrow

-- these bytes were consumed, then the source reported its end, and nothing is left
pub record TakesLast (old new : Unread) (source source' : SourceState)
    (bytes : List ℕ) : Type 0 where
  pub consumed : Consumes (to_come old source) (to_come new source') bytes
  pub counted : new.reads + source.reads ≡ old.reads + source'.reads
  pub sound : source'.failures ≡ source.failures
  pub told : source'.ends ≡ source.ends + 1
  pub empty : new.bytes ≡ []
  pub at_end : IsAtEnd source'.left
  pub wide : source'.narrow ≡ source.narrow

-- these bytes were consumed, and then the source failed once
pub record TakesUntilFailure (old new : Unread) (source source' : SourceState)
    (bytes : List ℕ) : Type 0 where
  pub consumed : Consumes (to_come old source) (to_come new source') bytes
  pub counted : new.reads + source.reads ≡ old.reads + source'.reads
  pub failed : source'.failures ≡ source.failures + 1
  pub open_end : source'.ends ≡ source.ends
  pub wide : source'.narrow ≡ source.narrow
  pub empty : new.bytes ≡ []

-- these bytes were consumed, and then there were too many reads
pub record TakesUntilLimit (old new : Unread) (source source' : SourceState)
    (bytes : List ℕ) : Type 0 where
  pub consumed : Consumes (to_come old source) (to_come new source') bytes
  pub counted : new.reads + source.reads ≡ old.reads + source'.reads
  pub sound : source'.failures ≡ source.failures
  pub open_end : source'.ends ≡ source.ends
  pub wide : source'.narrow ≡ source.narrow
  pub empty : new.bytes ≡ []
  pub many : 2 ^ 62 ≤ new.reads

-- why no more bytes came: the source failed, or was read too often
abbrev pub TakesUntil : Broken → Unread → Unread → SourceState → SourceState → List ℕ → Type 0
TakesUntil Read old new source source' bytes = TakesUntilFailure old new source source' bytes
TakesUntil Turns old new source source' bytes = TakesUntilLimit old new source source' bytes
TakesUntil Write old new source source' bytes = ⊥
TakesUntil Memory old new source source' bytes = ⊥
