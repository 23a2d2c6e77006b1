-- The bytes that are buffered for a sink, and how writing changes them.
use Rattle.std.specs.Prelude.{◌≡◌, ℕ, ◌+◌, List, ◌++◌, flat_map}
use Rattle.std.specs.Borrow.{Bor}
use Rattle.std.specs.Io.KnownBytes.{Appends}
use Rattle.rope_search_io.specs.Sources.{SinkState}
use Rattle.rope_search_io.specs.declared.faults.Broken.{Broken}
use Rattle.rope_search_io.specs.declared.faults.Broken.TheVariants.{Read, Write, Turns, Memory}

-- the sink took all of these bytes
pub record Writes (sink sink' : SinkState) (bytes : List ℕ) : Type 0 where
  pub appended : Appends sink.held sink'.held bytes
  pub sound : sink'.failures ≡ sink.failures
  pub flushed : sink'.flushes ≡ sink.flushes

-- the sink took a prefix of these bytes, and then failed once
pub record WritesFront (sink sink' : SinkState) (bytes : List ℕ) : Type 0 where
  pub front : List ℕ
  pub lost : List ℕ
  pub split : bytes ≡ front ++ lost
  pub appended : Appends sink.held sink'.held front
  pub failed : sink'.failures ≡ sink.failures + 1
  pub flushed : sink'.flushes ≡ sink.flushes

-- why not all of these bytes were written: the sink failed
abbrev pub WritesUntil : Broken → SinkState → SinkState → List ℕ → Type 0
WritesUntil Write sink sink' bytes = WritesFront sink sink' bytes
WritesUntil Read sink sink' bytes = ⊥
WritesUntil Turns sink sink' bytes = ⊥
WritesUntil Memory sink sink' bytes = ⊥

-- these bytes were appended to the buffered ones, of which the sink took some
pub record Puts (old new : List ℕ) (sink sink' : SinkState) (bytes : List ℕ) : Type 0 where
  pub sent : List ℕ
  pub split : old ++ bytes ≡ sent ++ new
  pub written : Writes sink sink' sent

-- parts, joined in order
abbrev pub joined : List (Bor (List ℕ)) → List ℕ
joined parts = flat_map (λ (part : Bor (List ℕ)). part.now) parts
