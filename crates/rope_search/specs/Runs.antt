-- What a whole run did, from what its source and its sink report.
use Rattle.std.specs.Prelude.{◌≡◌, ◌≢◌, ℕ, ◌+◌, ◌^◌, ◌≤◌, ◌⊎◌, List, [], ◌∷◌, ◌++◌, sum_by, Option, None, Some, IfSome, Result, Ok, Err}
use Rattle.std.specs.Io.KnownBytes.{Appends, Consumes, IsAtEnd}
use Rattle.rope_search_io.specs.declared.faults.Broken.{Broken}
use Rattle.rope_search_io.specs.declared.faults.Broken.TheVariants.{Read, Write, Turns, Memory}
use Rattle.rope_search_io.specs.Sources.{SourceState, SinkState}
use Rattle.rope_search_io.specs.ReadBuffer.{Unread, Takes}
use Rattle.rope_search_io.specs.WriteBuffer.{Writes, WritesFront}
use Rattle.rope_search.specs.declared.endings.Ended.{Ended}
use Rattle.rope_search.specs.declared.endings.Ended.TheVariants.{Input, Command, Cut}
use Rattle.rope_search.specs.Order.{Order}
use Rattle.rope_search_reports.specs.Ticks.{Ticks, NeverFall}
use Rattle.rope_search.specs.Session.{State, first_state}
use Rattle.rope_search.specs.Step.{Answer, Step}
use Rattle.rope_search.specs.Reads.{SpellsOrder, SpellAll, Reads}
use Rattle.rope_search.specs.Shows.{IsShown, closing}
use Rattle.rope_search.specs.Cost.{Costs, whole_searches}
use Rattle.rope_search.specs.Answers.{Run, Answers}
use Rattle.rope_search.specs.Requests.{TakesEnding, TakesUnfinished}

-- exactly one read reported the end, and all bytes were read; a line that is no command needs none,
-- and none reported it
abbrev pub TellsEnd : Ended → SourceState → SourceState → Type 0
TellsEnd Command source source' = source'.ends ≡ source.ends
TellsEnd Input source source' = (source'.ends ≡ source.ends + 1) × IsAtEnd source'.left
TellsEnd Cut source source' = (source'.ends ≡ source.ends + 1) × IsAtEnd source'.left

-- at most `cost` rows were made, and whole texts were searched at most as often as these commands
-- may; no count decreased
pub record SearchesWithin (orders : List Order) (cost : ℕ) (ticks ticks' : Ticks) : Type 0 where
  pub rows : ticks'.count ≤ ticks.count + cost
  pub wholes : ticks'.wholes ≤ ticks.wholes + sum_by whole_searches orders
  pub never_fall : NeverFall ticks ticks'

-- the sink was flushed once, after everything was written
pub record FlushesAll (sink sink' : SinkState) : Type 0 where
  pub once : sink'.flushes ≡ sink.flushes + 1
  pub nothing_left : sink'.unflushed ≡ 0

-- the sink was not flushed; or once, if none of these bytes is lost
abbrev pub FlushesLast : SinkState → SinkState → List ℕ → Type 0
FlushesLast sink sink' lost =
    (sink'.flushes ≡ sink.flushes) ⊎ ((sink'.flushes ≡ sink.flushes + 1) × (lost ≡ []))

-- what was written is an answer to what was read
pub record IsAnswered (limit : ℕ) (ending : Ended) (source source' : SourceState)
    (sink sink' : SinkState) (ticks ticks' : Ticks) : Type 0 where
  pub input : List ℕ
  pub output : List ℕ
  pub cost : ℕ
  pub read : Consumes source.left source'.left input
  pub written : Appends sink.held sink'.held output
  pub answers : Answers limit input ending output cost
  pub told : TellsEnd ending source source'
  pub searches : SearchesWithin answers.orders cost ticks ticks'
  pub wide : source'.narrow ≡ source.narrow
  pub read_soundly : source'.failures ≡ source.failures
  pub wrote_soundly : sink'.failures ≡ sink.failures
  pub flushed : FlushesAll sink sink'

-- why no more bytes came: a read failed, or there were 2^62 of them
abbrev pub StopsFor : Broken → SourceState → SourceState → Type 0
StopsFor Read source source' = source'.failures ≡ source.failures + 1
StopsFor Turns source source' =
    (source'.failures ≡ source.failures) × (source.reads + 2 ^ 62 ≤ source'.reads)
StopsFor Write source source' = ⊥
StopsFor Memory source source' = ⊥

-- all replies to the commands that were read whole were written, and then there was an error
pub record StopsReading (limit : ℕ) (broken : Broken) (source source' : SourceState)
    (sink sink' : SinkState) (ticks ticks' : Ticks) : Type 0 where
  pub input : List ℕ
  pub orders : List Order
  pub ending : Ended
  pub output : List ℕ
  pub cost : ℕ
  pub last : State
  pub read : Consumes source.left source'.left input
  pub written : Appends sink.held sink'.held output
  pub reads : Reads input orders ending
  pub unfinished : ending ≢ Command
  pub run : Run limit first_state orders output cost last
  pub searches : SearchesWithin orders cost ticks ticks'
  pub why : StopsFor broken source source'
  pub open_end : source'.ends ≡ source.ends
  pub wide : source'.narrow ≡ source.narrow
  pub wrote_soundly : sink'.failures ≡ sink.failures
  pub flushed : sink'.flushes ≡ sink.flushes

-- the ending's line, if the ending was reached: by a line that is no command, or by a read that
-- reported the end
abbrev pub IsMet : Ended → SourceState → SourceState → List ℕ → Type 0
IsMet ending source source' line =
    ((line ≡ []) × (source'.ends ≡ source.ends))
    ⊎ ((line ≡ closing ending) × TellsEnd ending source source')

-- a prefix of the replies to the commands that were read whole, and of the ending's line if that
-- was reached, was written, and then the sink failed
pub record StopsWriting (limit : ℕ) (source source' : SourceState) (sink sink' : SinkState)
    (ticks ticks' : Ticks) : Type 0 where
  pub input : List ℕ
  pub orders : List Order
  pub ending : Ended
  pub replies : List ℕ
  pub cost : ℕ
  pub last : State
  pub line : List ℕ
  pub output : List ℕ
  pub lost : List ℕ
  pub read : Consumes source.left source'.left input
  pub written : Appends sink.held sink'.held output
  pub reads : Reads input orders ending
  pub run : Run limit first_state orders replies cost last
  pub met : IsMet ending source source' line
  pub front : replies ++ line ≡ output ++ lost
  pub searches : SearchesWithin orders cost ticks ticks'
  pub wide : source'.narrow ≡ source.narrow
  pub read_soundly : source'.failures ≡ source.failures
  pub failed : sink'.failures ≡ sink.failures + 1
  pub flushed : FlushesLast sink sink' lost

-- what a run with this result did
abbrev pub Ran : ℕ → Result Ended Broken → SourceState → SourceState → SinkState → SinkState → Ticks
    → Ticks → Type 0
Ran limit (Ok ending) source source' sink sink' ticks ticks' =
    IsAnswered limit ending source source' sink sink' ticks ticks'
-- nothing was read or written
Ran limit (Err Memory) source source' sink sink' ticks ticks' =
    (source' ≡ source) × (sink' ≡ sink) × (ticks' ≡ ticks)
Ran limit (Err Write) source source' sink sink' ticks ticks' =
    StopsWriting limit source source' sink sink' ticks ticks'
Ran limit (Err broken) source source' sink sink' ticks ticks' =
    StopsReading limit broken source source' sink sink' ticks ticks'

-- what was written to a sink is an answer to this whole input
pub record IsAnswerTo (limit : ℕ) (ending : Ended) (input : List ℕ) (sink sink' : SinkState)
    (ticks ticks' : Ticks) : Type 0 where
  pub output : List ℕ
  pub cost : ℕ
  pub written : Appends sink.held sink'.held output
  pub answers : Answers limit input ending output cost
  pub searches : SearchesWithin answers.orders cost ticks ticks'
  pub flushed : FlushesAll sink sink'

-- a run that ends has answered everything that its source had, if that is known
abbrev pub AnswersWhole : ℕ → Result Ended Broken → SourceState → SinkState → SinkState → Ticks
    → Ticks → Type 0
AnswersWhole limit (Ok ending) source sink sink' ticks ticks' =
    IfSome source.left (λ input. IsAnswerTo limit ending input sink sink' ticks ticks')
AnswersWhole limit (Err broken) source sink sink' ticks ticks' = Unit {0}

-- ---- inside a run

-- all that a run changes
pub record Scene : Type 0 where
  pub session : State
  pub buffer : Unread
  pub source : SourceState
  pub sink : SinkState
  pub ticks : Ticks

-- before anything is read: the first session
abbrev pub start : SourceState → SinkState → Ticks → Scene
start source sink ticks = record {
  session = first_state;
  buffer = record { bytes = []; reads = 0 };
  source = source;
  sink = sink;
  ticks = ticks;
}

-- a command was read and executed, and this is what was written of its reply
pub record Turned (limit : ℕ) (old new : Scene) (Written : List ℕ → Type 0) : Type 0 where
  pub order : Order
  pub bytes : List ℕ
  pub answer : Answer
  pub cost : ℕ
  pub spells : SpellsOrder order bytes
  pub taken : Takes old.buffer new.buffer old.source new.source bytes
  pub step : Step limit old.session order answer new.session
  pub costs : Costs limit old.session order cost
  pub reply : IsShown new.session answer Written
  pub searches : SearchesWithin (order ∷ []) cost old.ticks new.ticks

-- the session, the sink and the counts are unchanged
pub record OnlyReads (old new : Scene) : Type 0 where
  pub session : new.session ≡ old.session
  pub sink : new.sink ≡ old.sink
  pub ticks : new.ticks ≡ old.ticks

-- one turn: a command, or how the input ended, or why the run stopped
abbrev pub TakesTurn : ℕ → Result (Option Ended) Broken → Scene → Scene → Type 0
TakesTurn limit (Ok None) old new = Turned limit old new (Writes old.sink new.sink)
TakesTurn limit (Ok (Some ending)) old new =
    TakesEnding ending old.buffer new.buffer old.source new.source × OnlyReads old new
TakesTurn limit (Err Write) old new = Turned limit old new (WritesFront old.sink new.sink)
TakesTurn limit (Err broken) old new =
    TakesUnfinished broken old.buffer new.buffer old.source new.source × OnlyReads old new

-- the turns so far
pub record SoFar (limit : ℕ) (old now : Scene) : Type 0 where
  pub orders : List Order
  pub bytes : List ℕ
  pub out : List ℕ
  pub cost : ℕ
  pub spells : SpellAll orders bytes
  pub taken : Takes old.buffer now.buffer old.source now.source bytes
  pub run : Run limit old.session orders out cost now.session
  pub written : Writes old.sink now.sink out
  pub searches : SearchesWithin orders cost old.ticks now.ticks

-- the ending's line was written, and then the sink was flushed
pub record ClosesWhole (ending : Ended) (sink sink' : SinkState) : Type 0 where
  pub appended : Appends sink.held sink'.held (closing ending)
  pub sound : sink'.failures ≡ sink.failures
  pub flushed : FlushesAll sink sink'

-- a prefix of the ending's line was written, or all of it, and then the sink failed
pub record ClosesFront (ending : Ended) (sink sink' : SinkState) : Type 0 where
  pub front : List ℕ
  pub lost : List ℕ
  pub split : closing ending ≡ front ++ lost
  pub appended : Appends sink.held sink'.held front
  pub failed : sink'.failures ≡ sink.failures + 1
  pub flushed : FlushesLast sink sink' lost

-- the ending's line was written and flushed, or a prefix of it was written
abbrev pub Closes : {T : Type 0} → Result T Broken → Ended → SinkState → SinkState → Type 0
Closes (Ok done) ending sink sink' = ClosesWhole ending sink sink'
Closes (Err Write) ending sink sink' = ClosesFront ending sink sink'
Closes (Err broken) ending sink sink' = ⊥
