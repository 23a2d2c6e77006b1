-- One turn of a run, and the turns so far.
use Rattle.std.proofs.Common.{ℕ, ◌+◌, List, [], ◌∷◌, ◌++◌, Err, refl, arith}
use Rattle.std.proofs.KnownBytes.{Appends-trans, Appends-nil}
use Rattle.std.proofs.lemmas.List.Sums.{sum_by-append}
use Rattle.rope_search_io.specs.declared.faults.Broken.{Broken}
use Rattle.rope_search_io.specs.declared.faults.Broken.TheVariants.{Read, Write, Turns, Memory}
use Rattle.rope_search_io.specs.Sources.{SinkState}
use Rattle.rope_search_io.specs.WriteBuffer.{Writes, WritesFront, WritesUntil}
use Rattle.rope_search_reports.specs.Ticks.{Ticks}
use Rattle.rope_search.specs.Order.{Order}
use Rattle.rope_search.specs.Session.{State}
use Rattle.rope_search.specs.Step.{Answer, Step}
use Rattle.rope_search.specs.Shows.{IsShown}
use Rattle.rope_search.specs.Cost.{Costs, SearchesFor, whole_searches}
use Rattle.rope_search.specs.Requests.{TakesOrder}
use Rattle.rope_search.specs.Runs.{SearchesWithin, Scene, Turned, TakesTurn, SoFar}
use Rattle.rope_search.specs.Laws.{AllHoldTexts, Known}
use Rattle.rope_search.proofs.StepLaws.{costs_exist}
use Rattle.rope_search.proofs.RunLaws.{SpellAll-append, SpellAll-one, Run-nil, Run-push}
use Rattle.rope_search.proofs.TakesLemmas.{Takes-nil, Takes-trans}

-- ---- what is searched

-- by no command
pub SearchesWithin-none : (t : Ticks) → SearchesWithin [] 0 t t
SearchesWithin-none t = record { rows = omega arith; wholes = omega arith; never_fall = record { rows = omega arith; wholes = omega arith } }

-- by one command
pub SearchesWithin-one : (limit : ℕ) (s : State) (o : Order) (cost : ℕ) (t u : Ticks) → Costs limit s o cost → SearchesFor limit s o t u → SearchesWithin (o ∷ []) cost t u
SearchesWithin-one limit s o cost t u costs searches = record { rows = searches.rows cost costs; wholes = omega (arith, searches.wholes); never_fall = searches.never_fall }

-- by commands and then by others
pub SearchesWithin-trans : (os ps : List Order) (m n : ℕ) (t u v : Ticks) → SearchesWithin os m t u → SearchesWithin ps n u v → SearchesWithin (os ++ ps) (m + n) t v
SearchesWithin-trans os ps m n t u v before after = record {
  rows = omega (arith, before.rows, after.rows);
  wholes = omega (arith, before.wholes, after.wholes, sum_by-append whole_searches os ps);
  never_fall = record {
    rows = omega (arith, before.never_fall.rows, after.never_fall.rows);
    wholes = omega (arith, before.never_fall.wholes, after.never_fall.wholes);
  };
}

-- more commands after them allow more
pub SearchesWithin-more : (os ps : List Order) (m n : ℕ) (t u : Ticks) → SearchesWithin os m t u → SearchesWithin (os ++ ps) (m + n) t u
SearchesWithin-more os ps m n t u before = record {
  rows = omega (arith, before.rows);
  wholes = omega (arith, before.wholes, sum_by-append whole_searches os ps);
  never_fall = before.never_fall;
}

-- ---- one turn

-- a command that was read whole was executed, and this is what was written of its answer
pub Turned-given : (known : Known) (limit : ℕ) (Is : Order → Type 0) (answer : Answer) (old new : Scene) (Written : List ℕ → Type 0) → AllHoldTexts old.session
    → TakesOrder Is old.buffer new.buffer old.source new.source
    → ((order : Order) → Is order → Step limit old.session order answer new.session)
    → ((order : Order) → Is order → SearchesFor limit old.session order old.ticks new.ticks)
    → IsShown new.session answer Written → Turned limit old new Written
Turned-given known limit Is answer old new Written all read step searches written =
    let cost = costs_exist known limit old.session read.order all in
    record {
      order = read.order;
      bytes = read.bytes;
      answer = answer;
      cost = cost.0;
      spells = read.spells;
      taken = read.taken;
      step = step read.order read.is;
      costs = cost.1;
      reply = written;
      searches = SearchesWithin-one limit old.session read.order cost.0 old.ticks new.ticks cost.1 (searches read.order read.is);
    }

-- a sink that failed in the middle of an answer
pub TakesTurn-failed : (limit : ℕ) (broken : Broken) (answer : Answer) (old new : Scene)
    → ((Written : List ℕ → Type 0) → IsShown new.session answer Written → Turned limit old new Written)
    → IsShown new.session answer (WritesUntil broken old.sink new.sink) → TakesTurn limit (Err broken) old new
TakesTurn-failed limit Write answer old new turned front = turned (WritesFront old.sink new.sink) front
TakesTurn-failed limit Read answer old new turned front = absurd front.written
TakesTurn-failed limit Turns answer old new turned front = absurd front.written
TakesTurn-failed limit Memory answer old new turned front = absurd front.written

-- ---- the turns so far

Writes-nil : (s : SinkState) → Writes s s []
Writes-nil s = record { appended = Appends-nil s.held; sound = refl; flushed = refl }

pub Writes-then : (a b c : SinkState) (xs ys : List ℕ) → Writes a b xs → Writes b c ys → Writes a c (xs ++ ys)
Writes-then a b c xs ys first second = record {
  appended = Appends-trans a.held b.held c.held xs ys first.appended second.appended;
  sound = omega (arith, first.sound, second.sound);
  flushed = omega (arith, first.flushed, second.flushed);
}

-- no turn yet
pub SoFar-none : (limit : ℕ) (scene : Scene) → SoFar limit scene scene
SoFar-none limit scene = record {
  orders = [];
  bytes = [];
  out = [];
  cost = 0;
  spells = refl;
  taken = Takes-nil scene.buffer scene.source;
  run = Run-nil limit scene.session;
  written = Writes-nil scene.sink;
  searches = SearchesWithin-none scene.ticks;
}

-- one more turn
pub SoFar-push : (limit : ℕ) (old mid new : Scene) → SoFar limit old mid → Turned limit mid new (Writes mid.sink new.sink) → SoFar limit old new
SoFar-push limit old mid new so turned = record {
  orders = so.orders ++ turned.order ∷ [];
  bytes = so.bytes ++ turned.bytes;
  out = so.out ++ turned.reply.bytes;
  cost = so.cost + turned.cost;
  spells = SpellAll-append so.orders (turned.order ∷ []) so.bytes turned.bytes so.spells (SpellAll-one turned.order turned.bytes turned.spells);
  taken = Takes-trans old.buffer mid.buffer new.buffer old.source mid.source new.source so.bytes turned.bytes so.taken turned.taken;
  run = Run-push limit old.session mid.session new.session so.orders turned.order so.out so.cost turned.cost turned.answer turned.reply.bytes so.run turned.step turned.costs turned.reply.shows;
  written = Writes-then old.sink mid.sink new.sink so.out turned.reply.bytes so.written turned.reply.written;
  searches = SearchesWithin-trans so.orders (turned.order ∷ []) so.cost turned.cost old.ticks mid.ticks new.ticks so.searches turned.searches;
}
