-- How a run ends, from the turns before and what came after them.
use Rattle.std.proofs.Common.{◌≡◌, ◌≢◌, ℕ, ◌+◌, List, [], ◌∷◌, ◌++◌, Option, None, Some, IfSome, Result, Ok, Err, refl, sym, ap, ◌∙◌, subst, inl, inr, append_assoc, append-nil, arith}
use Rattle.std.proofs.KnownBytes.{Appends-trans, Consumes-trans}
use Rattle.std.specs.Io.KnownBytes.{Appends, Consumes, prepend_known, IsAtEnd}
use Rattle.rope_search_io.specs.declared.faults.Broken.{Broken}
use Rattle.rope_search_io.specs.declared.faults.Broken.TheVariants.{Read, Write, Turns, Memory}
use Rattle.rope_search_io.specs.Sources.{SourceState, SinkState}
use Rattle.rope_search_io.specs.ReadBuffer.{to_come}
use Rattle.rope_search_io.specs.WriteBuffer.{Writes, WritesFront}
use Rattle.rope_search_reports.specs.Laws.{HasReport}
use Rattle.rope_search.specs.declared.endings.Ended.{Ended}
use Rattle.rope_search.specs.declared.endings.Ended.TheVariants.{Input, Command, Cut}
use Rattle.rope_search_reports.specs.Ticks.{Ticks}
use Rattle.rope_search.specs.Session.{first_state}
use Rattle.rope_search.specs.Shows.{closing}
use Rattle.rope_search.specs.Reads.{Reads, Ends}
use Rattle.rope_search.specs.Answers.{Answers}
use Rattle.rope_search.specs.Requests.{TakesEnding, IsUnfinished}
use Rattle.rope_search.specs.Runs.{Scene, start, SoFar, Turned, TakesTurn, OnlyReads, TellsEnd, SearchesWithin, FlushesAll, FlushesLast, IsAnswered, IsAnswerTo, AnswersWhole, StopsFor, StopsReading, StopsWriting, Ran, Closes, ClosesWhole, ClosesFront}
use Rattle.rope_search.specs.Laws.{Known}
use Rattle.rope_search.proofs.RunLaws.{Ends-more, Reads-more, Reads-after, Run-append, Run-push, SpellAll-append, SpellAll-one}
use Rattle.rope_search.proofs.TurnLemmas.{SearchesWithin-more, SearchesWithin-trans}
use Rattle.rope_search.proofs.ExistLaws.{run_exists}
use Rattle.rope_search.proofs.TextLaws.{holds_always}
use Rattle.rope_search.proofs.ReadLaws.{reads_exist}

-- what was read from the source: the bytes that were taken, and those that are still buffered
pub consumed_all : (left left' : Option (List ℕ)) (bytes back : List ℕ) → Consumes (prepend_known [] left) (prepend_known back left') bytes → Consumes left left' (bytes ++ back)
consumed_all None left' bytes back p = tt
consumed_all (Some xs) None bytes back p = absurd p
consumed_all (Some xs) (Some ys) bytes back p = p ∙ sym (append_assoc bytes back ys)

-- ---- the input ended

-- the bytes after the last command, and the ending that they mean
record Left (ending : Ended) (source : SourceState) (mid new : Scene) : Type 0 where
  rest : List ℕ
  ends : Ends (rest ++ new.buffer.bytes) ending
  consumed : Consumes (to_come mid.buffer mid.source) (to_come new.buffer new.source) rest
  sound : new.source.failures ≡ mid.source.failures
  wide : new.source.narrow ≡ mid.source.narrow
  told : TellsEnd ending source new.source

nothing_unread : (rest back : List ℕ) → back ≡ [] → rest ≡ rest ++ back
nothing_unread rest back none = sym (append-nil rest) ∙ ap (λ l. rest ++ l) (sym none)

left_by : (limit : ℕ) (ending : Ended) (source : SourceState) (sink : SinkState) (ticks : Ticks) (mid new : Scene)
    → SoFar limit (start source sink ticks) mid → TakesEnding ending mid.buffer new.buffer mid.source new.source → Left ending source mid new
left_by limit Command source sink ticks mid new so end = record {
  rest = end.rest;
  ends = Ends-more end.rest new.buffer.bytes end.ends;
  consumed = end.taken.consumed;
  sound = end.taken.sound;
  wide = end.taken.wide;
  told = end.taken.open_end ∙ so.taken.open_end;
}
left_by limit Input source sink ticks mid new so end = record {
  rest = end.rest;
  ends = subst (λ l. Ends l Input) (nothing_unread end.rest new.buffer.bytes end.taken.empty) end.ends;
  consumed = end.taken.consumed;
  sound = end.taken.sound;
  wide = end.taken.wide;
  told = (end.taken.told ∙ ap (λ n. n + 1) so.taken.open_end, end.taken.at_end);
}
left_by limit Cut source sink ticks mid new so end = record {
  rest = end.rest;
  ends = subst (λ l. Ends l Cut) (nothing_unread end.rest new.buffer.bytes end.taken.empty) end.ends;
  consumed = end.taken.consumed;
  sound = end.taken.sound;
  wide = end.taken.wide;
  told = (end.taken.told ∙ ap (λ n. n + 1) so.taken.open_end, end.taken.at_end);
}

-- all bytes that were read are the commands so far and the rest
reads_left : (limit : ℕ) (ending : Ended) (source : SourceState) (sink : SinkState) (ticks : Ticks) (mid new : Scene)
    (so : SoFar limit (start source sink ticks) mid) (left : Left ending source mid new) → Reads ((so.bytes ++ left.rest) ++ new.buffer.bytes) so.orders ending
reads_left limit ending source sink ticks mid new so left = record {
  spelled = so.bytes;
  rest = left.rest ++ new.buffer.bytes;
  spells = so.spells;
  ends = left.ends;
  whole = append_assoc so.bytes left.rest new.buffer.bytes;
}

consumed_left : (limit : ℕ) (source : SourceState) (sink : SinkState) (ticks : Ticks) (mid new : Scene) (so : SoFar limit (start source sink ticks) mid) (rest : List ℕ)
    → Consumes (to_come mid.buffer mid.source) (to_come new.buffer new.source) rest → Consumes source.left new.source.left ((so.bytes ++ rest) ++ new.buffer.bytes)
consumed_left limit source sink ticks mid new so rest consumed =
    consumed_all source.left new.source.left (so.bytes ++ rest) new.buffer.bytes
    (Consumes-trans (prepend_known [] source.left) (to_come mid.buffer mid.source) (to_come new.buffer new.source) so.bytes rest so.taken.consumed consumed)

pub Ran-answered : (limit : ℕ) (ending : Ended) (source : SourceState) (sink sink' : SinkState) (ticks : Ticks) (mid new : Scene)
    → SoFar limit (start source sink ticks) mid → TakesEnding ending mid.buffer new.buffer mid.source new.source → OnlyReads mid new
    → ClosesWhole ending new.sink sink' → IsAnswered limit ending source new.source sink sink' ticks new.ticks
Ran-answered limit ending source sink sink' ticks mid new so end only closed =
    let left = left_by limit ending source sink ticks mid new so end in
    record {
      input = (so.bytes ++ left.rest) ++ new.buffer.bytes;
      output = so.out ++ closing ending;
      cost = so.cost;
      read = consumed_left limit source sink ticks mid new so left.rest left.consumed;
      written = Appends-trans sink.held mid.sink.held sink'.held so.out (closing ending) so.written.appended
          (subst (λ (s : SinkState). Appends s.held sink'.held (closing ending)) only.sink closed.appended);
      answers = record { orders = so.orders; replies = so.out; last = mid.session; reads = reads_left limit ending source sink ticks mid new so left; run = so.run; shown = refl };
      told = left.told;
      searches = subst (SearchesWithin so.orders so.cost ticks) (sym only.ticks) so.searches;
      wide = left.wide ∙ so.taken.wide;
      read_soundly = left.sound ∙ so.taken.sound;
      wrote_soundly = closed.sound ∙ ap (λ (s : SinkState). s.failures) only.sink ∙ so.written.sound;
      flushed = record {
        once = closed.flushed.once ∙ ap (λ (s : SinkState). s.flushes + 1) only.sink ∙ ap (λ n. n + 1) so.written.flushed;
        nothing_left = closed.flushed.nothing_left;
      };
    }

-- what was written before wasn't flushed
FlushesLast-after : (a b c : SinkState) (lost : List ℕ) → b.flushes ≡ a.flushes → FlushesLast b c lost → FlushesLast a c lost
FlushesLast-after a b c lost same last = elim last [ inl none ↦ inl (none ∙ same) | inr once ↦ inr (once.0 ∙ ap (λ n. n + 1) same, once.1) ]

-- the ending's line wasn't written whole, or the flush failed
unclosed : (limit : ℕ) (ending : Ended) (source : SourceState) (sink sink' : SinkState) (ticks : Ticks) (mid new : Scene)
    → SoFar limit (start source sink ticks) mid → TakesEnding ending mid.buffer new.buffer mid.source new.source → OnlyReads mid new
    → ClosesFront ending new.sink sink' → StopsWriting limit source new.source sink sink' ticks new.ticks
unclosed limit ending source sink sink' ticks mid new so end only closed =
    let left = left_by limit ending source sink ticks mid new so end in
    record {
      input = (so.bytes ++ left.rest) ++ new.buffer.bytes;
      orders = so.orders;
      ending = ending;
      replies = so.out;
      cost = so.cost;
      last = mid.session;
      line = closing ending;
      output = so.out ++ closed.front;
      lost = closed.lost;
      read = consumed_left limit source sink ticks mid new so left.rest left.consumed;
      written = Appends-trans sink.held mid.sink.held sink'.held so.out closed.front so.written.appended
          (subst (λ (s : SinkState). Appends s.held sink'.held closed.front) only.sink closed.appended);
      reads = reads_left limit ending source sink ticks mid new so left;
      run = so.run;
      met = inr (refl, left.told);
      front = ap (λ l. so.out ++ l) closed.split ∙ sym (append_assoc so.out closed.front closed.lost);
      searches = subst (SearchesWithin so.orders so.cost ticks) (sym only.ticks) so.searches;
      wide = left.wide ∙ so.taken.wide;
      read_soundly = left.sound ∙ so.taken.sound;
      failed = closed.failed ∙ ap (λ (s : SinkState). s.failures + 1) only.sink ∙ ap (λ n. n + 1) so.written.sound;
      flushed = FlushesLast-after sink new.sink sink' closed.lost (ap (λ (s : SinkState). s.flushes) only.sink ∙ so.written.flushed) closed.flushed;
    }

pub Ran-unclosed : (limit : ℕ) (broken : Broken) (ending : Ended) (source : SourceState) (sink sink' : SinkState) (ticks : Ticks) (mid new : Scene)
    → SoFar limit (start source sink ticks) mid → TakesEnding ending mid.buffer new.buffer mid.source new.source → OnlyReads mid new
    → Closes {T = Unit {0}} (Err broken) ending new.sink sink' → Ran limit (Err broken) source new.source sink sink' ticks new.ticks
Ran-unclosed limit Write ending source sink sink' ticks mid new so end only closed = unclosed limit ending source sink sink' ticks mid new so end only closed
Ran-unclosed limit Read ending source sink sink' ticks mid new so end only closed = absurd closed
Ran-unclosed limit Turns ending source sink sink' ticks mid new so end only closed = absurd closed
Ran-unclosed limit Memory ending source sink sink' ticks mid new so end only closed = absurd closed

-- ---- no more bytes came

-- how the bytes after the last command would end the input
record Unfinished (rest : List ℕ) : Type 0 where
  ending : Ended
  ends : Ends rest ending
  unmet : ending ≢ Command

unfinished_by : (rest : List ℕ) → IsUnfinished rest → Unfinished rest
unfinished_by rest h = elim h [ inl empty ↦ record { ending = Input; ends = empty; unmet = λ e. cc } | inr part ↦ record { ending = Cut; ends = part; unmet = λ e. cc } ]

stopped : (limit : ℕ) (broken : Broken) (source : SourceState) (sink : SinkState) (ticks : Ticks) (mid new : Scene)
    → SoFar limit (start source sink ticks) mid → OnlyReads mid new → (rest : List ℕ) → IsUnfinished rest
    → Consumes (to_come mid.buffer mid.source) (to_come new.buffer new.source) rest → new.buffer.bytes ≡ []
    → StopsFor broken source new.source → new.source.ends ≡ mid.source.ends → new.source.narrow ≡ mid.source.narrow → StopsReading limit broken source new.source sink new.sink ticks new.ticks
stopped limit broken source sink ticks mid new so only rest unfinished consumed none why open_end wide =
    let how = unfinished_by rest unfinished in
    record {
      input = (so.bytes ++ rest) ++ new.buffer.bytes;
      orders = so.orders;
      ending = how.ending;
      output = so.out;
      cost = so.cost;
      last = mid.session;
      read = consumed_left limit source sink ticks mid new so rest consumed;
      written = subst (λ (s : SinkState). Appends sink.held s.held so.out) (sym only.sink) so.written.appended;
      reads = record {
        spelled = so.bytes;
        rest = rest;
        spells = so.spells;
        ends = how.ends;
        whole = sym (nothing_unread (so.bytes ++ rest) new.buffer.bytes none);
      };
      unfinished = how.unmet;
      run = so.run;
      searches = subst (SearchesWithin so.orders so.cost ticks) (sym only.ticks) so.searches;
      why = why;
      open_end = open_end ∙ so.taken.open_end;
      wide = wide ∙ so.taken.wide;
      wrote_soundly = ap (λ (s : SinkState). s.failures) only.sink ∙ so.written.sound;
      flushed = ap (λ (s : SinkState). s.flushes) only.sink ∙ so.written.flushed;
    }

-- ---- the sink failed in the middle of a reply

cut_short : Known → HasReport → (limit : ℕ) (source : SourceState) (sink : SinkState) (ticks : Ticks) (mid new : Scene)
    → SoFar limit (start source sink ticks) mid → Turned limit mid new (WritesFront mid.sink new.sink) → StopsWriting limit source new.source sink new.sink ticks new.ticks
cut_short known reported limit source sink ticks mid new so turned =
    let bytes = so.bytes ++ turned.bytes in
    let orders = so.orders ++ turned.order ∷ [] in
    let shown = turned.reply.bytes in
    let spells = SpellAll-append so.orders (turned.order ∷ []) so.bytes turned.bytes so.spells (SpellAll-one turned.order turned.bytes turned.spells) in
    let run = Run-push limit first_state mid.session new.session so.orders turned.order so.out so.cost turned.cost turned.answer shown so.run turned.step turned.costs turned.reply.shows in
    let unread = reads_exist new.buffer.bytes in
    let later = run_exists known reported limit new.session unread.0 (holds_always known limit new.session (so.orders ++ turned.order ∷ []) (so.out ++ turned.reply.bytes) (so.cost + turned.cost) run) in
    record {
      input = bytes ++ new.buffer.bytes;
      orders = orders ++ unread.0;
      ending = unread.1;
      replies = (so.out ++ shown) ++ later.0;
      cost = (so.cost + turned.cost) + later.1;
      last = later.2;
      line = [];
      output = so.out ++ turned.reply.written.front;
      lost = turned.reply.written.lost ++ later.0;
      read = consumed_left limit source sink ticks mid new so turned.bytes turned.taken.consumed;
      written = Appends-trans sink.held mid.sink.held new.sink.held so.out turned.reply.written.front so.written.appended turned.reply.written.appended;
      reads = Reads-after orders unread.0 unread.1 bytes new.buffer.bytes spells unread.2;
      run = Run-append limit first_state new.session later.2 orders unread.0 (so.out ++ shown) later.0 (so.cost + turned.cost) later.1 run later.3;
      met = inl (refl, turned.taken.open_end ∙ so.taken.open_end);
      front = append-nil ((so.out ++ shown) ++ later.0) ∙ ap (λ l. (so.out ++ l) ++ later.0) turned.reply.written.split
          ∙ ap (λ l. l ++ later.0) (sym (append_assoc so.out turned.reply.written.front turned.reply.written.lost)) ∙ append_assoc (so.out ++ turned.reply.written.front) turned.reply.written.lost later.0;
      searches = SearchesWithin-more orders unread.0 (so.cost + turned.cost) later.1 ticks new.ticks
          (SearchesWithin-trans so.orders (turned.order ∷ []) so.cost turned.cost ticks mid.ticks new.ticks so.searches turned.searches);
      wide = turned.taken.wide ∙ so.taken.wide;
      read_soundly = turned.taken.sound ∙ so.taken.sound;
      failed = turned.reply.written.failed ∙ ap (λ n. n + 1) so.written.sound;
      flushed = inl (turned.reply.written.flushed ∙ so.written.flushed);
    }

pub Ran-broken : Known → HasReport → (limit : ℕ) (broken : Broken) (source : SourceState) (sink : SinkState) (ticks : Ticks) (mid new : Scene)
    → SoFar limit (start source sink ticks) mid → TakesTurn limit (Err broken) mid new → Ran limit (Err broken) source new.source sink new.sink ticks new.ticks
Ran-broken known reported limit Write source sink ticks mid new so turn = cut_short known reported limit source sink ticks mid new so turn
Ran-broken known reported limit Read source sink ticks mid new so turn =
    let taken = turn.0.taken in
    stopped limit Read source sink ticks mid new so turn.1 turn.0.rest turn.0.unfinished taken.consumed taken.empty
    (taken.failed ∙ ap (λ n. n + 1) so.taken.sound) taken.open_end taken.wide
Ran-broken known reported limit Turns source sink ticks mid new so turn =
    let taken = turn.0.taken in
    stopped limit Turns source sink ticks mid new so turn.1 turn.0.rest turn.0.unfinished taken.consumed taken.empty
    (taken.sound ∙ so.taken.sound, omega (arith, taken.many, taken.counted, so.taken.counted)) taken.open_end taken.wide
Ran-broken known reported limit Memory source sink ticks mid new so turn = absurd turn.0.taken

-- ---- the whole input

-- an answer, with at most the searches of its commands
record AnswersWithin (limit : ℕ) (input : List ℕ) (ending : Ended) (output : List ℕ) (cost : ℕ) (ticks ticks' : Ticks) : Type 0 where
  answers : Answers limit input ending output cost
  searches : SearchesWithin answers.orders cost ticks ticks'

-- an answer to what was read is one to the whole input: the rest is empty, or follows a line that
-- is no command
whole_input : (limit : ℕ) (whole input rest output : List ℕ) (ending : Ended) (cost : ℕ) (ticks ticks' : Ticks) → (ending ≢ Command → rest ≡ [])
    → whole ≡ input ++ rest → AnswersWithin limit input ending output cost ticks ticks' → AnswersWithin limit whole ending output cost ticks ticks'
whole_input limit whole input rest output Command cost ticks ticks' end split h =
    subst (λ l. AnswersWithin limit l Command output cost ticks ticks') (sym split) (record {
      answers = record {
        orders = h.answers.orders;
        replies = h.answers.replies;
        last = h.answers.last;
        reads = Reads-more input rest h.answers.orders h.answers.reads;
        run = h.answers.run;
        shown = h.answers.shown;
      };
      searches = h.searches;
    })
whole_input limit whole input rest output Input cost ticks ticks' end split h =
    subst (λ l. AnswersWithin limit l Input output cost ticks ticks') (sym (split ∙ ap (λ l. input ++ l) (end (λ e. cc)) ∙ append-nil input)) h
whole_input limit whole input rest output Cut cost ticks ticks' end split h =
    subst (λ l. AnswersWithin limit l Cut output cost ticks ticks') (sym (split ∙ ap (λ l. input ++ l) (end (λ e. cc)) ∙ append-nil input)) h

-- if a read reported the end, nothing is left
none_left : (ending : Ended) (source source' : SourceState) → TellsEnd ending source source' → ending ≢ Command → IsAtEnd source'.left
none_left Command source source' told other = absurd (other refl)
none_left Input source source' told other = told.1
none_left Cut source source' told other = told.1

whole_answer : (limit : ℕ) (ending : Ended) (left left' : Option (List ℕ)) (input output : List ℕ) (cost : ℕ) (ticks ticks' : Ticks)
    → Consumes left left' input → (ending ≢ Command → IsAtEnd left') → AnswersWithin limit input ending output cost ticks ticks'
    → IfSome left (λ whole. AnswersWithin limit whole ending output cost ticks ticks')
whole_answer limit ending None left' input output cost ticks ticks' read end h = tt
whole_answer limit ending (Some whole) None input output cost ticks ticks' read end h = absurd read
whole_answer limit ending (Some whole) (Some rest) input output cost ticks ticks' read end h =
    whole_input limit whole input rest output ending cost ticks ticks' end read h

answer_to : (limit : ℕ) (ending : Ended) (left : Option (List ℕ)) (output : List ℕ) (cost : ℕ) (sink sink' : SinkState) (ticks ticks' : Ticks)
    → IfSome left (λ whole. AnswersWithin limit whole ending output cost ticks ticks') → Appends sink.held sink'.held output → FlushesAll sink sink'
    → IfSome left (λ whole. IsAnswerTo limit ending whole sink sink' ticks ticks')
answer_to limit ending None output cost sink sink' ticks ticks' h written flushed = tt
answer_to limit ending (Some whole) output cost sink sink' ticks ticks' h written flushed =
    record { output = output; cost = cost; written = written; answers = h.answers; searches = h.searches; flushed = flushed }

AnswersWhole-answered : (limit : ℕ) (ending : Ended) (source source' : SourceState) (sink sink' : SinkState) (ticks ticks' : Ticks)
    → IsAnswered limit ending source source' sink sink' ticks ticks' → AnswersWhole limit (Ok ending) source sink sink' ticks ticks'
AnswersWhole-answered limit ending source source' sink sink' ticks ticks' h =
    answer_to limit ending source.left h.output h.cost sink sink' ticks ticks'
    (whole_answer limit ending source.left source'.left h.input h.output h.cost ticks ticks' h.read (none_left ending source source' h.told)
    (record { answers = h.answers; searches = h.searches })) h.written h.flushed

pub AnswersWhole-ran : (limit : ℕ) (r : Result Ended Broken) (source source' : SourceState) (sink sink' : SinkState) (ticks ticks' : Ticks)
    → Ran limit r source source' sink sink' ticks ticks' → AnswersWhole limit r source sink sink' ticks ticks'
AnswersWhole-ran limit (Ok ending) source source' sink sink' ticks ticks' h = AnswersWhole-answered limit ending source source' sink sink' ticks ticks' h
AnswersWhole-ran limit (Err broken) source source' sink sink' ticks ticks' h = tt

-- a limit under another name
pub TakesTurn-at : (m n : ℕ) (broken : Broken) (old new : Scene) → m ≡ n → TakesTurn m (Err broken) old new → TakesTurn n (Err broken) old new
TakesTurn-at m n broken old new same turn = subst (λ limit. TakesTurn limit (Err broken) old new) same turn

pub Turned-at : (m n : ℕ) (old new : Scene) → m ≡ n → TakesTurn m (Ok None) old new → Turned n old new (Writes old.sink new.sink)
Turned-at m n old new same turn = subst (λ limit. TakesTurn limit (Ok None) old new) same turn
