use Rattle.std.proofs.Common.{true, Some, None, Ok, Err, ap, refl, sym, subst}
use Rattle.rx_chunk.specs.Engines.{EngineFinds, match_of}
use Rattle.rx_chunk.specs.Iterating.{GivesNext}
use Rattle.regex_cursor.specs.Iterating as iterating
use Rattle.regex_cursor.specs.Splitting.{EndsWith, SplitsOff, end_of_search, over, at_match, at_end, no_end, refused, span_from_to, regex_in, left_in}
use Rattle.regex_cursor.proofs.engines.meta.splitter.Splitter.next.Goals as goal

pub returns-then-self-clause-next : goal.returns-then-self-clause-next
returns-then-self-clause-next g c = over c.if-self.true refl

pub returns-in-Some-Ok-clause-next : goal.returns-in-Some-Ok-clause-next
returns-in-Some-Ok-clause-next g c =
    let m = c.args.self.now in
    let i = c.args.input.now in
    let n = record m { finder = c.next.new.self; last = c.end-self.result } in
    let next = subst (λ r. GivesNext (EngineFinds (regex_in m).engine) match_of (iterating.left_in m.finder i) (Some r) (iterating.left_in c.next.new.self c.next.new.input)) c.in-Some-Ok.field-0-is c.in-Some-Ok.ensures.next in
    subst (λ k. SplitsOff (EngineFinds (regex_in m).engine) (left_in m i) (left_in n c.next.new.input) (Some (Ok (span_from_to m.last k)))) (sym c.start.ensures.start) (at_match c.if-self.false next c.end-self.ensures.end c.if-self.false)

pub returns-in-Some-Err-clause-next : goal.returns-in-Some-Err-clause-next
returns-in-Some-Err-clause-next g c =
    let m = c.args.self.now in
    let i = c.args.input.now in
    let n = record m { finder = c.next.new.self; is_over = true } in
    let next = subst (λ r. GivesNext (EngineFinds (regex_in m).engine) match_of (iterating.left_in m.finder i) (Some r) (iterating.left_in c.next.new.self c.next.new.input)) c.in-Some-Err.field-0-is c.in-Some-Err.ensures.next in
    subst (λ e. SplitsOff (EngineFinds (regex_in m).engine) (left_in m i) (left_in n c.next.new.input) (Some (Err e))) (sym next.refused) (refused c.if-self.false refl)

pub returns-in-Some-clause-next : goal.returns-in-Some-clause-next
returns-in-Some-clause-next g c =
    let m = c.args.self.now in
    let i = c.args.input.now in
    let same = ap end_of_search c.in-None.ensures.goes_on.1 in
    subst (λ x. SplitsOff (EngineFinds (regex_in m).engine) (left_in m i) x (Some (Ok c.in-Some.part))) (sym c.in-Some.ensures.left) (at_end c.if-self.false c.in-None.ensures.next (subst (λ e. EndsWith m.last e (Some c.in-Some.part)) same c.in-Some.ensures.rest) refl)

pub returns-in-None-rest-clause-next : goal.returns-in-None-rest-clause-next
returns-in-None-rest-clause-next g c =
    let m = c.args.self.now in
    let i = c.args.input.now in
    let same = ap end_of_search c.in-None.ensures.goes_on.1 in
    subst (λ x. SplitsOff (EngineFinds (regex_in m).engine) (left_in m i) x None) (sym c.in-None-rest.ensures.left) (no_end c.if-self.false c.in-None.ensures.next (subst (λ e. EndsWith m.last e None) same c.in-None-rest.ensures.rest) refl)
