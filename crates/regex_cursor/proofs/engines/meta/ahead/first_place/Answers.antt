use Rattle.std.proofs.Common.{◌≤◌, max, Some, None, refl, ap, subst, ◌∙◌, arith}
use Rattle.rx_util.specs.declared.search.Span.{Span}
use Rattle.rx_steps.specs.Searching.{search_of}
use Rattle.rx_dfa.specs.Searching.{IsHalfAnswer}
use Rattle.rx_chunk.specs.Engines.{Finds}
use Rattle.regex_cursor.specs.Strategies.{IsTold}
use Rattle.regex_cursor.proofs.AheadLaws.{half_there, kept_still, none_there, place_asked, place_search, starts_inside, starts_last}
use Rattle.regex_cursor.proofs.engines.meta.ahead.first_place.Goals as goal

pub loop-place-init : goal.loop-place-init
loop-place-init g c =
    let re = c.args.strategy.now.vm in
    let i = c.args.input.now in
    let slice = ap (λ (x : Span). x.start) c.get_slice.ensures in
    let low : c.max-place.result ≤ max i.asked.span.start i.asked.slice.start = omega (arith, c.max-place.ensures, c.start.ensures, slice) in
    record {
      high = omega (arith, c.max-place.ensures, c.start.ensures);
      behind = starts_inside re.program (search_of re.utf8_empty i) c.max-place.result low;
      serve = c.requires.serve;
      core = refl;
      asked = (i.asked.span.start, refl);
      same = record { content = refl; is_sized = refl };
    }

pub returns-in-Ends-clause-start : goal.returns-in-Ends-clause-start
returns-in-Ends-clause-start g c =
    let re = c.args.strategy.now.vm in
    let i = c.args.input.now in
    let s = search_of re.utf8_empty i in
    let k = c.set_start.new.self in
    let inv = c.loop-place.invariant in
    let place = c.loop-place.place in
    let search = place_search i c.loop-place.input k place inv.asked c.set_start.ensures re.utf8_empty c.requires.anchored inv.same in
    let told = subst (λ x. IsTold re.program (search_of re.utf8_empty k) x) c.in-Ends.is c.in_ok-told.ensures.told in
    half_there re.program s place inv.high inv.behind c.in-Ends.field-0 (subst (λ x. IsHalfAnswer re.program x (Some c.in-Ends.field-0)) search told)

pub loop-place-preserved : goal.loop-place-preserved
loop-place-preserved g c =
    let re = c.args.strategy.now.vm in
    let i = c.args.input.now in
    let s = search_of re.utf8_empty i in
    let k = c.set_start.new.self in
    let inv = c.loop-place.invariant in
    let place = c.loop-place.place in
    let search = place_search i c.loop-place.input k place inv.asked c.set_start.ensures re.utf8_empty c.requires.anchored inv.same in
    let told = subst (λ x. IsTold re.program (search_of re.utf8_empty k) x) c.in-NoMatch.is c.in_ok-told.ensures.told in
    let still = c.note_step.ensures in
    let there = c.in_ok-told.ensures.same in
    let set = c.set_start.ensures.same in
    record {
      high = omega (arith, inv.high);
      behind = none_there re.program s place inv.high inv.behind (subst (λ x. Finds re.program x None) search told);
      serve = kept_still c.args.strategy.now c.ask_automaton.new.kept c.note_step.new.self c.in_ok-told.ensures.serve still.core still.vm still.automaton still.back;
      core = still.core ∙ c.in_ok-told.ensures.core ∙ inv.core;
      asked = (place, c.in_ok-told.ensures.asked ∙ place_asked i c.loop-place.input k place inv.asked c.set_start.ensures);
      same = record { content = there.content ∙ set.content ∙ inv.same.content; is_sized = there.is_sized ∙ set.is_sized ∙ inv.same.is_sized };
    }

pub returns-clause-start : goal.returns-clause-start
returns-clause-start g c =
    let re = c.args.strategy.now.vm in
    let s = search_of re.utf8_empty c.args.input.now in
    let inv = c.loop-place.invariant in
    let above : c.end-end.result ≤ c.loop-place.place = omega (arith, c.loop-place-test.false) in
    starts_last re.program s c.loop-place.place c.end-end.result c.end-end.ensures above inv.behind
