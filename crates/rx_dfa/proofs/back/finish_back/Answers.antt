use Rattle.std.proofs.Common.{◌≡◌, ◌-◌, true, false, Some, slice_get, refl, sym, ap, subst, ◌∙◌, arith}
use Rattle.rx_steps.specs.Searching.{search_of}
use Rattle.rx_dfa.specs.Automata.{directed}
use Rattle.rx_dfa.specs.Back.{HasEndedBack, IsFirstColumn, MeetsStart, best_from}
use Rattle.rx_dfa.specs.Behind.{quits}
use Rattle.rx_dfa.specs.Searching.{byte_before, met_after}
use Rattle.rx_dfa.proofs.BackLaws.{first_ends, lacks_back}
use Rattle.rx_dfa.proofs.InputLaws.{before_there}
use Rattle.rx_dfa.proofs.ScanLaws.{cache_in, state_at}
use Rattle.rx_dfa.proofs.back.finish_back.Goals as goal

pub overflow_sub-result : goal.overflow_sub-result
overflow_sub-result g c =
    let s = search_of true c.args.input.now in
    let i = c.args.input.now.position in
    let inside = c.requires.inside true in
    let before : byte_before s i ≡ Some c.in-Some.byte = sym (c.byte_behind-seen.ensures.asked refl true inside) ∙ c.in-Some.ensures.some.0 in
    let there = before_there s i c.in-Some.byte inside.0 inside.4 before in
    omega (arith, there.0, c.position-at.ensures.position)

pub returns-in-Some-clause-refused : goal.returns-in-Some-clause-refused
returns-in-Some-clause-refused g c = λ b.
    let s = search_of b c.args.input.now in
    let i = c.args.input.now.position in
    let inside = c.requires.inside b in
    let before : byte_before s i ≡ Some c.in-Some.byte = sym (c.byte_behind-seen.ensures.asked refl b inside) ∙ c.in-Some.ensures.some.0 in
    let there = before_there s i c.in-Some.byte inside.0 inside.4 before in
    let stands : slice_get s.content (c.position-at.result - 1) ≡ Some c.in-Some.byte = ap (λ k. slice_get s.content (k - 1)) c.position-at.ensures.position ∙ there.1 in (
      stands,
      omega (arith, there.0, c.position-at.ensures.position),
      omega (arith, there.0, inside.1, c.position-at.ensures.position),
      c.in-Some.ensures.some.1,
    )

pub last_end-requires-clause-column : goal.last_end-requires-clause-column
last_end-requires-clause-column g c =
    let s = search_of true c.args.input.now in
    (c.first_column-column.ensures s c.args.input.now.position (c.byte_behind-seen.ensures.asked refl true (c.requires.inside true)) (c.byte_that_quits.ensures.none c.in_default.is)).inside

pub last_end-requires-clause-goes_on : goal.last_end-requires-clause-goes_on
last_end-requires-clause-goes_on g c =
    let s = search_of true c.args.input.now in
    (c.first_column-column.ensures s c.args.input.now.position (c.byte_behind-seen.ensures.asked refl true (c.requires.inside true)) (c.byte_that_quits.ensures.none c.in_default.is)).goes_on

pub overflow_sub-end : goal.overflow_sub-end
overflow_sub-end g c = omega (arith, (c.requires.inside true).3, c.position-at.ensures.position, c.end-end.ensures)

pub returns-in-Ok-clause-ended : goal.returns-in-Ok-clause-ended
returns-in-Ok-clause-ended g c = λ b q last at.
    let a = c.args.automaton.now in
    let p = (directed a).bytes in
    let asked = a.alphabet.now.asked in
    let old = g.T.Table.shown c.args.table.now in
    let s = search_of b c.args.input.now in
    let i = c.args.input.now.position in
    let met = c.args.met in
    let ended = c.in-Ok.ended in
    let seen = c.byte_behind-seen.ensures.asked refl b (c.requires.inside b) in
    let goes_on = c.byte_that_quits.ensures.none c.in_default.is in
    let is : IsFirstColumn a s i c.first_column-column.result = c.first_column-column.ensures s i seen goes_on in
    let told = c.in-Ok.ensures.step at.state at.stands in
    let bare = (state_at (directed a) a.alphabet.now old c.args.number at.state (cache_in g.T.Table.is_whole a old c.requires.table) at.stands).bare in
    let meets : MeetsStart p s i at.state ended = subst (λ o. MeetsStart p s i at.state o) (sym told.ended_is) (is.tells at.state told.next bare told.step) in
    let told_before : quits asked (byte_before s i) ≡ false = subst (λ o. quits asked o ≡ false) seen goes_on in
    let whole : HasEndedBack p s q (best_from s.end (met_after (s.end - i) ended met)) =
    first_ends p asked s q i at.state ended met c.requires.back.is.asked last (c.requires.inside b) (c.requires.first b) told_before meets at.behind at.reached in
    let same : c.placed.result ≡ best_from s.end (met_after (s.end - i) ended met) =
    c.placed.ensures ∙ ap (λ m. best_from c.end-end.result m) c.last_met.ensures ∙ ap (λ e. best_from e (met_after (e - c.position-at.result) ended met)) c.end-end.ensures
    ∙ ap (λ k. best_from s.end (met_after (s.end - k) ended met)) c.position-at.ensures.position in
    subst (λ o. HasEndedBack p s q o) (sym same) whole

pub returns-in-Err-clause-refused : goal.returns-in-Err-clause-refused
returns-in-Err-clause-refused g c = λ b.
    lacks_back g.T.Table.is_whole c.args.automaton.now.alphabet.now.asked (search_of b c.args.input.now) c.args.input.now.position c.position-at.result c.in-Err.error (c.requires.inside b) c.position-at.ensures.position c.in-Err.ensures.refused
