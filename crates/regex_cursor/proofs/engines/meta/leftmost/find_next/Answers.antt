use Rattle.std.proofs.Common.{◌≡◌, ◌+◌, Some, None, false, sym, ap, subst, ◌∙◌}
use Rattle.rx_input.specs.Inputs.{Asked}
use Rattle.rx_walks.specs.Finds.{from_place_on}
use Rattle.rx_steps.specs.Searching.{search_of}
use Rattle.rx_chunk.specs.Engines.{EngineFinds, Finds, IsFound}
use Rattle.rx_chunk.specs.Iterating.{StartsFrom}
use Rattle.rx_chunk.specs.Searches as engines
use Rattle.rx_chunk.proofs.EngineLaws.{if_ok}
use Rattle.rx_chunk.proofs.IterLaws.{all_end, moved_on, moved_search, same_start, set_to}
use Rattle.rx_chunk.proofs.KindLaws.{inside_of}
use Rattle.rx_matches.proofs.HalfLaws.{further_next, no_truth, none_next, some_next}
use Rattle.regex_cursor.proofs.BackLaws.{comes_next, exactly}
use Rattle.regex_cursor.proofs.engines.meta.leftmost.find_next.Goals as goal

pub returns-in_default-clause-answer : goal.returns-in_default-clause-answer
returns-in_default-clause-answer g c =
    let re = c.args.strategy.now.vm in
    let i = c.args.input.now in
    let s = search_of re.utf8_empty i in
    let all : i.asked.earliest ≡ false = sym c.get_earliest.ensures ∙ c.if-get_earliest.false in
    comes_next re c.requires.first s c.args.last_match_end None
    (none_next re.program s c.args.last_match_end (exactly re c.requires.first i None all (subst (λ o. engines.TellsMatch re i o) c.in_default.is c.in_ok-found.ensures.answer)))

pub returns-then-not-is_empty_at_last-clause-answer : goal.returns-then-not-is_empty_at_last-clause-answer
returns-then-not-is_empty_at_last-clause-answer g c =
    let re = c.args.strategy.now.vm in
    let i = c.args.input.now in
    let s = search_of re.utf8_empty i in
    let all : i.asked.earliest ≡ false = sym c.get_earliest.ensures ∙ c.if-get_earliest.false in
    let found = exactly re c.requires.first i (Some c.in-Some.found) all (subst (λ o. engines.TellsMatch re i o) c.in-Some.is c.in_ok-found.ensures.answer) in
    comes_next re c.requires.first s c.args.last_match_end (Some c.in-Some.found)
    (some_next re.program s c.args.last_match_end c.in-Some.found found (λ empty. no_truth c.is_empty_at_last.result (c.is_empty_at_last.ensures.1 empty) c.if-not-is_empty_at_last.true))

pub returns-then-not-is_empty_at_last-clause-ahead : goal.returns-then-not-is_empty_at_last-clause-ahead
returns-then-not-is_empty_at_last-clause-ahead g c =
    let re = c.args.strategy.now.vm in
    all_end (EngineFinds re) c.args.last_match_end (search_of re.utf8_empty c.args.input.now) (Some c.in-Some.found) (inside_of re) (returns-then-not-is_empty_at_last-clause-answer g c)

-- ---- an empty match there
pub returns-clause-answer : goal.returns-clause-answer
returns-clause-answer g c =
    let re = c.args.strategy.now.vm in
    let b = re.utf8_empty in
    let old = c.args.input.now in
    let s = search_of b old in
    let mid = c.find.new.input in
    let moved = c.set_start.new.self in
    let same = same_start old mid c.in_ok-found.ensures.same c.in_ok-found.ensures.asked in
    let start = c.start-start.result + 1 in
    let starts : StartsFrom old moved start = moved_on old mid moved same.0 start same.1 (set_to mid moved start c.set_start.ensures) in
    let search : search_of b moved ≡ from_place_on s (s.start + 1) =
    moved_search b old moved start starts ∙ ap (λ k. from_place_on s (k + 1)) (c.start-start.ensures ∙ ap (λ (a : Asked). a.span.start) c.in_ok-found.ensures.asked) in
    let all : old.asked.earliest ≡ false = sym c.get_earliest.ensures ∙ c.if-get_earliest.false in
    let all_on : moved.asked.earliest ≡ false = ap (λ (a : Asked). a.earliest) (c.set_start.ensures.asked_is ∙ ap (λ (a : Asked). record a { span = record a.span { start = start } }) c.in_ok-found.ensures.asked) ∙ all in
    let found = exactly re c.requires.first old (Some c.in-Some.found) all (subst (λ o. engines.TellsMatch re old o) c.in-Some.is c.in_ok-found.ensures.answer) in
    let empty = c.is_empty_at_last.ensures.0 c.if-not-is_empty_at_last.false in
    if_ok c.find-2.result
    (λ next told. comes_next re c.requires.first s c.args.last_match_end next (further_next re.program s c.args.last_match_end c.in-Some.found next found empty (subst (λ x. IsFound (Finds re.program) x next) search (exactly re c.requires.first moved next all_on told))))
    c.find-2.ensures.answer

pub returns-clause-ahead : goal.returns-clause-ahead
returns-clause-ahead g c =
    let re = c.args.strategy.now.vm in
    if_ok c.find-2.result (λ found is. all_end (EngineFinds re) c.args.last_match_end (search_of re.utf8_empty c.args.input.now) found (inside_of re) is) (returns-clause-answer g c)
