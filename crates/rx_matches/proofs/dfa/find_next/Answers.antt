use Rattle.std.proofs.Common.{◌≡◌, ◌+◌, Some, ap, subst, ◌∙◌}
use Rattle.rx_walks.specs.Finds.{from_place_on}
use Rattle.rx_steps.specs.Searching.{search_of}
use Rattle.rx_chunk.specs.Engines.{Finds, IsFound}
use Rattle.rx_chunk.specs.Iterating.{StartsFrom}
use Rattle.rx_chunk.proofs.EngineLaws.{if_ok}
use Rattle.rx_chunk.proofs.IterLaws.{all_end, ends_ahead, moved_on, moved_search, same_start, set_to}
use Rattle.rx_matches.proofs.HalfLaws.{further_next, inside_law, no_truth, none_next, some_next}
use Rattle.rx_matches.proofs.dfa.find_next.Goals as goal

pub returns-in_default-clause-answer : goal.returns-in_default-clause-answer
returns-in_default-clause-answer g c =
    let p = c.args.re.now.engine.program in
    let s = search_of c.args.re.now.engine.utf8_empty c.args.input.now in
    none_next p s c.args.last_match_end (subst (λ o. IsFound (Finds p) s o) c.in_default.is c.in_ok-found.ensures.answer)

pub returns-then-not-is_empty_at_last-clause-answer : goal.returns-then-not-is_empty_at_last-clause-answer
returns-then-not-is_empty_at_last-clause-answer g c =
    let p = c.args.re.now.engine.program in
    let s = search_of c.args.re.now.engine.utf8_empty c.args.input.now in
    some_next p s c.args.last_match_end c.in-Some.found (subst (λ o. IsFound (Finds p) s o) c.in-Some.is c.in_ok-found.ensures.answer)
    (λ empty. no_truth c.is_empty_at_last.result (c.is_empty_at_last.ensures.1 empty) c.if-not-is_empty_at_last.true)

pub returns-then-not-is_empty_at_last-clause-ahead : goal.returns-then-not-is_empty_at_last-clause-ahead
returns-then-not-is_empty_at_last-clause-ahead g c =
    let p = c.args.re.now.engine.program in
    let s = search_of c.args.re.now.engine.utf8_empty c.args.input.now in
    all_end (Finds p) c.args.last_match_end s (Some c.in-Some.found) (inside_law p) (returns-then-not-is_empty_at_last-clause-answer g c)

-- ---- an empty match there
pub returns-clause-answer : goal.returns-clause-answer
returns-clause-answer g c =
    let p = c.args.re.now.engine.program in
    let b = c.args.re.now.engine.utf8_empty in
    let old = c.args.input.now in
    let s = search_of b old in
    let mid = c.try_search.new.input in
    let same = same_start old mid c.in_ok-found.ensures.same c.in_ok-found.ensures.asked in
    let start = c.start-start.result + 1 in
    let starts : StartsFrom old c.set_start.new.self start = moved_on old mid c.set_start.new.self same.0 start same.1 (set_to mid c.set_start.new.self start c.set_start.ensures) in
    let search : search_of b c.set_start.new.self ≡ from_place_on s (s.start + 1) =
    moved_search b old c.set_start.new.self start starts ∙ ap (λ k. from_place_on s (k + 1)) (c.start-start.ensures ∙ ap (λ a. a.span.start) c.in_ok-found.ensures.asked) in
    let found = subst (λ o. IsFound (Finds p) s o) c.in-Some.is c.in_ok-found.ensures.answer in
    let empty = c.is_empty_at_last.ensures.0 c.if-not-is_empty_at_last.false in
    if_ok c.try_search-2.result (λ next is. further_next p s c.args.last_match_end c.in-Some.found next found empty (subst (λ x. IsFound (Finds p) x next) search is)) c.try_search-2.ensures.answer

pub returns-clause-ahead : goal.returns-clause-ahead
returns-clause-ahead g c =
    ends_ahead (Finds c.args.re.now.engine.program) c.args.last_match_end (search_of c.args.re.now.engine.utf8_empty c.args.input.now) c.try_search-2.result (inside_law c.args.re.now.engine.program) (returns-clause-answer g c)
