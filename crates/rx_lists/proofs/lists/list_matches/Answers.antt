use Rattle.std.proofs.Common.{◌≡◌, ◌+◌, ◌*◌, ◌≤◌, None, Some, false, max, map, sym, ap, subst, ◌∙◌, arith}
use Rattle.rx_walks.specs.Finds.{IsInside}
use Rattle.rx_walks.specs.ProgramFinds.{lowest, highest, start_node}
use Rattle.rx_program.specs.Programs.{character_program}
use Rattle.rx_steps.specs.Searching.{search_of, anchoring_of}
use Rattle.rx_steps.proofs.FollowLaws.{if_ok}
use Rattle.rx_steps.proofs.OverLaws.{same_search}
use Rattle.rx_lists.specs.Blocks.{AreBlocks}
use Rattle.rx_lists.specs.Lists.{Lists, outcome_of_listed, places_in}
use Rattle.rx_lists.proofs.PassLaws.{inside_down}
use Rattle.rx_lists.proofs.GoOnLaws.{no_walks, none_inside, are_all}
use Rattle.rx_lists.proofs.lists.list_matches.Goals as goal

pub returns-in_default-clause-listed : goal.returns-in_default-clause-listed
returns-in_default-clause-listed g c =
    let p = c.args.program.now in
    no_walks p (search_of c.args.utf8_empty c.args.input.now) c.args.slot_len c.new.result.items c.new.ensures.items
    (subst (λ a. start_node (character_program p) (anchoring_of a) ≡ None) c.get_anchored.ensures (sym c.start_state.ensures ∙ c.in_default.is))

pub returns-then-not-enter_last-clause-listed : goal.returns-then-not-enter_last-clause-listed
returns-then-not-enter_last-clause-listed g c =
    let p = c.args.program.now in
    let q = c.in-Some.start in
    let len = c.args.slot_len in
    let s = search_of c.args.utf8_empty c.args.input.now in
    let starts : start_node (character_program p) s.anchoring ≡ Some q = subst (λ a. start_node (character_program p) (anchoring_of a) ≡ Some q) c.get_anchored.ensures (sym c.start_state.ensures ∙ c.in-Some.is) in
    are_all p s q len c.new-then-not-enter_last.result.items c.walks_are_those_of_characters.ensures.reads c.byte_listings_are_matches.ensures starts
    (subst (λ xs. Lists p s q len false s.start s.start (map outcome_of_listed xs)) (sym c.new-then-not-enter_last.ensures.items)
    (none_inside p s q len (c.enter_last.ensures.none c.if-not-enter_last.true c.args.utf8_empty)))

pub new-requires-2-clause-inside : goal.new-requires-2-clause-inside
new-requires-2-clause-inside g c = λ b.
    let moved = c.enter_last.new.input in
    let enter = c.enter_last.ensures in
    subst (λ x. IsInside x moved.position) (sym (same_search b moved c.args.input.now enter.same.same.content enter.same.asked_is)) (enter.inside c.if-not-enter_last.false b)

pub new-requires-2-clause-last : goal.new-requires-2-clause-last
new-requires-2-clause-last g c = λ b.
    let enter = c.enter_last.ensures in
    enter.last b ∙ ap (λ x. highest x) (sym (same_search b c.enter_last.new.input c.args.input.now enter.same.same.content enter.same.asked_is))

pub list_all-requires-clause-blocks : goal.list_all-requires-clause-blocks
list_all-requires-clause-blocks g c = λ b.
    let made = c.new-2.ensures in
    subst (λ x. AreBlocks c.args.program.now x c.in_ok-blocks.blocks) (sym (same_search b c.new-2.new.input c.enter_last.new.input made.same.content made.asked)) (c.in_ok-blocks.ensures.blocks b)

pub list_all-requires-clause-inside : goal.list_all-requires-clause-inside
list_all-requires-clause-inside g c = λ b.
    let enter = c.enter_last.ensures in
    let made = c.new-2.ensures in
    let at = c.new-2.new.input.position in
    let asked = c.args.input.now.asked in
    let same = same_search b c.new-2.new.input c.args.input.now (made.same.content ∙ enter.same.same.content) (made.asked ∙ enter.same.asked_is) in
    let first : at ≡ max asked.slice.start asked.span.start = subst (λ a. at ≡ max a.slice.start a.span.start) enter.same.asked_is c.in_ok-blocks.ensures.first in
    let inside = enter.inside c.if-not-enter_last.false b in
    subst (λ x. IsInside x at) (sym same) (inside_down (search_of b c.args.input.now) c.enter_last.new.input.position at inside (omega (arith, first, inside.0, inside.2)) (omega (arith, first)))

pub returns-clause-listed : goal.returns-clause-listed
returns-clause-listed g c =
    let p = c.args.program.now in
    let q = c.in-Some.start in
    let len = c.args.slot_len in
    let u = c.args.utf8_empty in
    let s = search_of u c.args.input.now in
    let enter = c.enter_last.ensures in
    let made = c.new-2.ensures in
    let same = same_search u c.new-2.new.input c.args.input.now (made.same.content ∙ enter.same.same.content) (made.asked ∙ enter.same.asked_is) in
    let starts : start_node (character_program p) s.anchoring ≡ Some q = subst (λ a. start_node (character_program p) (anchoring_of a) ≡ Some q) c.get_anchored.ensures (sym c.start_state.ensures ∙ c.in-Some.is) in
    if_ok c.list_all.result (λ found listed. are_all p s q len found.items c.walks_are_those_of_characters.ensures.reads c.byte_listings_are_matches.ensures starts
    (subst (λ x. Lists p x q len false x.start x.start (map outcome_of_listed found.items)) same listed)) c.list_all.ensures.listed

pub returns-clause-counted : goal.returns-clause-counted
returns-clause-counted g c =
    let u = c.args.utf8_empty in
    let enter = c.enter_last.ensures in
    let made = c.new-2.ensures in
    let s = search_of u c.args.input.now in
    let same = same_search u c.new-2.new.input c.args.input.now (made.same.content ∙ enter.same.same.content) (made.asked ∙ enter.same.asked_is) in
    let moved = same_search u c.enter_last.new.input c.args.input.now enter.same.same.content enter.same.asked_is in
    let back : c.new-2.new.read + lowest s ≤ c.args.read.now + c.enter_last.new.input.position + 1 = subst (λ x. c.new-2.new.read + lowest x ≤ c.args.read.now + c.enter_last.new.input.position + 1) moved (made.counted u) in
    let forth : c.list_all.new.read ≤ c.new-2.new.read + 5 * places_in s = subst (λ x. c.list_all.new.read ≤ c.new-2.new.read + 5 * places_in x) same (c.list_all.ensures.counted u) in
    omega (arith, back, forth, enter.last u)

pub returns-in_err-blocks-clause-counted : goal.returns-in_err-blocks-clause-counted
returns-in_err-blocks-clause-counted g c =
    let u = c.args.utf8_empty in
    let enter = c.enter_last.ensures in
    let s = search_of u c.args.input.now in
    let moved = same_search u c.enter_last.new.input c.args.input.now enter.same.same.content enter.same.asked_is in
    let back : c.new-2.new.read + lowest s ≤ c.args.read.now + c.enter_last.new.input.position + 1 = subst (λ x. c.new-2.new.read + lowest x ≤ c.args.read.now + c.enter_last.new.input.position + 1) moved (c.new-2.ensures.counted u) in
    omega (arith, back, enter.last u)

pub returns-in_err-walk-clause-counted : goal.returns-in_err-walk-clause-counted
returns-in_err-walk-clause-counted g c =
    let u = c.args.utf8_empty in
    let enter = c.enter_last.ensures in
    let s = search_of u c.args.input.now in
    let moved = same_search u c.enter_last.new.input c.args.input.now enter.same.same.content enter.same.asked_is in
    let back : c.new-2.new.read + lowest s ≤ c.args.read.now + c.enter_last.new.input.position + 1 = subst (λ x. c.new-2.new.read + lowest x ≤ c.args.read.now + c.enter_last.new.input.position + 1) moved (c.new-2.ensures.counted u) in
    omega (arith, back, enter.last u)
