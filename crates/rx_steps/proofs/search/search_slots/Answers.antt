use Rattle.std.proofs.Common.{◌≡◌, ◌⊎◌, Some, None, sym, ap, subst, ◌∙◌}
use Rattle.rx_walks.specs.Finds.{IsInside}
use Rattle.rx_walks.specs.ProgramFinds.{start_node}
use Rattle.rx_program.specs.Programs.{character_program}
use Rattle.rx_steps.specs.Searching.{search_of, anchoring_of}
use Rattle.rx_steps.specs.Coming.{course_of, IsOverAt, IsStopped}
use Rattle.rx_steps.proofs.AnswerLaws.{none_known, none_inside}
use Rattle.rx_steps.proofs.OverLaws.{same_search, none_at, over_at_answers, stops_there}
use Rattle.rx_steps.proofs.search.search_slots.Goals as goal

pub returns-in_default-clause-answer : goal.returns-in_default-clause-answer
returns-in_default-clause-answer g c =
    let p = c.args.program.now in
    let starts : start_node (character_program p) (anchoring_of c.args.input.now.asked.anchored) ≡ None =
    subst (λ a. start_node (character_program p) (anchoring_of a) ≡ None) c.get_anchored.ensures (sym c.start_state.ensures ∙ c.in_default.is) in
    let s = search_of c.args.utf8_empty c.args.input.now in
    none_at c.args.earliest p s c.args.input.now.position c.clear_slots.new.slots (none_known p s c.clear_slots.new.slots starts c.clear_slots.ensures.none)

pub returns-then-not-enter-clause-answer : goal.returns-then-not-enter-clause-answer
returns-then-not-enter-clause-answer g c =
    let p = c.args.program.now in
    let b = c.args.utf8_empty in
    let starts : start_node (character_program p) (anchoring_of c.args.input.now.asked.anchored) ≡ Some c.in-Some.start =
    subst (λ a. start_node (character_program p) (anchoring_of a) ≡ Some c.in-Some.start) c.get_anchored.ensures (sym c.start_state.ensures ∙ c.in-Some.is) in
    let s = search_of b c.args.input.now in
    none_at c.args.earliest p s c.enter.new.input.position c.clear_slots.new.slots
    (none_inside p s c.in-Some.start c.clear_slots.new.slots c.walks_are_those_of_characters.ensures.reads c.program_is_searched_keeping.ensures starts
    (λ j inside. c.enter.ensures.none c.if-not-enter.true b j inside) c.clear_slots.ensures.none)

pub follow-requires-clause-inside : goal.follow-requires-clause-inside
follow-requires-clause-inside g c =
    let b = c.args.utf8_empty in
    let old = c.args.input.now in
    let new = c.enter.new.input in
    let same : search_of b new ≡ search_of b old = same_search b new old c.enter.ensures.same.same.content c.enter.ensures.same.asked_is in
    subst (λ x. IsInside x new.position) (sym same) (c.enter.ensures.inside c.if-not-enter.false b)

pub follow-requires-clause-start : goal.follow-requires-clause-start
follow-requires-clause-start g c =
    let p = c.args.program.now in
    let starts : start_node (character_program p) (anchoring_of c.args.input.now.asked.anchored) ≡ Some c.in-Some.start =
    subst (λ a. start_node (character_program p) (anchoring_of a) ≡ Some c.in-Some.start) c.get_anchored.ensures (sym c.start_state.ensures ∙ c.in-Some.is) in
    subst (λ x. start_node (character_program p) (anchoring_of x) ≡ Some c.in-Some.start) (sym (ap (λ x. x.anchored) c.enter.ensures.same.asked_is)) starts

pub returns-clause-answer : goal.returns-clause-answer
returns-clause-answer g c =
    let p = c.args.program.now in
    let b = c.args.utf8_empty in
    let old = c.args.input.now in
    let new = c.enter.new.input in
    let s = search_of b old in
    let q = c.in-Some.start in
    let at = c.follow.new.input.position in
    let slots = c.follow.new.slots in
    let same : search_of b new ≡ s = same_search b new old c.enter.ensures.same.same.content c.enter.ensures.same.asked_is in
    let starts : start_node (character_program p) (anchoring_of old.asked.anchored) ≡ Some q =
    subst (λ a. start_node (character_program p) (anchoring_of a) ≡ Some q) c.get_anchored.ensures (sym c.start_state.ensures ∙ c.in-Some.is) in
    over_at_answers p s q c.walks_are_those_of_characters.ensures.reads c.program_is_searched_keeping.ensures starts c.args.earliest new.position at c.in-Ok.pattern slots
    (c.enter.ensures.first c.if-not-enter.false)
    (subst (λ x. IsOverAt c.args.earliest (course_of p x q) new.position at c.in-Ok.pattern slots) same c.in-Ok.ensures.over)

pub returns-clause-stops : goal.returns-clause-stops
returns-clause-stops g c =
    let p = c.args.program.now in
    let b = c.args.utf8_empty in
    let old = c.args.input.now in
    let new = c.enter.new.input in
    let s = search_of b old in
    let q = c.in-Some.start in
    let at = c.follow.new.input.position in
    let same : search_of b new ≡ s = same_search b new old c.enter.ensures.same.same.content c.enter.ensures.same.asked_is in
    let starts : start_node (character_program p) (anchoring_of old.asked.anchored) ≡ Some q =
    subst (λ a. start_node (character_program p) (anchoring_of a) ≡ Some q) c.get_anchored.ensures (sym c.start_state.ensures ∙ c.in-Some.is) in
    stops_there p s q c.walks_are_those_of_characters.ensures.reads c.program_is_searched_keeping.ensures starts c.args.earliest new.position at c.in-Ok.pattern
    (c.enter.ensures.first c.if-not-enter.false)
    (subst (λ x. (c.in-Ok.pattern ≡ None) ⊎ IsStopped c.args.earliest (course_of p x q) new.position at) same c.in-Ok.ensures.stands)
