use Rattle.std.proofs.Common.{◌≡◌, [], Some, None, refl, sym, ap, subst, ◌∙◌}
use Rattle.rx_walks.specs.Finds.{IsInside}
use Rattle.rx_walks.specs.ProgramFinds.{start_node, lowest}
use Rattle.rx_program.specs.Programs.{IsByteProgram, character_program}
use Rattle.rx_steps.specs.Searching.{anchoring_of}
use Rattle.rx_steps.proofs.AnswerLaws.{none_known, none_inside}
use Rattle.rx_steps.proofs.OverLaws.{same_search}
use Rattle.rx_steps.proofs.FollowLaws.{if_ok}
use Rattle.std.specs.Prelude.{IfErr}
use Rattle.rx_dfa.specs.Passing.{search_by}
use Rattle.rx_dfa.specs.Searching.{IsHalfAnswer}
use Rattle.rx_dfa.specs.Directions.{Directed}
use Rattle.rx_dfa.specs.Automata.{directed}
use Rattle.rx_dfa.specs.Tables.{IsRefusalBy}
use Rattle.rx_dfa.proofs.ScanLaws.{half_of_none}
use Rattle.rx_dfa.proofs.LowerLaws.{keeping_law}
use Rattle.rx_dfa.proofs.search.search.Goals as goal

pub returns-in_default-clause-answer : goal.returns-in_default-clause-answer
returns-in_default-clause-answer g c =
    let p = c.args.program.now in
    let s = search_by c.args.automaton.now c.args.input.now in
    let starts : start_node (character_program p) (anchoring_of c.args.input.now.asked.anchored) ≡ None =
    subst (λ z. start_node (character_program p) (anchoring_of z) ≡ None) c.get_anchored.ensures (sym c.start_state.ensures ∙ c.in_default.is) in
    half_of_none p s [] (none_known p s [] starts refl)

pub returns-then-not-enter-clause-answer : goal.returns-then-not-enter-clause-answer
returns-then-not-enter-clause-answer g c =
    let a = c.args.automaton.now in
    let p = c.args.program.now in
    let s = search_by a c.args.input.now in
    let starts : start_node (character_program p) (anchoring_of c.args.input.now.asked.anchored) ≡ Some c.in-Some.first =
    subst (λ z. start_node (character_program p) (anchoring_of z) ≡ Some c.in-Some.first) c.get_anchored.ensures (sym c.start_state.ensures ∙ c.in-Some.is) in
    half_of_none p s [] (none_inside p s c.in-Some.first [] c.requires.reads keeping_law starts (λ j inside. c.enter.ensures.none c.if-not-enter.true a.alphabet.now.utf8_empty j inside) refl)

pub start-requires-clause-start : goal.start-requires-clause-start
start-requires-clause-start g c =
    let p = c.args.program.now in
    let starts : start_node (character_program p) (anchoring_of c.args.input.now.asked.anchored) ≡ Some c.in-Some.first =
    subst (λ z. start_node (character_program p) (anchoring_of z) ≡ Some c.in-Some.first) c.get_anchored.ensures (sym c.start_state.ensures ∙ c.in-Some.is) in
    subst (λ (d : Directed). start_node (character_program d.bytes) (anchoring_of c.enter.new.input.asked.anchored) ≡ Some c.in-Some.first) (sym c.requires.forward)
    (subst (λ x. start_node (character_program p) (anchoring_of x) ≡ Some c.in-Some.first) (sym (ap (λ x. x.anchored) c.enter.ensures.same.asked_is)) starts)

pub start-requires-clause-forward : goal.start-requires-clause-forward
start-requires-clause-forward g c = record {
  reads = subst (λ (d : Directed). IsByteProgram d.bytes) (sym c.requires.forward) c.requires.reads;
  way = ap (λ (d : Directed). d.is_back) c.requires.forward;
}

pub start-requires-clause-inside : goal.start-requires-clause-inside
start-requires-clause-inside g c =
    let a = c.args.automaton.now in
    let b = a.alphabet.now.utf8_empty in
    let old = c.args.input.now in
    let new = c.enter.new.input in
    let same : search_by a new ≡ search_by a old = same_search b new old c.enter.ensures.same.same.content c.enter.ensures.same.asked_is in
    subst (λ x. IsInside x new.position) (sym same) (c.enter.ensures.inside c.if-not-enter.false b)

pub start-requires-clause-first : goal.start-requires-clause-first
start-requires-clause-first g c =
    let a = c.args.automaton.now in
    let b = a.alphabet.now.utf8_empty in
    let old = c.args.input.now in
    let new = c.enter.new.input in
    let same : search_by a new ≡ search_by a old = same_search b new old c.enter.ensures.same.same.content c.enter.ensures.same.asked_is in
    c.enter.ensures.first c.if-not-enter.false ∙ ap (λ x. lowest x) (sym same)

pub returns-clause-answer : goal.returns-clause-answer
returns-clause-answer g c =
    let a = c.args.automaton.now in
    let b = a.alphabet.now.utf8_empty in
    let old = c.args.input.now in
    let new = c.enter.new.input in
    let same : search_by a new ≡ search_by a old = same_search b new old c.enter.ensures.same.same.content c.enter.ensures.same.asked_is in
    if_ok c.start.result (λ found answer. subst (λ (d : Directed). IsHalfAnswer d.bytes (search_by a old) found) c.requires.forward (subst (λ x. IsHalfAnswer (directed a).bytes x found) same answer)) c.start.ensures.answer

pub returns-clause-refused : goal.returns-clause-refused
returns-clause-refused g c =
    let a = c.args.automaton.now in
    let b = a.alphabet.now.utf8_empty in
    let old = c.args.input.now in
    let new = c.enter.new.input in
    let same : search_by a new ≡ search_by a old = same_search b new old c.enter.ensures.same.same.content c.enter.ensures.same.asked_is in
    subst (λ x. IfErr c.start.result (IsRefusalBy g.T.Table.is_whole a x)) same c.start.ensures.refused
