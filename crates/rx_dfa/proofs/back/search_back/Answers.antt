use Rattle.std.proofs.Common.{◌≡◌, Some, None, IsTrue, sym, ap, subst, ◌∙◌}
use Rattle.std.proofs.lemmas.Result.{err_from_is_err_and}
use Rattle.std.specs.Prelude.{◌↔◌}
use Rattle.std.specs.Str.{IsCharBoundary}
use Rattle.rx_walks.specs.Backward.{end_in_content}
use Rattle.rx_walks.specs.Finds.{IsInside, is_anchored}
use Rattle.rx_walks.specs.ProgramFinds.{start_node}
use Rattle.rx_program.specs.Programs.{character_program}
use Rattle.rx_program.specs.Reversed.{back_characters_of}
use Rattle.rx_steps.specs.Reversed.{byte_program_of}
use Rattle.rx_steps.specs.Searching.{anchoring_of, search_of}
use Rattle.rx_steps.specs.ComingBack.{IsHalfToldBack}
use Rattle.rx_steps.proofs.BackAnswerLaws.{outside_answers, over_answers_back, unknown_answers}
use Rattle.rx_steps.proofs.OverLaws.{same_search}
use Rattle.rx_dfa.specs.Back.{HasEndedBack, StopsBack}
use Rattle.rx_dfa.specs.Directions.{Directed}
use Rattle.rx_dfa.proofs.BackLaws.{is_on, stops_refused}
use Rattle.rx_dfa.proofs.LowerLaws.{searched_back}
use Rattle.rx_dfa.proofs.back.search_back.Goals as goal

pub begin_back-requires-clause-end : goal.begin_back-requires-clause-end
begin_back-requires-clause-end g c = λ b.
    let old = c.args.input.now in
    let new = c.enter_end.new.input in
    let same : search_of b new ≡ search_of b old = same_search b new old c.enter_end.ensures.same.same.content c.enter_end.ensures.same.asked_is in
    subst (λ x. new.position ≡ end_in_content x) (sym same) (c.enter_end.ensures.end c.if-not-enter_end.false b)

pub returns-then-not-enter_end-clause-answer : goal.returns-then-not-enter_end-clause-answer
returns-then-not-enter_end-clause-answer g c = λ p is.
    let b = c.args.utf8_empty in
    outside_answers p (search_of b c.args.input.now) (c.enter_end.ensures.none c.if-not-enter_end.true b)

pub returns-in_default-clause-answer : goal.returns-in_default-clause-answer
returns-in_default-clause-answer g c = λ p is.
    let turned = c.args.reverse.now in
    let b = c.args.utf8_empty in
    let old = c.args.input.now in
    let s = search_of b old in
    let starts : start_node (back_characters_of turned) (anchoring_of old.asked.anchored) ≡ None =
    subst (λ a. start_node (back_characters_of turned) (anchoring_of a) ≡ None) c.get_anchored-mode.ensures (sym c.start_back.ensures ∙ c.in_default.is) in
    let last : IsInside s (end_in_content s) = subst (λ k. IsInside s k) (c.enter_end.ensures.end c.if-not-enter_end.false b) (c.enter_end.ensures.inside c.if-not-enter_end.false b) in
    unknown_answers p turned s is c.requires.reads searched_back last starts

pub begin_back-requires-clause-start : goal.begin_back-requires-clause-start
begin_back-requires-clause-start g c =
    let turned = c.args.reverse.now in
    let old = c.args.input.now in
    let new = c.enter_end.new.input in
    let starts : start_node (back_characters_of turned) (anchoring_of new.asked.anchored) ≡ Some c.in-Some.start =
    subst (λ a. start_node (back_characters_of turned) (anchoring_of a) ≡ Some c.in-Some.start) (c.get_anchored-mode.ensures ∙ sym (ap (λ x. x.anchored) c.enter_end.ensures.same.asked_is)) (sym c.start_back.ensures ∙ c.in-Some.is) in
    subst (λ (d : Directed). start_node (character_program d.bytes) (anchoring_of new.asked.anchored) ≡ Some c.in-Some.start) (sym c.requires.reverse) starts

pub begin_back-requires-clause-inside : goal.begin_back-requires-clause-inside
begin_back-requires-clause-inside g c = λ b.
    let old = c.args.input.now in
    let new = c.enter_end.new.input in
    let same : search_of b new ≡ search_of b old = same_search b new old c.enter_end.ensures.same.same.content c.enter_end.ensures.same.asked_is in
    subst (λ x. IsInside x new.position) (sym same) (c.enter_end.ensures.inside c.if-not-enter_end.false b)

pub returns-clause-answer : goal.returns-clause-answer
returns-clause-answer g c = λ p is.
    let turned = c.args.reverse.now in
    let b = c.args.utf8_empty in
    let old = c.args.input.now in
    let new = c.enter_end.new.input in
    let s = search_of b old in
    let q = c.in-Some.start in
    let best = c.in_ok-best.best in
    let answer = c.told_back.result in
    let same : search_of b new ≡ s = same_search b new old c.enter_end.ensures.same.same.content c.enter_end.ensures.same.asked_is in
    let starts : start_node (back_characters_of turned) (anchoring_of old.asked.anchored) ≡ Some q =
    subst (λ a. start_node (back_characters_of turned) (anchoring_of a) ≡ Some q) c.get_anchored-mode.ensures (sym c.start_back.ensures ∙ c.in-Some.is) in
    let place : new.position ≡ end_in_content s = c.enter_end.ensures.end c.if-not-enter_end.false b in
    let last : IsInside s (end_in_content s) = subst (λ k. IsInside s k) place (c.enter_end.ensures.inside c.if-not-enter_end.false b) in
    let ended : HasEndedBack (byte_program_of turned) s q best = subst (λ x. HasEndedBack (byte_program_of turned) x q best) same (subst (λ (d : Directed). HasEndedBack d.bytes (search_of b new) q best) c.requires.reverse (c.in_ok-best.ensures.ended b)) in
    let here : end_in_content s ≡ c.position-end.result = sym place ∙ sym c.position-end.ensures.position in
    let tells : IsTrue c.may_begin-may.result ↔ (IsTrue b → IsCharBoundary s.content c.position-end.result) =
    subst (λ k. IsTrue c.may_begin-may.result ↔ (IsTrue b → IsCharBoundary s.content k)) (sym c.position-end.ensures.position)
    (subst (λ xs. IsTrue c.may_begin-may.result ↔ (IsTrue b → IsCharBoundary xs new.position)) c.enter_end.ensures.same.same.content c.may_begin-may.ensures) in
    let told : IsHalfToldBack s best answer = c.told_back.ensures s here (subst (λ k. IsInside s k) here last) ended.inside tells in
    over_answers_back p turned s is c.requires.reads searched_back last q best answer starts ended.over told

pub returns-in_err-best-clause-refused : goal.returns-in_err-best-clause-refused
returns-in_err-best-clause-refused g c =
    let b = c.args.utf8_empty in
    let old = c.args.input.now in
    let new = c.enter_end.new.input in
    let same : search_of b new ≡ search_of b old = same_search b new old c.enter_end.ensures.same.same.content c.enter_end.ensures.same.asked_is in
    let p = err_from_is_err_and c.from_residual.result c.from_residual.ensures.1 in
    let asked = c.args.automaton.now.alphabet.now.asked in
    let stops : StopsBack g.T.Table.is_whole asked (search_of b old) c.in_err-best.field-0.0 = subst (λ x. StopsBack g.T.Table.is_whole asked x c.in_err-best.field-0.0) same (c.in_err-best.ensures.refused b) in
    let on : IsTrue (is_anchored (anchoring_of old.asked.anchored)) = is_on old.asked.anchored c.get_anchored-mode.result c.get_anchored-mode.ensures (sym c.is_anchored.ensures ∙ c.if-not-is_anchored.false) in
    rw (p.1, p.2) (stops_refused g.T.Table.is_whole asked (search_of b old) c.in_err-best.field-0.0 on stops)
