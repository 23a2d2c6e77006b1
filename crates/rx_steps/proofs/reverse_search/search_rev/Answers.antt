use Rattle.std.proofs.Common.{◌≡◌, Option, Some, None, IsTrue, sym, subst, ◌∙◌}
use Rattle.std.specs.Prelude.{◌↔◌, IfSome}
use Rattle.std.specs.Str.{IsCharBoundary}
use Rattle.rx_util.specs.Search.{HalfFound}
use Rattle.rx_walks.specs.Backward.{end_in_content}
use Rattle.rx_walks.specs.Finds.{IsInside}
use Rattle.rx_walks.specs.ProgramFinds.{start_node}
use Rattle.rx_program.specs.Reversed.{back_characters_of}
use Rattle.rx_steps.specs.Reversed.{byte_program_of}
use Rattle.rx_steps.specs.Searching.{anchoring_of, search_of}
use Rattle.rx_steps.specs.ComingBack.{IsHalfToldBack, IsOverBack}
use Rattle.rx_steps.proofs.BackAnswerLaws.{outside_answers, over_answers_back, unknown_answers}
use Rattle.rx_steps.proofs.OverLaws.{same_search}
use Rattle.rx_steps.proofs.reverse_search.search_rev.Goals as goal

each : {P Q : HalfFound → Type 0} (o : Option HalfFound) → ((f : HalfFound) → P f → Q f) → IfSome o P → IfSome o Q
each None on is = tt
each (Some f) on is = on f is

pub returns-then-not-enter_end-clause-answer : goal.returns-then-not-enter_end-clause-answer
returns-then-not-enter_end-clause-answer g c = λ p is.
    let b = c.args.utf8_empty in
    outside_answers p (search_of b c.args.input.now) (c.enter_end.ensures.none c.if-not-enter_end.true b)

pub returns-in_default-clause-answer : goal.returns-in_default-clause-answer
returns-in_default-clause-answer g c = λ p is.
    let turned = c.args.program.now in
    let b = c.args.utf8_empty in
    let old = c.args.input.now in
    let s = search_of b old in
    let starts : start_node (back_characters_of turned) (anchoring_of old.asked.anchored) ≡ None =
    subst (λ a. start_node (back_characters_of turned) (anchoring_of a) ≡ None) c.get_anchored-mode.ensures (sym c.start_back.ensures ∙ c.in_default.is) in
    let last : IsInside s (end_in_content s) = subst (λ k. IsInside s k) (c.enter_end.ensures.end c.if-not-enter_end.false b) (c.enter_end.ensures.inside c.if-not-enter_end.false b) in
    unknown_answers p turned s is c.reads_backwards.ensures c.program_is_searched_back.ensures last starts

pub follow-requires-clause-inside : goal.follow-requires-clause-inside
follow-requires-clause-inside g c = λ b.
    let old = c.args.input.now in
    let new = c.enter_end.new.input in
    let same : search_of b new ≡ search_of b old = same_search b new old c.enter_end.ensures.same.same.content c.enter_end.ensures.same.asked_is in
    subst (λ x. IsInside x new.position) (sym same) (c.enter_end.ensures.inside c.if-not-enter_end.false b)

pub follow-requires-clause-end : goal.follow-requires-clause-end
follow-requires-clause-end g c = λ b.
    let old = c.args.input.now in
    let new = c.enter_end.new.input in
    let same : search_of b new ≡ search_of b old = same_search b new old c.enter_end.ensures.same.same.content c.enter_end.ensures.same.asked_is in
    subst (λ x. new.position ≡ end_in_content x) (sym same) (c.enter_end.ensures.end c.if-not-enter_end.false b)

pub returns-clause-answer : goal.returns-clause-answer
returns-clause-answer g c = λ p is.
    let turned = c.args.program.now in
    let b = c.args.utf8_empty in
    let old = c.args.input.now in
    let new = c.enter_end.new.input in
    let s = search_of b old in
    let q = c.in-Some.start in
    let best = c.in_ok-best.best in
    let answer = c.told_back.result in
    let same : search_of b new ≡ s = same_search b new old c.enter_end.ensures.same.same.content c.enter_end.ensures.same.asked_is in
    let starts : start_node (back_characters_of turned) (anchoring_of old.asked.anchored) ≡ Some q =
    subst (λ a. start_node (back_characters_of turned) (anchoring_of a) ≡ Some q) c.get_anchored-mode.ensures (sym c.start_back.ensures ∙ c.in-Some.is) in
    let place : new.position ≡ end_in_content s = c.enter_end.ensures.end c.if-not-enter_end.false b in
    let last : IsInside s (end_in_content s) = subst (λ k. IsInside s k) place (c.enter_end.ensures.inside c.if-not-enter_end.false b) in
    let way : IsOverBack (byte_program_of turned) s q best = subst (λ x. IsOverBack (byte_program_of turned) x q best) same (c.in_ok-best.ensures.over b) in
    let met : IfSome best (λ f. IsInside s f.offset) = each best (λ f inside. subst (λ x. IsInside x f.offset) same (inside b)) c.in_ok-best.ensures.inside in
    let here : end_in_content s ≡ c.position-end.result = sym place ∙ sym c.position-end.ensures.position in
    let tells : IsTrue c.may_be_empty-may.result ↔ (IsTrue b → IsCharBoundary s.content c.position-end.result) =
    subst (λ k. IsTrue c.may_be_empty-may.result ↔ (IsTrue b → IsCharBoundary s.content k)) (sym c.position-end.ensures.position)
    (subst (λ xs. IsTrue c.may_be_empty-may.result ↔ (IsTrue b → IsCharBoundary xs new.position)) c.enter_end.ensures.same.same.content c.may_be_empty-may.ensures) in
    let told : IsHalfToldBack s best answer = c.told_back.ensures s here (subst (λ k. IsInside s k) here last) met tells in
    over_answers_back p turned s is c.reads_backwards.ensures c.program_is_searched_back.ensures last q best answer starts way told
