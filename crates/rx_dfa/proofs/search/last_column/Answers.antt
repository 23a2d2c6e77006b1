use Rattle.std.proofs.Common.{◌≡◌, false, IsTrue, refl, sym, subst, ◌∙◌, arith}
use Rattle.std.specs.Prelude.{◌↔◌}
use Rattle.std.specs.Str.{IsCharBoundary}
use Rattle.rx_dfa.specs.Behind.{quits}
use Rattle.rx_dfa.specs.Passing.{IsLastColumn, search_by}
use Rattle.rx_dfa.proofs.EndLaws.{byte_tells, end_tells}
use Rattle.rx_dfa.proofs.LowerLaws.{alike_laws}
use Rattle.rx_steps.proofs.UnreadLaws.{ends_are_met_unread}
use Rattle.rx_dfa.proofs.search.last_column.Goals as goal

pub returns-in-Some : goal.returns-in-Some
returns-in-Some g c = λ last seen told.
    let a = c.args.automaton.now in
    let s = search_by a c.args.input.now in
    let i = c.args.input.now.position in
    subst (λ k. IsLastColumn a s i k) (sym c.seen_class.ensures.class)
    (byte_tells alike_laws ends_are_met_unread a s i c.in-Some.byte c.requires.is c.requires.forward.way refl c.seen_class.ensures.byte (omega (arith, last)) (sym seen ∙ c.in-Some.is) (subst (λ o. quits a.alphabet.now.asked o ≡ false) c.in-Some.is told))

pub returns-in-None : goal.returns-in-None
returns-in-None g c = λ last seen told.
    let a = c.args.automaton.now in
    let s = search_by a c.args.input.now in
    let i = c.args.input.now.position in
    end_tells a s i c.end_column.result c.may_begin.result c.requires.forward.way c.end_column.ensures.inside c.end_column.ensures.end
    (subst (λ u. IsTrue c.may_begin.result ↔ (IsTrue u → IsCharBoundary s.content i)) c.utf8_empty.ensures c.may_begin.ensures) (omega (arith, last)) (sym seen ∙ c.in-None.is)
