use Rattle.std.proofs.Common.{◌≡◌, false, sym, subst, ◌∙◌}
use Rattle.rx_dfa.specs.Back.{IsFirstColumn}
use Rattle.rx_dfa.specs.Behind.{quits}
use Rattle.rx_dfa.proofs.BackLaws.{byte_meets, end_meets}
use Rattle.rx_dfa.proofs.back.first_column.Goals as goal

pub returns-in-Some : goal.returns-in-Some
returns-in-Some c = λ s i seen told.
    let a = c.args.automaton.now in
    subst (λ k. IsFirstColumn a s i k) (sym c.seen_class.ensures.class)
    (byte_meets a s i c.in-Some.byte c.requires c.seen_class.ensures.byte (sym seen ∙ c.in-Some.is) (subst (λ o. quits a.alphabet.now.asked o ≡ false) c.in-Some.is told))

pub returns-in-None : goal.returns-in-None
returns-in-None c = λ s i seen told.
    end_meets c.args.automaton.now s i c.end_column.result c.requires c.end_column.ensures.inside c.end_column.ensures.end (sym seen ∙ c.in-None.is)
