use Rattle.std.proofs.Common.{ap, ◌∙◌}
use Rattle.std.proofs.lemmas.Result.{IfOk-weaker}
use Rattle.rx_sets.specs.Sets.{in_ranges}
use Rattle.rx_utf8.specs.Automata.{is_in}
use Rattle.rx_utf8.proofs.LengthLaws.{parts_are_members}
use Rattle.rx_utf8.proofs.set_automaton.rows_of_set.Goals as goal

pub returns-clause-reads : goal.returns-clause-reads
returns-clause-reads c =
    let members = parts_are_members c.args.ranges.now c.deref.result.now c.deref-2.result.now c.in_ok-three.three.items c.deref-3.result.now c.deref-4.result.now
    (λ x. ap (λ xs. in_ranges xs x) c.deref.ensures.value ∙ c.in_ok-one.ensures x)
    (λ x. ap (λ xs. in_ranges xs x) c.deref-2.ensures.value ∙ c.in_ok-two.ensures x)
    c.in_ok-three.ensures
    (λ x. ap (λ xs. in_ranges xs x) c.deref-3.ensures.value ∙ c.in_ok-push_shifted.ensures x)
    (λ x. ap (λ xs. in_ranges xs x) c.deref-4.ensures.value ∙ c.in_ok-four.ensures x) in
    IfOk-weaker c.rows_for.result _ _ (λ rows reads. reads (is_in c.args.ranges.now) members) c.rows_for.ensures.reads
