use Rattle.std.proofs.Common.{◌≡◌, Some, slice_get, sym, subst}
use Rattle.rx_walks.specs.Programs.{note}
use Rattle.rx_program.specs.Programs.{character_program}
use Rattle.rx_literals.specs.Spellings.{SpellsLiteral}
use Rattle.rx_literals.proofs.SpellingLaws.{spells_first}
use Rattle.rx_literals.proofs.exact.spelled.Goals as goal

pub loop-init : goal.loop-init
loop-init c =
    let p = character_program c.args.program.now in
    let first = subst (λ x. slice_get p.nodes x ≡ Some (note 0 c.in-Some.at)) c.start.ensures c.in-Some.ensures in
    subst (λ xs. SpellsLiteral p xs c.in-Some.at) (sym c.new.ensures.bytes) (spells_first p c.in-Some.at first)
