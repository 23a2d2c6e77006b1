use Rattle.std.proofs.Common.{string_bytes, subst}
use Rattle.rx_program.specs.Programs.{character_program}
use Rattle.rx_literals.specs.Requirements.{ReadsLiteral}
use Rattle.rx_literals.proofs.RequirementLaws.{contains_it}
use Rattle.rx_literals.proofs.required.required_at.Goals as goal

pub returns-then-branch : goal.returns-then-branch
returns-then-branch c =
    let p = character_program c.args.program.now in
    let literal = string_bytes c.in_ok-literal.literal in
    contains_it p c.args.index literal (c.in_ok-each_match_passes.ensures c.if-branch.true)
    (subst (λ q. ReadsLiteral p q literal) c.new.ensures c.in_ok-literal.ensures)
