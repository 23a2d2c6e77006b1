use Rattle.std.proofs.Common.{IfSome, string_bytes, subst}
use Rattle.rx_program.specs.Programs.{character_program}
use Rattle.rx_literals.specs.Spellings.{SpellsLiteral}
use Rattle.rx_literals.specs.declared.exact.Spelling.{Spelling}
use Rattle.rx_literals.proofs.SpellingLaws.{literal_of}
use Rattle.rx_literals.proofs.exact.only_literal.Goals as goal

pub returns : goal.returns
returns c =
    let p = character_program c.args.program.now in
    let spells = subst (λ o. IfSome o (λ (x : Spelling). SpellsLiteral p (string_bytes x.literal) x.at)) c.in-Some.is c.in_ok-spelling.ensures in
    literal_of p (string_bytes c.in-Some.spelling.literal) c.in-Some.spelling.at spells (c.notes_end.ensures c.if-not-notes_end.false)
