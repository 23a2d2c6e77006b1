use Rattle.std.proofs.Common.{refl, sym}
use Rattle.rx_grammar.specs.Grammar.{literal}
use Rattle.rx_grammar.proofs.atoms.literal.Goals as goal

pub returns : goal.returns
returns c = literal refl (sym c.if-not-is_literal.ensures) c.in_ok-set.ensures
