use Rattle.std.proofs.Common.{refl}
use Rattle.rx_grammar.specs.Grammar.{dot}
use Rattle.rx_grammar.proofs.atoms.dot.Goals as goal

pub returns : goal.returns
returns c = dot refl (c.if-not-is_dot_allowed.ensures.0 refl) c.in_ok-set.ensures
