use Rattle.std.proofs.Common.{[], ◌∷◌, refl, arith}
use Rattle.rx_literals.proofs.FoundLaws.{byte_first, byte_nowhere, one_nowhere, one_somewhere}
use Rattle.rx_literals.proofs.prefilter.find_byte.Goals as goal

pub returns-in-Some : goal.returns-in-Some
returns-in-Some c = one_somewhere c.args.hay.now (c.args.byte ∷ []) c.in-Some.start _ (omega arith) refl (byte_first c.args.hay.now c.args.byte c.in-Some.start c.in-Some.ensures)

pub returns-in-None : goal.returns-in-None
returns-in-None c = one_nowhere c.args.hay.now (c.args.byte ∷ []) (byte_nowhere c.args.hay.now c.args.byte c.in-None.ensures)
