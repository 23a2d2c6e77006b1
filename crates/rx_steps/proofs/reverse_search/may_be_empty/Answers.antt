use Rattle.std.proofs.Common.{◌≡◌, Bool, false, not, IsTrue, ap, sym, ◌∙◌}
use Rattle.rx_steps.proofs.reverse_search.may_be_empty.Goals as goal

is_not : (b : Bool) → b ≡ false → IsTrue (not b)
is_not b e = ap not e

pub returns-then-not-utf8_empty : goal.returns-then-not-utf8_empty
returns-then-not-utf8_empty g c = ((λ is u. absurd (cc (sym u ∙ c.if-not-utf8_empty.true))), (λ may. is_not c.args.utf8_empty c.if-not-utf8_empty.true))

pub returns-else-not-utf8_empty : goal.returns-else-not-utf8_empty
returns-else-not-utf8_empty g c = ((λ is u. c.is_char_boundary.ensures.0 is), (λ may. c.is_char_boundary.ensures.1 (may c.if-not-utf8_empty.false)))
