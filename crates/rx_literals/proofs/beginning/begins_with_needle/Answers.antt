use Rattle.std.proofs.Common.{ℕ, Vec, Global, string_bytes, subst}
use Rattle.memchr.specs.Find.{OccursAt}
use Rattle.rx_literals.proofs.KeptLaws.{prefix_occurs, occurs_of}
use Rattle.rx_literals.proofs.beginning.begins_with_needle.Goals as goal

pub returns-then-begins_with_bytes : goal.returns-then-begins_with_bytes
returns-then-begins_with_bytes c = λ is bytes i occurs.
    let begins = subst (λ xs. OccursAt (string_bytes c.args.literal.now) xs 0) c.deref.ensures.value (c.begins_with_bytes.ensures c.if-begins_with_bytes.true) in
    occurs_of (λ (needle : Vec ℕ Global). needle.items) c.args.needles.now c.loop-needle.needle-index c.needle-item.result c.loop-needle-test.true c.needle-item.is bytes i
    (prefix_occurs (string_bytes c.args.literal.now) c.needle-item.result.items begins bytes i occurs)
