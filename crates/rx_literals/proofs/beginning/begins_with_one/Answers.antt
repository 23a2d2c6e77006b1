use Rattle.std.proofs.Common.{String, Global, string_bytes}
use Rattle.rx_literals.proofs.KeptLaws.{prefix_occurs, occurs_of}
use Rattle.rx_literals.proofs.beginning.begins_with_one.Goals as goal

pub returns-then-begins_with : goal.returns-then-begins_with
returns-then-begins_with c = λ is bytes i occurs.
    occurs_of (λ (other : String Global). string_bytes other) c.args.literals.now c.loop-other.other-index c.other-item.result c.loop-other-test.true c.other-item.is bytes i
    (prefix_occurs (string_bytes c.args.literal.now) (string_bytes c.other-item.result) (c.begins_with.ensures c.if-begins_with.true) bytes i occurs)
