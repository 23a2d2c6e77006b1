use Rattle.std.proofs.Common.{arith}
use Rattle.rx_literals.proofs.ByteSetLaws.{begin_with}
use Rattle.rx_literals.proofs.byte_set.put_first_bytes.Goals as goal

pub returns-clause-begin : goal.returns-clause-begin
returns-clause-begin c = begin_with c.loop-byte.members c.args.automaton.now c.ranges-ranges.ensures.reader (λ b below leads. c.loop-byte.invariant.put b (omega (arith, below, c.loop-byte-test.false)) leads)
