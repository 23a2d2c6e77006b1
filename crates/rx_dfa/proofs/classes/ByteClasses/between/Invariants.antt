use Rattle.rx_dfa.proofs.ClassLaws.{IsUnderWay}
use Rattle.rx_dfa.proofs.classes.ByteClasses.between.Given as goal

abbrev pub invariant-loop-byte : goal.invariant-loop-byte
invariant-loop-byte l = record { way : IsUnderWay l.cuts l.of l.bytes.items l.class l.byte }
