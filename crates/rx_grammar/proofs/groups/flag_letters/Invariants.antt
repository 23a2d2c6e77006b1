use Rattle.std.proofs.Common.{length}
use Rattle.rx_grammar.proofs.HeadLaws.{ReadFlags}
use Rattle.rx_grammar.proofs.groups.flag_letters.Given as goal

abbrev pub invariant-loop-flag : goal.invariant-loop-flag
invariant-loop-flag l = ReadFlags l.fn.flags.items l.flags.items l.text l.rest

abbrev pub decreases-loop-flag : goal.decreases-loop-flag
decreases-loop-flag l = length l.rest
