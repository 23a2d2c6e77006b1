use Rattle.std.proofs.Common.{◌≡◌, true, take}
use Rattle.std.specs.List.{AllByRecursion}
use Rattle.rx_grammar.specs.Readers.{passes}
use Rattle.rx_grammar.proofs.input.split_front.Given as goal

-- the characters so far pass
abbrev pub invariant-loop-i : goal.invariant-loop-i
invariant-loop-i l = AllByRecursion (λ c. passes l.test c ≡ true) (take l.i l.text)
