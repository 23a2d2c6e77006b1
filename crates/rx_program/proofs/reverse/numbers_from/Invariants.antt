use Rattle.std.proofs.Common.{◌≡◌, ◌+◌, take}
use Rattle.rx_walks.specs.Reversed.{indexed}
use Rattle.rx_program.proofs.reverse.numbers_from.Given as goal

-- the numbers of the patterns so far are there
abbrev pub invariant-loop-number : goal.invariant-loop-number
invariant-loop-number l = l.starts.items ≡ indexed (λ k start. l.first + k) 0 (take l.number l.patterns)
