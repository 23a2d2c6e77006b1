-- A count as the links of a chain, which takes no bytes.
use Rattle.std.specs.Prelude.{ℕ, ◌+◌}
use Rattle.counters.specs.declared.counter.Chain.{Chain, Start, OneMore'}

-- the number of links of a chain
abbrev pub links_of : Chain → ℕ
links_of Start = 0
links_of (OneMore' shape before) = links_of before + 1
