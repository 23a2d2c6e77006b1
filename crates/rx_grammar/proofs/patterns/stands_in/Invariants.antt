use Rattle.std.proofs.Common.{◌≢◌, All, map, take}
use Rattle.rx_grammar.proofs.patterns.stands_in.Given as goal

abbrev pub invariant-loop-other : goal.invariant-loop-other
invariant-loop-other l = All (λ other. other ≢ l.name) (map (λ name. name.now) (take l.other-index l.names))
