-- The groups of the patterns so far are counted.
use Rattle.std.proofs.Common.{◌≡◌, map, take}
use Rattle.rx_grammar.specs.Postorder.{tree_of}
use Rattle.rx_engine.specs.Engines.{captures_len_of}
use Rattle.rx_engine.proofs.groups.count_groups.Given as goal

abbrev pub invariant-loop-hir : goal.invariant-loop-hir
invariant-loop-hir l = l.len ≡ captures_len_of (take l.hir-index (map (λ hir. tree_of hir.now) l.hirs))
