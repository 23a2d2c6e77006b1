use Rattle.std.proofs.Common.{◌≡◌, map, take}
use Rattle.rx_grammar.specs.Postorder.{tree_of}
use Rattle.rx_engine.proofs.builder.borrowed.Given as goal

-- those so far are borrowed
abbrev pub invariant-loop-hir : goal.invariant-loop-hir
invariant-loop-hir l = map (λ hir. tree_of hir.now) l.borrowed.items ≡ take l.hir-index (map tree_of l.hirs)
