-- Each of the patterns so far has as many as the first.
use Rattle.std.proofs.Common.{map, take}
use Rattle.rx_grammar.specs.Postorder.{tree_of}
use Rattle.rx_engine.proofs.StaticLaws.{Each}
use Rattle.rx_engine.proofs.groups.static_captures_len.Given as goal

abbrev pub invariant-loop-hir : goal.invariant-loop-hir
invariant-loop-hir l = Each l.len (take l.hir-index (map (λ hir. tree_of hir.now) l.hirs))
