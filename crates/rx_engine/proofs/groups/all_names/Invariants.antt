use Rattle.std.proofs.Common.{All, map, take}
use Rattle.rx_util.specs.Groups.{named_groups}
use Rattle.rx_grammar.specs.Subtrees.{IsWellFormed}
use Rattle.rx_grammar.specs.Postorder.{tree_of}
use Rattle.rx_engine.specs.Engines.{AreGroupNamesOf}
use Rattle.rx_engine.proofs.groups.all_names.Given as goal

-- the groups of the patterns so far
abbrev pub invariant-loop-hir : goal.invariant-loop-hir
invariant-loop-hir l =
    let trees = map (λ hir. tree_of hir.now) l.hirs in
    record {
      groups : AreGroupNamesOf (take l.hir-index trees) (named_groups l.patterns.items);
      well_formed : All IsWellFormed (take l.hir-index trees);
    }
