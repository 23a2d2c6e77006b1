use Rattle.std.proofs.Common.{◌≡◌, ◌+◌, ◌<◌, ◌++◌, ◌^◌, drop, map}
use Rattle.rx_grammar.specs.Postorder.{tree_of}
use Rattle.rx_program.specs.Code.{pattern_starts}
use Rattle.rx_program.specs.Sizes.{sum_of_weights}
use Rattle.rx_program.proofs.patterns.pattern_starts.Given as goal

-- the starts so far, and those of the patterns that are left
abbrev pub invariant-loop-hir : goal.invariant-loop-hir
invariant-loop-hir l =
    let trees = map (λ hir. tree_of hir.now) l.hirs in
    record {
      starts : l.starts.items ++ pattern_starts (drop l.hir-index trees) l.at ≡ pattern_starts trees l.initial.at;
      room : l.at + sum_of_weights (drop l.hir-index trees) < 2 ^ 63;
    }
