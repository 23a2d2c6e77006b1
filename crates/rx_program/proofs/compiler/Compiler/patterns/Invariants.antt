use Rattle.std.proofs.Common.{◌≡◌, ◌+◌, ◌<◌, ◌++◌, ◌^◌, [], All, drop, length, map}
use Rattle.rx_grammar.specs.Postorder.{tree_of}
use Rattle.rx_program.specs.Code.{patterns_code}
use Rattle.rx_program.specs.Programs.{node_of, ReadsItsSet}
use Rattle.rx_program.specs.Sizes.{sum_of_weights}
use Rattle.rx_program.proofs.compiler.Compiler.patterns.Given as goal

-- the states and the code of the patterns that are left are the code of all
abbrev pub invariant-loop-number : goal.invariant-loop-number
invariant-loop-number l =
    let trees = map (λ hir. tree_of hir.now) l.hirs in
    let before = l.fn.self.states.items in
    record {
      code : map node_of l.self.states.items ++ patterns_code l.self.slots l.number (drop l.number trees) (length l.self.states.items)
          ≡ map node_of before ++ patterns_code l.fn.self.slots 0 trees (length before);
      slots : l.self.slots < 2 ^ 63;
      idle : l.self.jobs.items ≡ [];
      room : length l.self.states.items + sum_of_weights (drop l.number trees) < 2 ^ 63;
      reads : All ReadsItsSet l.self.states.items;
    }
