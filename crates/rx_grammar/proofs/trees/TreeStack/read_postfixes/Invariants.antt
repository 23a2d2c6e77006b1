use Rattle.std.proofs.Common.{◌≡◌, ℕ, ◌≤◌, List, ◌∷◌, length}
use Rattle.rx_grammar.specs.Trees.{Tree}
use Rattle.rx_grammar.specs.Weights.{held}
use Rattle.rx_grammar.specs.Postorder.{trees_of}
use Rattle.rx_grammar.proofs.StackLaws.{PostfixesSoFar}
use Rattle.rx_grammar.proofs.trees.TreeStack.read_postfixes.Given as goal

abbrev pub invariant-loop-rest : goal.invariant-loop-rest
invariant-loop-rest l = record {
  tree : 1 ≤ length (trees_of l.self);
  so_far : (tree : Tree) (below : List Tree) (deep : ℕ) → trees_of l.fn.self ≡ tree ∷ below → l.fn.depth ≡ held deep
      → (reached : ℕ) × ((l.depth ≡ held reached) × PostfixesSoFar l.swap_greed tree deep l.text (trees_of l.self) below reached l.rest);
}

abbrev pub decreases-loop-rest : goal.decreases-loop-rest
decreases-loop-rest l = length l.rest
