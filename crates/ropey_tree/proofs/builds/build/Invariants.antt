use Rattle.std.proofs.Common.{◌≡◌, ◌+◌, ◌≤◌, ◌⊎◌, vec_len}
use Rattle.ropey_tree.specs.Nodes.{all_pieces, AreNodes}
use Rattle.ropey_tree.specs.Siblings.{views}
use Rattle.ropey_tree.proofs.builds.build.Given as goal

abbrev pub invariant-loop-alloc : goal.invariant-loop-alloc
invariant-loop-alloc l = (all_pieces (views l.nodes.items) ≡ all_pieces (views l.fn.leaves.items)) × (1 ≤ vec_len l.nodes) × (l.height + vec_len l.nodes ≤ vec_len l.fn.leaves)
    × (AreNodes l.height 12 (views l.nodes.items) ⊎ (vec_len l.nodes ≡ 1))

abbrev pub decreases-loop-alloc : goal.decreases-loop-alloc
decreases-loop-alloc l = vec_len l.nodes
