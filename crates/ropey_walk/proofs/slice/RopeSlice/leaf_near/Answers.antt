use Rattle.std.proofs.Common.{arith}
use Rattle.ropey_tree.specs.declared.counts.By.TheVariants.{Bytes}
use Rattle.ropey_tree.proofs.CuttingLaws.{counts_of_a_cutting}
use Rattle.ropey_walk.specs.Chunks.{text_of}
use Rattle.ropey_walk.proofs.Reaching.{reached-within, sum-fits}
use Rattle.ropey_walk.proofs.Cuts.{text_fits}
use Rattle.ropey_walk.proofs.Slices.{part_of}
use Rattle.ropey_walk.proofs.BreakLaws.{breaks_of_parts}
use Rattle.ropey_walk.proofs.slice.RopeSlice.leaf_near.Goals as goal

pub overflow_add-self : goal.overflow_add-self
overflow_add-self c =
    let s = c.args.self.now in
    let pieces = c.args.node.now.pieces in
    let fits = sum-fits breaks_of_parts Bytes (text_of pieces) s.start s.len (part_of s pieces c.requires.under) (text_fits pieces c.height.ensures.tree.text) in
    omega (arith, fits, c.if-byte_idx-self.true)

pub leaf_near-requires : goal.leaf_near-requires
leaf_near-requires c = rw c.requires.under at c.requires.near

pub returns-then-byte_idx-self-clause-near : goal.returns-then-byte_idx-self-clause-near
returns-then-byte_idx-self-clause-near c = rw c.requires.under c.leaf_near.ensures.near

pub returns-then-byte_idx-self-clause-reached : goal.returns-then-byte_idx-self-clause-reached
returns-then-byte_idx-self-clause-reached c =
    let pieces = c.args.node.now.pieces in
    let s = c.args.self.now in
    let part = part_of s pieces c.requires.under in
    reached-within breaks_of_parts counts_of_a_cutting pieces c.height.ensures.tree.text s.start s.len part c.requires.some c.leaf_near.result.leaf.now Bytes c.args.byte_idx c.leaf_near.result.before
    c.if-byte_idx-self.true c.leaf_near.ensures.lies
