use Rattle.std.proofs.Common.{arith}
use Rattle.ropey_tree.specs.declared.counts.By.TheVariants.{Bytes}
use Rattle.ropey_tree.proofs.CuttingLaws.{counts_of_a_cutting}
use Rattle.ropey_walk.specs.Chunks.{text_of}
use Rattle.ropey_walk.proofs.Reaching.{reached-within, reached-last, sum-fits, some_bytes}
use Rattle.ropey_walk.proofs.Cuts.{text_fits}
use Rattle.ropey_walk.proofs.Slices.{part_of}
use Rattle.ropey_walk.proofs.BreakLaws.{breaks_of_parts}
use Rattle.ropey_walk.proofs.slice.RopeSlice.leaf.Goals as goal

pub overflow_add-by : goal.overflow_add-by
overflow_add-by c =
    let pieces = c.args.node.now.pieces in
    let text = c.height.ensures.tree.text in
    let part = part_of c.args.self.now pieces c.requires.under in
    let fits = sum-fits breaks_of_parts c.args.by (text_of pieces) c.args.self.now.start c.args.self.now.len part (text_fits pieces text) in
    omega (arith, fits, c.by-then-i-by.ensures, c.by.ensures, c.if-i-by.true)

pub overflow_sub-self : goal.overflow_sub-self
overflow_sub-self c =
    let pieces = c.args.node.now.pieces in
    omega (arith, c.requires.some, some_bytes (text_of pieces) c.args.self.now.start c.args.self.now.len (part_of c.args.self.now pieces c.requires.under))

pub overflow_add-self : goal.overflow_add-self
overflow_add-self c =
    let s = c.args.self.now in
    let pieces = c.args.node.now.pieces in
    let fits = sum-fits breaks_of_parts Bytes (text_of pieces) s.start s.len (part_of s pieces c.requires.under) (text_fits pieces c.height.ensures.tree.text) in
    omega (arith, fits)

pub returns-then-i-by : goal.returns-then-i-by
returns-then-i-by c =
    let pieces = c.args.node.now.pieces in
    let text = c.height.ensures.tree.text in
    let s = c.args.self.now in
    let part = part_of s pieces c.requires.under in
    reached-within breaks_of_parts counts_of_a_cutting pieces text s.start s.len part c.requires.some c.leaf_at.result.leaf.now c.args.by c.args.i c.leaf_at.result.before
    (omega (arith, c.if-i-by.true, c.by.ensures)) (rw c.by-then-i-by.ensures at c.leaf_at.ensures)

pub returns-else-i-by : goal.returns-else-i-by
returns-else-i-by c =
    let pieces = c.args.node.now.pieces in
    let text = c.height.ensures.tree.text in
    let s = c.args.self.now in
    let part = part_of s pieces c.requires.under in
    reached-last breaks_of_parts counts_of_a_cutting pieces text s.start s.len part c.requires.some c.leaf_at-else-i-by.result.leaf.now c.args.by c.args.i c.leaf_at-else-i-by.result.before
    (omega (arith, c.if-i-by.false, c.by.ensures)) c.leaf_at-else-i-by.ensures
