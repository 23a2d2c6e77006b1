use Rattle.std.proofs.Common.{ap, ◌∙◌}
use Rattle.ropey_tree.specs.Counts.{total}
use Rattle.ropey_tree.proofs.Splitting.{split_start, split_end}
use Rattle.ropey_tree.proofs.splits.halves_at.Goals as goal

pub returns-then-at-eq0 : goal.returns-then-at-eq0
returns-then-at-eq0 c = rw (c.if-at-eq0.true, c.in_ok-right.ensures.cases) (split_start c.args.node.now.value.pieces)

pub returns-then-at-counts : goal.returns-then-at-counts
returns-then-at-counts c =
    let end = c.if-at-counts.true ∙ ap (λ k. k.bytes) c.counts.ensures ∙ ap (λ v. (total v.pieces).bytes) c.deref.ensures in
    rw c.in_ok-left.ensures.cases (split_end c.args.node.now.value.pieces c.args.at end)
