use Rattle.std.proofs.Common.{ap, ◌∙◌}
use Rattle.ropey_tree.specs.Counts.{total}
use Rattle.ropey_tree.proofs.CuttingLaws.{counts_of_a_cutting}
use Rattle.ropey.proofs.rope.Rope.of_tree.Goals as goal

pub invariant_of-result : goal.invariant_of-result
invariant_of-result c =
    let is_text = rw c.deref.ensures at c.height.ensures.tree.text in
    record {
      text = is_text;
      counted = c.counts-counts.ensures ∙ ap (λ v. total v.pieces) c.deref-in-Some.ensures ∙ counts_of_a_cutting c.in-Some.tree.value.pieces is_text.cut;
    }
