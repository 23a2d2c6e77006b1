use Rattle.std.proofs.Common.{◌≡◌, ℕ, List, [], ap, sym, subst, ◌∙◌}
use Rattle.ropey_tree.specs.Counts.{counts_of}
use Rattle.ropey_tree.specs.Splits.{pieces_in}
use Rattle.ropey.specs.Chunks.{IsRopeText, text_of}
use Rattle.ropey.proofs.rope.Rope.whole.Goals as goal

pub returns-in-None-clause-pieces : goal.returns-in-None-clause-pieces
returns-in-None-clause-pieces c =
    let none : c.args.self.now ≡ [] = sym c.self.view_is ∙ ap pieces_in c.in-None.is in
    c.new.ensures ∙ sym none

pub with_counts-requires-clause-cut : goal.with_counts-requires-clause-cut
with_counts-requires-clause-cut c =
    let same = ap (λ v. v.pieces) c.deref-node.ensures ∙ sym (ap pieces_in c.in-Some.is) in
    subst IsRopeText (sym same) c.self.invariant.text

pub with_counts-requires-clause-counts : goal.with_counts-requires-clause-counts
with_counts-requires-clause-counts c =
    let same = ap (λ v. v.pieces) c.deref-node.ensures ∙ sym (ap pieces_in c.in-Some.is) in
    c.self.invariant.counted ∙ ap (λ (ps : List (List ℕ)). counts_of (text_of ps)) (sym same)

pub returns-in-Some-clause-pieces : goal.returns-in-Some-clause-pieces
returns-in-Some-clause-pieces c = c.with_counts.ensures ∙ ap (λ v. v.pieces) c.deref-node.ensures ∙ sym (ap pieces_in c.in-Some.is) ∙ c.self.view_is
