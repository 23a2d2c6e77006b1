use Rattle.std.proofs.Common.{◌≡◌, ℕ, Some, slice_get, Contains, below_more, inl, inr, sym, ap, subst, ◌∙◌, arith}
use Rattle.std.proofs.lemmas.Option.{slice_get-get_or}
use Rattle.rx_steps.specs.Nodes.{index_from}
use Rattle.rx_lists.specs.Bits.{HasNode}
use Rattle.rx_lists.proofs.SetLaws.{there_at}
use Rattle.rx_lists.proofs.node_index.NodeIndex.set_of.Goals as goal

same_one : {X : Type 0} (x y : X) → Some x ≡ Some y → x ≡ y
same_one x y e = cc e

pub loop-node-preserved : goal.loop-node-preserved
loop-node-preserved c =
    let new = c.put.new.set in
    let nodes = c.args.nodes.now in
    let widths = c.args.self.now in
    let n = c.loop-node.node-index in
    let x = c.node-item.result in
    let put = c.put.ensures.put in
    let here : slice_get nodes n ≡ Some x = slice_get-get_or nodes n x c.loop-node-test.true ∙ ap (λ y. Some y) (sym c.node-item.is) in
    record {
      these = λ q there. elim (put.only q there) [
        | inl has ↦ c.loop-node.invariant.these q has
        | inr e ↦ subst (λ y. Contains nodes y) e (there_at nodes n x here)
      ];
      all = below_more (λ j. (q : ℕ × ℕ) (k : ℕ) → slice_get nodes j ≡ Some q → index_from 0 widths q.0 q.1 ≡ Some k → HasNode widths new q) n
          (λ j below q k at idx. put.others q (c.loop-node.invariant.all j below q k at idx))
          (λ q k at idx.
          let same : x ≡ q = same_one x q (sym here ∙ at) in
          subst (λ y. HasNode widths new y) same (put.there k (subst (λ y. index_from 0 widths y.0 y.1 ≡ Some k) (sym same) idx)));
      room = omega (arith, c.loop-node.invariant.room, c.put.ensures.room);
    }
