use Rattle.std.proofs.Common.{◌≡◌, ℕ, true, Some, slice_get, Contains, below_more, inl, inr, sym, ap, subst, ◌∙◌, arith}
use Rattle.std.proofs.lemmas.Option.{slice_get-get_or}
use Rattle.rx_steps.specs.Nodes.{index_from}
use Rattle.rx_lists.specs.Bits.{HasNode}
use Rattle.rx_lists.proofs.SetLaws.{none_in}
use Rattle.rx_lists.proofs.node_set.NodeSet.load.Goals as goal

same_one : {X : Type 0} (x y : X) → Some x ≡ Some y → x ≡ y
same_one x y e = cc e

pub loop-node-init : goal.loop-node-init
loop-node-init c = record {
  these = λ q there. absurd (none_in q (subst (λ s. Contains s.nodes q) c.clear.ensures there));
  all = λ j below. absurd (omega (arith, below));
  widths = ap (λ s. s.widths) c.clear.ensures;
}

pub loop-node-preserved : goal.loop-node-preserved
loop-node-preserved c =
    let old = c.loop-node.self in
    let new = c.add_if.new.self in
    let nodes = c.args.nodes.now in
    let index = c.args.index.now in
    let set = c.args.set.now in
    let n = c.loop-node.node-index in
    let x = c.node-item.result in
    let added = c.in_ok-add_if.ensures.added in
    let here : slice_get nodes n ≡ Some x = slice_get-get_or nodes n x c.loop-node-test.true ∙ ap (λ y. Some y) (sym c.node-item.is) in
    record {
      these = λ q there. elim (added.only q there) [
        | inl c' ↦ c.loop-node.invariant.these q c'
        | inr both ↦ subst (λ y. HasNode index set y) both.0 (c.has.ensures.0 both.1)
      ];
      all = below_more (λ j. (q : ℕ × ℕ) (k : ℕ) → slice_get nodes j ≡ Some q → HasNode index set q → index_from 0 new.widths q.0 q.1 ≡ Some k → Contains new.nodes q) n
          (λ j below q k at has idx. added.others q (c.loop-node.invariant.all j below q k at has (subst (λ w. index_from 0 w q.0 q.1 ≡ Some k) c.in_ok-add_if.ensures.widths idx)))
          (λ q k at has idx.
          let same : x ≡ q = same_one x q (sym here ∙ at) in
          let is_in : c.has.result ≡ true = c.has.ensures.1 (subst (λ y. HasNode index set y) (sym same) has) in
          subst (λ y. Contains new.nodes y) same (added.there k is_in (subst (λ w. index_from 0 w x.0 x.1 ≡ Some k) c.in_ok-add_if.ensures.widths (subst (λ y. index_from 0 new.widths y.0 y.1 ≡ Some k) (sym same) idx))));
      widths = c.in_ok-add_if.ensures.widths ∙ c.loop-node.invariant.widths;
    }

pub returns-clause-all : goal.returns-clause-all
returns-clause-all c = λ q k there has idx.
    c.loop-node.invariant.all there.0 (omega (arith, there.1, c.loop-node-test.false)) q k
    (slice_get-get_or c.args.nodes.now there.0 q there.1 ∙ ap (λ y. Some y) there.2) has
    (subst (λ w. index_from 0 w q.0 q.1 ≡ Some k) (sym c.loop-node.invariant.widths) idx)
