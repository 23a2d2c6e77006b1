use Rattle.std.proofs.Common.{◌≡◌, ◌+◌, Some, slice_get, take, Contains, refl, sym, ap, subst, ◌∙◌}
use Rattle.std.proofs.lemmas.Option.{slice_get-get_or}
use Rattle.rx_lists.specs.Leading.{IsRound}
use Rattle.rx_lists.proofs.RoundLaws.{round_none, round_next, take_one_more, take_whole}
use Rattle.rx_lists.proofs.SetLaws.{none_in}
use Rattle.rx_lists.proofs.leading.mark_all.Goals as goal

pub loop-node-init : goal.loop-node-init
loop-node-init c = record {
  round = round_none c.args.program.now c.args.place.now (λ q. Contains (take 0 c.args.nodes.now) q) c.args.beyond.now.nodes c.args.here.now.nodes (λ q there. none_in q there);
  widths = refl;
}

pub loop-node-preserved : goal.loop-node-preserved
loop-node-preserved c =
    let nodes = c.args.nodes.now in
    let n = c.loop-node.node-index in
    let x = c.node-item.result in
    let here : slice_get nodes n ≡ Some x = slice_get-get_or nodes n x c.loop-node-test.true ∙ ap (λ y. Some y) (sym c.node-item.is) in
    record {
      round = round_next c.args.program.now c.args.place.now (take n nodes) (take (n + 1) nodes) c.args.beyond.now.nodes c.args.here.now.nodes c.loop-node.here.nodes c.mark.new.here.nodes x
          c.in_ok-mark.field-0 (take_one_more nodes n x here) c.loop-node.invariant.round c.in_ok-mark.ensures.marked;
      widths = c.in_ok-mark.ensures.widths ∙ c.loop-node.invariant.widths;
    }

pub returns-clause-round : goal.returns-clause-round
returns-clause-round c =
    subst (λ xs. IsRound c.args.program.now c.args.place.now (λ q. Contains xs q) c.args.beyond.now.nodes c.args.here.now.nodes c.loop-node.here.nodes)
    (take_whole c.args.nodes.now c.loop-node.node-index c.loop-node-test.false) c.loop-node.invariant.round
