use Rattle.std.proofs.Common.{Contains, sym, subst}
use Rattle.rx_lists.specs.Bits.{HasNode, IsNodeSetOf}
use Rattle.rx_lists.specs.Known.{IsSetBefore}
use Rattle.rx_lists.specs.Sets.{AreAllNodes}
use Rattle.rx_lists.proofs.KnownLaws.{filled_before, if_ok}
use Rattle.rx_lists.proofs.pass_back.PassBack.set_before.Goals as goal

pub fill-requires-clause-order : goal.fill-requires-clause-order
fill-requires-clause-order c = subst (λ xs. AreAllNodes c.args.program.now.states xs) (sym c.deref-3.ensures.value) c.requires.ready.order_is

pub returns-clause-before : goal.returns-clause-before
returns-clause-before c =
    let p = c.args.program.now in
    let self = c.args.self.now in
    let ready = c.requires.ready in
    let here = c.fill.new.here.nodes in
    if_ok c.set_of.result (IsNodeSetOf self.index c.nodes.result.now) (IsSetBefore p c.args.place.now self.set.value)
    (λ words is. filled_before p c.args.place.now self.order.items c.load.new.self.nodes here self.index self.beyond.widths self.set.value words ready.index_is ready.beyond_are ready.order_is (λ q there. subst (λ w. HasNode self.index w q) c.deref-2.ensures (c.in_ok-load.ensures.these q there))
    (λ q k there has. c.in_ok-load.ensures.all q k (subst (λ xs. Contains xs q) (sym c.deref.ensures.value) there) (subst (λ w. HasNode self.index w q) (sym c.deref-2.ensures) has)) c.in_ok-fill.ensures.filled
    (subst (λ xs. IsNodeSetOf self.index xs words) c.nodes.ensures is)) c.set_of.ensures
