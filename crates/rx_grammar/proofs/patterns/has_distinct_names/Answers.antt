use Rattle.std.proofs.lemmas.List.{map-append}
use Rattle.rx_grammar.proofs.NameLaws.{NamesSoFar-skip, NamesSoFar-push, NamesSoFar-twice}
use Rattle.rx_grammar.proofs.patterns.has_distinct_names.Goals.{in-Some+else-stands_in+in_ok-push, in_default}
use Rattle.rx_grammar.proofs.patterns.has_distinct_names.Goals as goal

pub returns-then-stands_in : goal.returns-then-stands_in
returns-then-stands_in c =
    NamesSoFar-twice c.args.nodes.now c.loop-node.node-index c.node-item.result c.loop-node.invariant c.loop-node-test.true c.node-item.is c.in-Some.ensures (rw c.deref.ensures.value at c.if-stands_in.ensures)

pub loop-node-preserved : goal.loop-node-preserved
loop-node-preserved c =
    let nodes = c.args.nodes.now in
    let i = c.loop-node.node-index in
    elim c.match-name.branch [
      | in-Some+else-stands_in+in_ok-push w ↦
          let other = rw w.deref.ensures.value at w.if-stands_in.ensures in
          let more = NamesSoFar-push nodes i c.node-item.result c.loop-node.invariant c.loop-node-test.true c.node-item.is w.in-Some.ensures other in
          rw w.names-is (rw w.in_ok-push.ensures.items (rw map-append more))
      | in_default w ↦ rw w.names-is (NamesSoFar-skip nodes i c.node-item.result c.loop-node.invariant c.loop-node-test.true c.node-item.is w.in_default.ensures)
    ]
