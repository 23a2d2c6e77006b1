use Rattle.std.proofs.Common.{refl, sym, ap, ◌∙◌, arith}
use Rattle.std.proofs.lemmas.List.{take_all}
use Rattle.rx_dfa.specs.Hashes.{mixed, with_nodes}
use Rattle.rx_dfa.proofs.StateLaws.{nodes_more}
use Rattle.rx_dfa.proofs.states.with_nodes.Goals as goal

pub loop-index-init : goal.loop-index-init
loop-index-init c = record { hash = refl }

pub loop-index-preserved : goal.loop-index-preserved
loop-index-preserved c = record {
  hash = c.with_node-hash.ensures ∙ ap (λ h. mixed (mixed h c.node.result.0) c.node.result.1) c.loop-index.invariant.hash
      ∙ sym (nodes_more c.args.threads.now.threads c.loop-index.index c.args.hash c.node.result c.node.ensures);
}

pub returns : goal.returns
returns c =
    let threads = c.args.threads.now.threads in
    c.loop-index.invariant.hash ∙ ap (λ ts. with_nodes c.args.hash ts) (take_all c.loop-index.index threads (omega (arith, c.loop-index-test.false, c.len-index-end.ensures)))
