use Rattle.std.proofs.Common.{◌≡◌, length, ap, arith}
use Rattle.std.proofs.lemmas.Grind.{common_steps}
use Rattle.rx_dfa.proofs.BareLaws.{differ_at, same_bare, same_before}
use Rattle.rx_dfa.proofs.states.same_nodes.Goals as goal

pub returns-then-len-clause-differ : goal.returns-then-len-clause-differ
returns-then-len-clause-differ c = λ told e. c.if-len.true (omega (arith, c.len.ensures, c.len-2.ensures, ap length e))

pub returns-then-ne-clause-differ : goal.returns-then-ne-clause-differ
returns-then-ne-clause-differ c = λ told e.
    let other : c.node.result ≡ c.node-in-loop-index.result → ⊥ = λ same. grind (arith, common_steps) in
    differ_at c.args.threads.now.threads c.args.others.now.threads c.loop-index.index c.node.result c.node-in-loop-index.result c.node.ensures c.node-in-loop-index.ensures other e

pub returns-clause-same : goal.returns-clause-same
returns-clause-same c = λ told.
    let threads = c.args.threads.now.threads in
    let others = c.args.others.now.threads in
    let long : length threads ≡ length others = omega (arith, c.len.ensures, c.len-2.ensures, c.if-len.false) in
    same_bare threads others c.requires.bare c.requires.bare_others long
    (same_before threads others c.loop-index.index (length threads) (omega (arith, c.loop-index-test.false, c.len-index-end.ensures)) c.loop-index.invariant.same)
