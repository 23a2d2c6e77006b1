use Rattle.std.proofs.Common.{eqb, ◌&&◌, ◌∙◌, ap, arith}
use Rattle.rx_steps.proofs.IdleLaws.{alone}
use Rattle.rx_steps.proofs.search.is_fresh.Goals as goal

pub returns : goal.returns
returns c = λ same.
    let here = c.first.ensures ∙ ap (λ q. (q, 0)) c.start.ensures in
    alone c.args.threads.now.threads c.node.result (c.args.program.now.start, 0) c.eq.result (omega (arith, c.len.ensures, c.if-len-ne1.false)) c.node.ensures (c.eq.ensures ∙ ap (λ b. eqb c.node.result.0 b.0 && eqb c.node.result.1 b.1) here) same
