use Rattle.std.proofs.Common.{sym, subst}
use Rattle.rx_engine.specs.Engines.{IsRefusedAt}
use Rattle.rx_engine.proofs.BuildLaws.{refused_text}
use Rattle.rx_engine.proofs.builder.tree.Goals as goal

pub returns-in-Err-clause-refused : goal.returns-in-Err-clause-refused
returns-in-Err-clause-refused c =
    let text = c.args.pattern.now in
    let settings = c.args.settings.now in
    subst (λ e. IsRefusedAt c.args.number text settings e) (sym c.refusal.ensures)
    (refused_text c.args.number text settings c.in-Err.error c.in-Err.ensures.too_long.0 (λ some. (c.in-Err.ensures.nesting some).0) (λ some. (c.in-Err.ensures.outside some).0))
