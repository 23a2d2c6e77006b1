use Rattle.std.proofs.Common.{None, sym, subst}
use Rattle.rx_grammar.specs.Groups.{Opening, numbered}
use Rattle.rx_grammar.proofs.HeadLaws.{plain_head}
use Rattle.rx_grammar.proofs.groups.group_head.Goals as goal

pub returns-in-None : goal.returns-in-None
returns-in-None c =
    let s = c.args.config.now in
    subst (λ x. Opening s c.args.text.now x (numbered None) c.in-Some.inside.now) (sym c.copied.ensures) (plain_head s c.in-Some.ensures c.in-None.ensures)
