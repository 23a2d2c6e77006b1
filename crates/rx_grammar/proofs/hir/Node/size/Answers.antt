use Rattle.std.proofs.Common.{ap, ◌∙◌}
use Rattle.rx_grammar.specs.Nodes.{kind_of}
use Rattle.rx_grammar.proofs.RowLaws.{concat-size-at, alternation-size-at}
use Rattle.rx_grammar.proofs.hir.Node.size.Goals as goal

pub returns-in-Concat : goal.returns-in-Concat
returns-in-Concat c = λ trees may is. concat-size-at trees c.in-Concat.field-0 (ap kind_of c.in-Concat.is) may is

pub returns-in-Alternation : goal.returns-in-Alternation
returns-in-Alternation c = λ trees may is.
    c.saturating_add-in-Alternation.ensures ∙ alternation-size-at trees c.in-Alternation.field-0 (ap kind_of c.in-Alternation.is) may is
