use Rattle.std.proofs.Common.{take, None, unwrap_or, sym, ap, subst, ◌∙◌, arith}
use Rattle.rx_grammar.specs.Subtrees.{child_count}
use Rattle.rx_grammar.specs.Nodes.{kind_of}
use Rattle.rx_grammar.proofs.StaticGroupLaws.{concat-groups, alternation-groups, IsGroup, group-groups, groups_in-le}
use Rattle.rx_grammar.proofs.hir.Node.static_groups.Goals as goal

pub returns-in-Concat : goal.returns-in-Concat
returns-in-Concat c = λ trees may is. concat-groups trees c.in-Concat.field-0 (ap kind_of c.in-Concat.is) may is

pub returns-in_ok-below-in-Alternation : goal.returns-in_ok-below-in-Alternation
returns-in_ok-below-in-Alternation c = λ trees may is.
    let told = alternation-groups trees c.in-Alternation.field-0 (ap kind_of c.in-Alternation.is) may is in
    ap (λ a. unwrap_or a None) (sym (c.in_ok-below-in-Alternation.was {u = tt}) ∙ told)

pub returns-in-Group : goal.returns-in-Group
returns-in-Group c = λ trees may is.
    c.both.ensures (λ n m e d. omega (arith, c.requires, is.extent, groups_in-le (take (child_count (kind_of c.args.self.now)) trees) (sym is.groups ∙ e), ap (λ a. unwrap_or a 0) d))
    ∙ group-groups trees c.args.self.now (subst IsGroup (sym c.in-Group.is) tt) may is
