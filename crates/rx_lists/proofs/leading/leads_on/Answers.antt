use Rattle.std.proofs.Common.{◌↔◌, IsTrue, Contains, ◌≡◌, true, map, sym, subst}
use Rattle.rx_walks.specs.Machines.{goes}
use Rattle.rx_steps.specs.Threads.{first_node}
use Rattle.rx_steps.specs.Lists.{move_at}
use Rattle.rx_lists.specs.Leading.{LeadsOn}
use Rattle.rx_lists.proofs.FillLaws.{two_on, some_on}
use Rattle.rx_lists.proofs.leading.leads_on.Goals as goal

pub returns-else-has-2 : goal.returns-else-has-2
returns-else-has-2 c = λ i.
    let here = c.args.here.now.nodes in
    let beyond = c.args.beyond.now.nodes in
    let a = c.in-BinaryUnion.first in
    let b = c.in-BinaryUnion.second in
    subst (λ x. IsTrue c.has-else-has-2.result ↔ LeadsOn here beyond (move_at c.args.place.now i c.args.node x)) (sym c.in-BinaryUnion.is)
    (two_on here beyond a b c.has-else-has-2.result
    (λ there. let yes : c.has-in-BinaryUnion.result ≡ true = c.has-in-BinaryUnion.ensures.1 (subst (λ z. Contains here z) (sym c.first-in-BinaryUnion.ensures) there) in cc (yes, c.if-has-2.false))
    (subst (λ z. IsTrue c.has-else-has-2.result ↔ Contains here z) c.first-else-has-2.ensures c.has-else-has-2.ensures))

pub returns-in-Union : goal.returns-in-Union
returns-in-Union c = λ i.
    let here = c.args.here.now.nodes in
    let beyond = c.args.beyond.now.nodes in
    subst (λ x. IsTrue c.has_some.result ↔ LeadsOn here beyond (move_at c.args.place.now i c.args.node x)) (sym c.in-Union.is)
    (subst (λ xs. IsTrue c.has_some.result ↔ LeadsOn here beyond (goes (map first_node xs))) c.deref-in-Union.ensures.value
    (some_on here beyond c.deref-in-Union.result.now c.has_some.result c.has_some.ensures))
