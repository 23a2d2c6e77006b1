use Rattle.std.proofs.Common.{◌≡◌, ◌+◌, ◌-◌, ◌^◌, ◌<◌, ◌≤◌, ◌++◌, length, take, drop, ap, sym, ◌∙◌, arith}
use Rattle.ropey_tree.specs.Children.{views}
use Rattle.ropey_tree.specs.Counts.{total}
use Rattle.ropey_tree.specs.Nodes.{all_pieces}
use Rattle.ropey_tree.proofs.Running.{views-part, part-later, part-fits, in_step-extended}
use Rattle.ropey_tree.proofs.children.Children.with_some.Goals as goal
use Rattle.ropey_tree.proofs.children.Children.with_some.Goals.{In_ok-append_copies, In_ok-extend_from}

within : (c : In_ok-append_copies) → c.args.from + (c.args.to - c.args.from) ≤ length (views c.other.inside.nodes.items)
within c = omega (arith, c.requires.range, c.requires.within, ap length c.other.view_is)

before_is : (c : In_ok-append_copies) → c.before-before.result ≡ total (all_pieces (take c.args.from (views c.other.inside.nodes.items)))
before_is c = c.before-before.ensures ∙ ap (λ us. total (all_pieces (take c.args.from us))) (sym c.other.view_is)

sum_is : (c : In_ok-append_copies) → c.sum-sum.result ≡ total (all_pieces (views c.self.inside.nodes.items))
sum_is c = c.sum-sum.ensures ∙ ap (λ us. total (all_pieces us)) (sym c.self.view_is)

pub extend_from-requires-clause-later : goal.extend_from-requires-clause-later
extend_from-requires-clause-later c =
    let a = (goal.at.extend_from-requires-clause-later c).In_ok-append_copies in
    rw (before_is a) (part-later (views c.self.inside.nodes.items) (views c.other.inside.nodes.items) c.other.inside.totals c.args.from (c.args.to - c.args.from) c.other.invariant.counted (within a))

pub extend_from-requires-clause-fits : goal.extend_from-requires-clause-fits
extend_from-requires-clause-fits c =
    let a = (goal.at.extend_from-requires-clause-fits c).In_ok-append_copies in
    let vs = views c.self.inside.nodes.items in
    let n = c.args.to - c.args.from in
    let own = ap (λ us. (total (all_pieces (us ++ take n (drop c.args.from c.args.other.now)))).bytes) c.self.view_is in
    let others = ap (λ us. (total (all_pieces (vs ++ take n (drop c.args.from us)))).bytes) c.other.view_is in
    let fits : (total (all_pieces (vs ++ take n (drop c.args.from (views c.other.inside.nodes.items))))).bytes < 2 ^ 63 = omega (arith, c.requires.fits, own, others) in
    rw (sum_is a, before_is a) (part-fits vs (views c.other.inside.nodes.items) c.other.inside.totals c.args.from n c.other.invariant.counted (within a) fits)

nodes_are : (c : In_ok-append_copies) → views c.append_copies.new.nodes.items ≡ views c.self.inside.nodes.items ++ take (c.args.to - c.args.from) (drop c.args.from (views c.other.inside.nodes.items))
nodes_are c =
    let vs = views c.self.inside.nodes.items in
    let n = c.args.to - c.args.from in
    c.in_ok-append_copies.ensures ∙ ap (λ ns. vs ++ views (take n (drop c.args.from ns))) c.deref.ensures.value ∙ ap (λ us. vs ++ us) (views-part n c.args.from c.other.inside.nodes.items)

pub invariant_of-result : goal.invariant_of-result
invariant_of-result c =
    let a = (goal.at.invariant_of-result c).In_ok-append_copies in
    let vs = views c.self.inside.nodes.items in
    let room : length vs + (c.args.to - c.args.from) ≤ 24 = omega (arith, c.requires.room, ap length c.self.view_is) in
    rw (nodes_are a, c.in_ok-extend_from.ensures, sum_is a, before_is a)
    (in_step-extended vs (views c.other.inside.nodes.items) c.other.inside.totals c.args.from (c.args.to - c.args.from) c.other.invariant.counted (within a) c.self.inside.totals c.self.invariant room)

pub returns : goal.returns
returns c =
    let n = c.args.to - c.args.from in
    nodes_are (goal.at.returns c).In_ok-append_copies ∙ ap (λ us. us ++ take n (drop c.args.from (views c.other.inside.nodes.items))) c.self.view_is ∙ ap (λ us. c.args.self ++ take n (drop c.args.from us)) c.other.view_is
