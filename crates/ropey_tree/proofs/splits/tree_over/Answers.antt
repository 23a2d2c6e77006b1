use Rattle.std.proofs.Common.{◌≡◌, ◌+◌, ◌-◌, ◌++◌, length, take, drop, ap, sym, ◌∙◌, arith, length-append, length-take-le}
use Rattle.std.proofs.Math.Seq.{take-add}
use Rattle.ropey_tree.specs.Counts.{total}
use Rattle.ropey_tree.specs.Nodes.{all_pieces}
use Rattle.ropey_tree.proofs.InRow.{all_pieces-append, bytes-part-le}
use Rattle.ropey_tree.proofs.Packing.{part_inner}
use Rattle.ropey_tree.proofs.splits.tree_over.Goals as goal
use Rattle.ropey_tree.proofs.splits.tree_over.Goals.{In_ok-some}

pub with_some-requires-clause-fits : goal.with_some-requires-clause-fits
with_some-requires-clause-fits c =
    let children = c.args.children.now in
    let n = c.args.to - c.args.from in
    let start = ap (λ us. (total (all_pieces (us ++ take n (drop c.args.from children)))).bytes) c.in_ok-with_capacity.ensures in
    omega (arith, start, bytes-part-le children c.args.from n, c.requires.inner.text.fits)

part_row : (c : In_ok-some) → take c.args.from c.args.children.now ++ c.in_ok-some.some ≡ take c.args.to c.args.children.now
part_row c =
    let children = c.args.children.now in
    let n = c.args.to - c.args.from in
    let end : c.args.from + n ≡ c.args.to = omega (arith, c.requires.range) in
    let some = c.in_ok-some.ensures ∙ ap (λ us. us ++ take n (drop c.args.from children)) c.in_ok-with_capacity.ensures in
    ap (λ us. take c.args.from children ++ us) some ∙ sym (take-add c.args.from n children) ∙ ap (λ k. take k children) end

pub over-requires : goal.over-requires
over-requires c =
    let children = c.args.children.now in
    let is = part_row (goal.at.over-requires c).In_ok-some in
    let sums = sym (length-append (take c.args.from children) c.in_ok-some.some) ∙ ap length is in
    let front = length-take-le c.args.from children (omega (arith, c.requires.range, c.requires.within)) in
    let whole = length-take-le c.args.to children c.requires.within in
    part_inner c.args.height children c.in_ok-some.some c.args.from c.args.to c.requires.inner is
    (omega (arith, sums, front, whole, c.requires.range, c.if-from-to.false, c.if-to-from-eq1.false))

pub returns : goal.returns
returns c =
    let children = c.args.children.now in
    ap (λ v. all_pieces (take c.args.from children) ++ v.pieces) c.in_ok-node.ensures.node ∙ sym (all_pieces-append (take c.args.from children) c.in_ok-some.some) ∙ ap all_pieces (part_row (goal.at.returns c).In_ok-some)
