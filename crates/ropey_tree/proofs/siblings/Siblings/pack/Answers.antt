use Rattle.std.proofs.Common.{◌≡◌, [], ◌++◌, length, ap, sym, subst, ◌∙◌, arith, ℕ}
use Rattle.std.proofs.lemmas.List.{append-nil, nil_from_length}
use Rattle.ropey_tree.specs.Nodes.{inner_view}
use Rattle.ropey_tree.specs.Siblings.{IsRowCut}
use Rattle.ropey_tree.proofs.Packing.{front_inner, back_inner, packed_one, packed_two}
use Rattle.ropey_tree.proofs.Rows.{first_len, halves_len}
use Rattle.ropey_tree.proofs.siblings.Siblings.pack.Goals as goal
use Rattle.ropey_tree.proofs.siblings.Siblings.pack.Goals.{After-sum-more}

nodes_are : (c : After-sum-more) → c.self.inside.first ++ c.self.inside.second ≡ c.args.self.nodes
nodes_are c = ap (λ row. row.nodes) c.self.view_is

cut_is : (c : After-sum-more) → IsRowCut (length c.args.self.nodes) c.self.inside.cut
cut_is c = let P : ℕ → Type 0 = λ cut. IsRowCut (length c.args.self.nodes) cut in subst P (sym (ap (λ row. row.cut) c.self.view_is)) c.requires.cut

pub over-requires : goal.over-requires
over-requires c =
    let a = (goal.at.over-requires c).After-sum-more in
    front_inner c.args.height c.args.self.nodes c.self.inside.first c.self.inside.second c.requires.nodes (nodes_are a)
    (first_len c.self.inside.cut c.self.inside.first c.self.inside.second c.args.self.nodes c.self.invariant (cut_is a) (nodes_are a) c.requires.nodes.branches)

pub returns-then-len-eq0-clause-packed : goal.returns-then-len-eq0-clause-packed
returns-then-len-eq0-clause-packed c =
    let a = (goal.at.returns-then-len-eq0-clause-packed c).After-sum-more in
    let nodes = c.args.self.nodes in
    let none : c.self.inside.second ≡ [] = nil_from_length c.self.inside.second (omega (arith, c.if-len-eq0.true, c.len.ensures.value)) in
    let is : c.self.inside.first ≡ nodes = sym (append-nil c.self.inside.first) ∙ ap (λ us. c.self.inside.first ++ us) (sym none) ∙ nodes_are a in
    packed_one c.args.height nodes c.in_ok-front.front.value c.requires.nodes (front_inner c.args.height nodes nodes [] c.requires.nodes (append-nil nodes) c.requires.nodes.branches)
    (c.in_ok-front.ensures.node ∙ ap (λ us. inner_view c.args.height us) is)

pub over-requires-2 : goal.over-requires-2
over-requires-2 c =
    let a = (goal.at.over-requires-2 c).After-sum-more in
    let len = halves_len c.self.inside.cut c.self.inside.first c.self.inside.second c.args.self.nodes c.self.invariant (cut_is a) (nodes_are a) (omega (arith, c.if-len-eq0.false, c.len.ensures.value)) in
    back_inner c.args.height c.args.self.nodes c.self.inside.first c.self.inside.second c.requires.nodes (nodes_are a) (omega (arith, len.1))

pub returns-clause-packed : goal.returns-clause-packed
returns-clause-packed c =
    let a = (goal.at.returns-clause-packed c).After-sum-more in
    let len = halves_len c.self.inside.cut c.self.inside.first c.self.inside.second c.args.self.nodes c.self.invariant (cut_is a) (nodes_are a) (omega (arith, c.if-len-eq0.false, c.len.ensures.value)) in
    packed_two c.args.height c.args.self.nodes c.self.inside.first c.self.inside.second c.in_ok-front.front.value c.in_ok-back.back.value c.requires.nodes (nodes_are a) len.0 len.1 c.in_ok-front.ensures.node c.in_ok-back.ensures.node
