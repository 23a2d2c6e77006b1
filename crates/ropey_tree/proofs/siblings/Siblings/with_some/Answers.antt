use Rattle.std.proofs.Common.{◌≡◌, ◌+◌, ◌-◌, ◌≤◌, ◌⊎◌, inl, inr, [], ◌++◌, take, drop, ap, ◌∙◌, arith}
use Rattle.ropey_tree.specs.Counts.{total}
use Rattle.ropey_tree.specs.Nodes.{all_pieces}
use Rattle.ropey_tree.proofs.InRow.{bytes-left-le, bytes-right-le}
use Rattle.ropey_tree.proofs.Rows.{parts_join}
use Rattle.ropey_tree.proofs.siblings.Siblings.with_some.Goals as goal
use Rattle.ropey_tree.proofs.siblings.Siblings.with_some.Goals.{After-min}

joined : (c : After-min) → (c.self.inside.first ++ take (c.args.from + c.min.result - c.args.from) (drop c.args.from c.args.other.now)) ++ (c.self.inside.second ++ take (c.args.to - (c.args.from + c.min.result)) (drop (c.args.from + c.min.result) c.args.other.now))
    ≡ c.args.self.nodes ++ take (c.args.to - c.args.from) (drop c.args.from c.args.other.now)
joined c =
    let few : c.min.result ≤ c.args.to - c.args.from = omega (arith, c.min.ensures) in
    let order : (c.min.result ≡ 0) ⊎ (c.self.inside.second ≡ []) = elim c.self.invariant.order [
      | inl e ↦ inl (omega (arith, c.min.ensures, c.len.ensures.value, e))
      | inr e ↦ inr e
    ] in
    parts_join c.args.other.now c.args.from c.args.to c.min.result few c.self.inside.first c.self.inside.second order ∙ ap (λ row. row.nodes ++ take (c.args.to - c.args.from) (drop c.args.from c.args.other.now)) c.self.view_is

pub with_some-requires-clause-fits : goal.with_some-requires-clause-fits
with_some-requires-clause-fits c =
    let front = c.self.inside.first ++ take (c.args.from + c.min.result - c.args.from) (drop c.args.from c.args.other.now) in
    let back = c.self.inside.second ++ take (c.args.to - (c.args.from + c.min.result)) (drop (c.args.from + c.min.result) c.args.other.now) in
    omega (arith, bytes-left-le front back, ap (λ us. (total (all_pieces us)).bytes) (joined (goal.at.with_some-requires-clause-fits c).After-min), c.requires.fits)

pub with_some-requires-2-clause-fits : goal.with_some-requires-2-clause-fits
with_some-requires-2-clause-fits c =
    let front = c.self.inside.first ++ take (c.args.from + c.min.result - c.args.from) (drop c.args.from c.args.other.now) in
    let back = c.self.inside.second ++ take (c.args.to - (c.args.from + c.min.result)) (drop (c.args.from + c.min.result) c.args.other.now) in
    omega (arith, bytes-right-le front back, ap (λ us. (total (all_pieces us)).bytes) (joined (goal.at.with_some-requires-2-clause-fits c).After-min), c.requires.fits)

pub returns-clause-nodes : goal.returns-clause-nodes
returns-clause-nodes c =
    let front = c.self.inside.first ++ take (c.args.from + c.min.result - c.args.from) (drop c.args.from c.args.other.now) in
    ap (λ us. us ++ c.in_ok-second.second) c.in_ok-first.ensures ∙ ap (λ us. front ++ us) c.in_ok-second.ensures ∙ joined (goal.at.returns-clause-nodes c).After-min
