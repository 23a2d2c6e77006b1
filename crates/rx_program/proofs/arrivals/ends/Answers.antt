use Rattle.std.proofs.Common.{◌≡◌, ◌+◌, ◌<◌, ◌++◌, [], ◌∷◌, cond, is_some, map, take, length, length-take, ap, sym, ◌∙◌, arith}
use Rattle.std.proofs.lemmas.List.{length-map, append-nil}
use Rattle.rx_walks.specs.Reversed.{is_match}
use Rattle.rx_program.specs.Programs.{node_of}
use Rattle.rx_program.proofs.ArrivalLaws.{those_more, taken, is_a_match}
use Rattle.rx_program.proofs.arrivals.ends.Goals.{then-is_some+in_ok-push, else-is_some}
use Rattle.rx_program.proofs.arrivals.ends.Goals as goal

pub loop-from-preserved : goal.loop-from-preserved
loop-from-preserved c =
    let states = c.args.states.now in
    let nodes = map node_of states in
    let i = c.loop-from.from in
    let state = c.index-states-from.result in
    let list = c.loop-from.list.items in
    let within : i < length states = omega arith in
    let id : i ≡ length (take i nodes) = omega (arith, length-take i nodes, length-map states node_of, within) in
    let test : is_match (node_of state) ≡ c.is_some.result = is_a_match (node_of state) ∙ ap is_some (sym c.match_of.ensures) ∙ sym c.is_some.ensures in
    let grown : c.if-is_some.list.items ≡ list ++ cond (is_match (node_of state)) (i ∷ []) [] = elim c.if-is_some.branch [
      | then-is_some+in_ok-push w ↦
          ap (λ x. x.items) w.list-is ∙ w.in_ok-push.ensures.items ∙ ap (λ k. list ++ k ∷ []) w.new.ensures ∙ ap (λ b. list ++ cond b (i ∷ []) []) (sym (test ∙ w.if-is_some.true))
      | else-is_some w ↦
          ap (λ x. x.items) w.list-is ∙ sym (append-nil list) ∙ ap (λ b. list ++ cond b (i ∷ []) []) (sym (test ∙ w.if-is_some.false))
    ] in
    those_more is_match (take i nodes) (take (i + 1) nodes) (node_of state) i list c.if-is_some.list.items (taken node_of states i state within c.index-states-from.is) id c.loop-from.invariant grown
