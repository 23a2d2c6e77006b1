use Rattle.std.proofs.Common.{◌≡◌, ◌++◌, [], ◌∷◌, map, ap, ap₂, append_assoc, ◌∙◌}
use Rattle.std.proofs.lemmas.List.{map-append}
use Rattle.rx_walks.specs.Programs.{pass}
use Rattle.rx_walks.specs.Reversed.{those, is_match, is_match_of, indexed}
use Rattle.rx_program.specs.Programs.{node_of}
use Rattle.rx_utf8.specs.Subsets.{lists_of}
use Rattle.rx_program.specs.Arrivals.{unions}
use Rattle.rx_program.specs.Reversed.{back_node_of}
use Rattle.rx_program.proofs.ArrivalLaws.{lists_are}
use Rattle.rx_program.proofs.ReverseLaws.{on_ok}
use Rattle.rx_program.proofs.reverse.push_starts.Goals as goal

pub returns-clause-nodes : goal.returns-clause-nodes
returns-clause-nodes c =
    let nodes = map node_of c.args.forward.now in
    let patterns = c.args.patterns.now in
    let states = c.args.states.now.items in
    let old = map back_node_of states in
    let state = c.in_ok-union.field-0 in
    let lists = c.in_ok-lists.lists.items in
    let made : back_node_of state ≡ pass (those is_match 0 nodes) = c.in_ok-union.ensures.node ∙ ap (λ xs. pass xs) (c.deref.ensures.value ∙ c.in_ok-all.ensures) in
    let first : map back_node_of c.push.new.self.items ≡ old ++ pass (those is_match 0 nodes) ∷ [] = ap (map back_node_of) c.in_ok-push.ensures.items ∙ map-append back_node_of states (state ∷ []) ∙ ap (λ x. old ++ x ∷ []) made in
    let others = indexed (λ k start. pass (those (is_match_of k) 0 nodes)) 0 patterns in
    let rest : unions (lists_of c.deref-2.result.now) ≡ others = ap (λ ls. unions (lists_of ls)) c.deref-2.ensures.value ∙ lists_are (λ k. those (is_match_of k) 0 nodes) patterns (lists_of lists) c.in_ok-lists.ensures in
    on_ok c.push_unions.result (λ e. e ∙ ap₂ (λ xs ys. xs ++ ys) first rest ∙ append_assoc old (pass (those is_match 0 nodes) ∷ []) others) c.push_unions.ensures.nodes
