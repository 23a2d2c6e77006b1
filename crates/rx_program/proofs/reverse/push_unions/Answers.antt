use Rattle.std.proofs.Common.{◌≡◌, ◌+◌, ◌<◌, ◌++◌, [], ◌∷◌, map, take, length, ap, ap₂, sym, append_assoc, ◌∙◌, arith}
use Rattle.std.proofs.lemmas.List.{map-append}
use Rattle.rx_walks.specs.Programs.{pass}
use Rattle.rx_utf8.specs.Subsets.{lists_of}
use Rattle.rx_program.specs.Arrivals.{unions}
use Rattle.rx_program.specs.Reversed.{back_node_of}
use Rattle.rx_program.proofs.ArrivalLaws.{taken}
use Rattle.rx_program.proofs.ReverseLaws.{all_more}
use Rattle.rx_program.proofs.reverse.push_unions.Goals as goal

pub loop-list-preserved : goal.loop-list-preserved
loop-list-preserved c =
    let lists = c.args.lists.now in
    let i = c.loop-list.list-index in
    let list = c.list-item.result in
    let states = c.loop-list.states.items in
    let old = map back_node_of c.args.states.now.items in
    let state = c.in_ok-union.field-0 in
    let within : i < length lists = omega arith in
    let so_far = take i (lists_of lists) in
    let made : back_node_of state ≡ pass list.items = c.in_ok-union.ensures.node ∙ ap (λ xs. pass xs) c.deref.ensures.value in
    let more : unions (take (i + 1) (lists_of lists)) ≡ unions so_far ++ pass list.items ∷ [] = ap unions (taken (λ x. x.items) lists i list within c.list-item.is) ∙ map-append (λ xs. pass xs) so_far (list.items ∷ []) in
    record {
      nodes = ap (map back_node_of) c.in_ok-push.ensures.items ∙ map-append back_node_of states (state ∷ [])
          ∙ ap₂ (λ xs x. xs ++ x ∷ []) c.loop-list.invariant.nodes made ∙ append_assoc old (unions so_far) (pass list.items ∷ []) ∙ ap (λ xs. old ++ xs) (sym more);
      reads = all_more states c.push.new.self.items state c.loop-list.invariant.reads c.in_ok-union.ensures.reads c.in_ok-push.ensures.items;
    }
