use Rattle.std.proofs.Common.{◌+◌, ◌<◌, [], ◌∷◌, map, take, length, length-take, ap, ◌∙◌, arith}
use Rattle.std.proofs.lemmas.List.{map-append, length-map}
use Rattle.rx_walks.specs.Reversed.{edge_back}
use Rattle.rx_program.specs.Programs.{node_of}
use Rattle.rx_program.specs.Reversed.{back_node_of}
use Rattle.rx_program.proofs.ArrivalLaws.{indexed_more, taken}
use Rattle.rx_program.proofs.ReverseLaws.{all_more}
use Rattle.rx_program.proofs.reverse.push_edges_back.Goals as goal

pub loop-from-preserved : goal.loop-from-preserved
loop-from-preserved c =
    let forward = c.args.forward.now in
    let i = c.loop-from.from in
    let states = c.loop-from.states.items in
    let state = c.index-forward-from.result in
    let within : i < length forward = omega arith in
    let nodes = map node_of forward in
    record {
      nodes = indexed_more edge_back (take i nodes) (take (i + 1) nodes) (node_of state) i _ (map back_node_of states) (map back_node_of c.push.new.self.items) (back_node_of c.in_ok-edge_back.field-0)
          (taken node_of forward i state within c.index-forward-from.is) (omega (arith, length-take i nodes, length-map forward node_of, within))
          (c.in_ok-edge_back.ensures.node ∙ ap (λ k. edge_back k (node_of state)) c.new.ensures) c.loop-from.invariant.nodes
          (ap (map back_node_of) c.in_ok-push.ensures.items ∙ map-append back_node_of states (c.in_ok-edge_back.field-0 ∷ []));
      reads = all_more states c.push.new.self.items c.in_ok-edge_back.field-0 c.loop-from.invariant.reads c.in_ok-edge_back.ensures.reads c.in_ok-push.ensures.items;
    }
