use Rattle.std.proofs.Common.{◌≡◌, ◌+◌, ◌<◌, [], map, take, length, length-take, arith}
use Rattle.std.proofs.lemmas.List.{length-map}
use Rattle.rx_walks.specs.Reversed.{leads_to}
use Rattle.rx_program.specs.Programs.{node_of}
use Rattle.rx_utf8.specs.Subsets.{lists_of}
use Rattle.rx_program.proofs.ArrivalLaws.{lists_next, taken}
use Rattle.rx_program.proofs.arrivals.edges_to.Goals as goal

pub loop-from-preserved : goal.loop-from-preserved
loop-from-preserved c =
    let states = c.args.states.now in
    let nodes = map node_of states in
    let i = c.loop-from.from in
    let state = c.index-states-from.result in
    let within : i < length states = omega arith in
    let id : c.new.result ≡ length nodes + length (take i nodes) = omega (arith, c.new.ensures, length-take i nodes, length-map states node_of, within) in
    lists_next (λ q. []) leads_to (length nodes) (length nodes) c.new.result (take i nodes) (take (i + 1) nodes) (node_of state) (lists_of c.loop-from.lists.items) (lists_of c.put_edges.new.lists.items)
    (λ q d y e. absurd (cc e)) (taken node_of states i state within c.index-states-from.is) id c.loop-from.invariant c.in_ok-put_edges.ensures
