use Rattle.std.proofs.Common.{◌≡◌, ◌+◌, ◌<◌, [], map, take, length, length-take, arith}
use Rattle.std.proofs.lemmas.List.{length-map}
use Rattle.rx_walks.specs.Reversed.{is_match_of}
use Rattle.rx_program.specs.Programs.{node_of}
use Rattle.rx_utf8.specs.Subsets.{lists_of}
use Rattle.rx_program.proofs.ArrivalLaws.{lists_next, taken}
use Rattle.rx_program.proofs.arrivals.ends_by_pattern.Goals as goal

pub loop-from-preserved : goal.loop-from-preserved
loop-from-preserved c =
    let states = c.args.states.now in
    let nodes = map node_of states in
    let i = c.loop-from.from in
    let state = c.index-states-from.result in
    let within : i < length states = omega arith in
    let id : c.new.result ≡ 0 + length (take i nodes) = omega (arith, c.new.ensures, length-take i nodes, length-map states node_of, within) in
    lists_next (λ k. []) is_match_of c.args.count 0 c.new.result (take i nodes) (take (i + 1) nodes) (node_of state) (lists_of c.loop-from.lists.items) (lists_of c.put_match.new.lists.items)
    (λ q d y e. absurd (cc e)) (taken node_of states i state within c.index-states-from.is) id c.loop-from.invariant c.in_ok-put_match.ensures
