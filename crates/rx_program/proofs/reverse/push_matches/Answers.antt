use Rattle.std.proofs.Common.{◌+◌, ◌<◌, [], ◌∷◌, map, take, length, get_or, length-take, ap, ◌∙◌, arith}
use Rattle.std.proofs.lemmas.List.{take_more, map-append}
use Rattle.rx_walks.specs.Programs.{match}
use Rattle.rx_program.specs.Reversed.{back_node_of}
use Rattle.rx_program.proofs.ArrivalLaws.{indexed_more}
use Rattle.rx_program.proofs.ReverseLaws.{all_more}
use Rattle.rx_program.proofs.reverse.push_matches.Goals as goal

pub loop-number-preserved : goal.loop-number-preserved
loop-number-preserved c =
    let patterns = c.args.patterns.now in
    let i = c.loop-number.number in
    let states = c.loop-number.states.items in
    let within : i < length patterns = omega arith in
    record {
      nodes = indexed_more (λ k start. match k) (take i patterns) (take (i + 1) patterns) (get_or patterns i 0) i _ (map back_node_of states) (map back_node_of c.push.new.self.items) (match c.new.result)
          (take_more patterns i 0 within) (omega (arith, length-take i patterns, within)) (ap (λ k. match k) c.new.ensures) c.loop-number.invariant.nodes
          (ap (map back_node_of) c.in_ok-push.ensures.items ∙ map-append back_node_of states (_ ∷ []));
      reads = all_more states c.push.new.self.items _ c.loop-number.invariant.reads tt c.in_ok-push.ensures.items;
    }
