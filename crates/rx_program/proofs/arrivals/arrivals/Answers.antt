use Rattle.std.proofs.Common.{◌≡◌, ◌+◌, ◌*◌, ◌<◌, ◌==◌, ◌++◌, [], ◌∷◌, map, take, length, length-take, ap, sym, ◌∙◌, arith}
use Rattle.std.proofs.lemmas.List.{length-map, take_more}
use Rattle.rx_walks.specs.Reversed.{leads_to, those}
use Rattle.rx_program.specs.Programs.{node_of}
use Rattle.rx_utf8.specs.Subsets.{lists_of}
use Rattle.rx_program.proofs.ArrivalLaws.{lists_next, those_below}
use Rattle.rx_program.proofs.arrivals.arrivals.Goals as goal

pub loop-number-preserved : goal.loop-number-preserved
loop-number-preserved c =
    let nodes = map node_of c.args.states.now in
    let n = length nodes in
    let patterns = c.args.patterns.now in
    let i = c.loop-number.number in
    let within : i < length patterns = omega arith in
    let start = c.as_usize-start.result in
    let id : c.new.result ≡ 2 * n + length (take i patterns) = omega (arith, c.new.ensures, length-take i patterns, length-map c.args.states.now node_of, within) in
    lists_next (λ q. those (leads_to q) n nodes) (λ q x. x == q) n (2 * n) c.new.result (take i patterns) (take (i + 1) patterns) start (lists_of c.loop-number.lists.items) (lists_of c.put_at.new.lists.items)
    (λ q d y e. omega (arith, those_below (leads_to q) n nodes d y e)) (take_more patterns i c.index-patterns-number.result within ∙ ap (λ z. take i patterns ++ z ∷ []) (sym c.index-patterns-number.is ∙ sym c.as_usize-start.ensures)) id c.loop-number.invariant c.in_ok-put_at.ensures
