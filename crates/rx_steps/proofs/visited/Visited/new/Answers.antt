use Rattle.std.proofs.Common.{◌≡◌, map, sym, ap, ◌∙◌}
use Rattle.rx_steps.specs.Nodes.{width_of, widths_in, node_starts, end_from}
use Rattle.rx_steps.proofs.IndexLaws.{widths_back}
use Rattle.rx_steps.proofs.visited.Visited.new.Goals as goal

pub invariant_of-result : goal.invariant_of-result
invariant_of-result c =
    let widths = map width_of c.states.result.now in
    let back : widths_in c.in_ok-starts.starts.items ≡ widths = ap (λ s. widths_in s) c.in_ok-starts.ensures.starts ∙ widths_back 0 widths in
    (c.in_ok-starts.ensures.starts ∙ ap (λ w. node_starts 0 w) (sym back), c.in_ok-set.ensures.made.0 ∙ c.in_ok-starts.ensures.end ∙ ap (λ w. end_from 0 w) (sym back))

pub returns-clause-widths : goal.returns-clause-widths
returns-clause-widths c =
    ap (λ s. widths_in s) c.in_ok-starts.ensures.starts ∙ widths_back 0 (map width_of c.states.result.now) ∙ ap (λ s. map width_of s) c.states.ensures.states
