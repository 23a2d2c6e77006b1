use Rattle.std.proofs.Common.{◌≡◌, sym, ap, ◌∙◌}
use Rattle.rx_steps.specs.Nodes.{widths_in, node_starts, end_from}
use Rattle.rx_steps.proofs.IndexLaws.{widths_back}
use Rattle.rx_steps.proofs.visited.Visited.over.Goals as goal

pub invariant_of-result : goal.invariant_of-result
invariant_of-result c =
    let (widths, starts, end) = c.requires.starts in
    let back : widths_in c.args.starts.items ≡ widths = ap (λ s. widths_in s) starts ∙ widths_back 0 widths in
    (starts ∙ ap (λ w. node_starts 0 w) (sym back), c.in_ok-set.ensures.made.0 ∙ end ∙ ap (λ w. end_from 0 w) (sym back))

pub returns-clause-widths : goal.returns-clause-widths
returns-clause-widths c = λ widths starts. ap (λ s. widths_in s) starts ∙ widths_back 0 widths
