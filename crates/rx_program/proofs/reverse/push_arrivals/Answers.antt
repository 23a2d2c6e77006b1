use Rattle.std.proofs.Common.{◌++◌, map, ap, ◌∙◌}
use Rattle.rx_walks.specs.Reversed.{arrived}
use Rattle.rx_program.specs.Programs.{node_of}
use Rattle.rx_utf8.specs.Subsets.{lists_of}
use Rattle.rx_program.specs.Arrivals.{unions}
use Rattle.rx_program.specs.Reversed.{back_node_of}
use Rattle.rx_program.proofs.ArrivalLaws.{lists_are}
use Rattle.rx_program.proofs.ReverseLaws.{on_ok}
use Rattle.rx_program.proofs.reverse.push_arrivals.Goals as goal

pub returns-clause-nodes : goal.returns-clause-nodes
returns-clause-nodes c =
    let nodes = map node_of c.args.forward.now in
    let old = map back_node_of c.args.states.now.items in
    let lists = c.in_ok-lists.lists.items in
    on_ok c.push_unions.result
    (λ e. e ∙ ap (λ zs. old ++ zs) (ap (λ ls. unions (lists_of ls)) c.deref.ensures.value ∙ lists_are (λ q. arrived nodes c.args.patterns.now q) nodes (lists_of lists) c.in_ok-lists.ensures))
    c.push_unions.ensures.nodes
