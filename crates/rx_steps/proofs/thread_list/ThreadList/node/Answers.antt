use Rattle.std.proofs.Common.{◌≡◌, ◌<◌, length, get_or, sym, ap, ◌∙◌, arith, vec_len}
use Rattle.std.proofs.lemmas.Grind.{common_steps}
use Rattle.rx_steps.proofs.ThreadLaws.{has_node, thread_len, thread_node}
use Rattle.rx_steps.proofs.thread_list.ThreadList.node.Goals as goal

pub index-requires : goal.index-requires
index-requires c =
    let nodes = c.self.inside.nodes in
    let long : vec_len nodes ≡ length nodes.items = grind (arith, common_steps) in
    omega (arith, long, thread_len c.self.inside.slot_len nodes.items c.self.inside.slots.items, ap (λ v. length v.threads) c.self.view_is, c.requires)

pub returns : goal.returns
returns c = has_node c.args.self.now.threads c.args.index c.index.result.now c.requires (λ x.
    let nodes = c.self.inside.nodes.items in
    let slots = c.self.inside.slots.items in
    let within : c.args.index < length nodes = omega (arith, thread_len c.self.inside.slot_len nodes slots, ap (λ v. length v.threads) c.self.view_is, c.requires) in
    c.index.ensures ∙ sym (thread_node c.self.inside.slot_len nodes slots c.args.index x c.index.result.now within)
    ∙ ap (λ v. (get_or v.threads c.args.index x).1) c.self.view_is)
