use Rattle.std.proofs.Common.{◌≡◌, length, sym, ap, ◌∙◌, arith, vec_len}
use Rattle.std.proofs.lemmas.Grind.{common_steps}
use Rattle.rx_steps.proofs.ThreadLaws.{thread_len}
use Rattle.rx_steps.proofs.thread_list.ThreadList.len.Goals as goal

pub returns : goal.returns
returns c =
    let nodes = c.self.inside.nodes in
    let long : vec_len nodes ≡ length nodes.items = grind (arith, common_steps) in
    c.len.ensures ∙ long ∙ sym (thread_len c.self.inside.slot_len nodes.items c.self.inside.slots.items) ∙ ap (λ v. length v.threads) c.self.view_is
