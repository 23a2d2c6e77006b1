use Rattle.std.proofs.Common.{◌≡◌, ◌<◌, ◌≤◌, ◌+◌, ◌*◌, length, get_or, take, drop, sym, ap, ◌∙◌, arith}
use Rattle.rx_steps.proofs.ThreadLaws.{has_slots, thread_len, thread_slots, thread_room}
use Rattle.rx_steps.proofs.thread_list.ThreadList.slots.Goals as goal

pub part-requires : goal.part-requires
part-requires c =
    let n = c.self.inside.slot_len in
    let nodes = c.self.inside.nodes.items in
    let slots = c.self.inside.slots.items in
    let within : c.args.index < length nodes = omega (arith, thread_len n nodes slots, ap (λ v. length v.threads) c.self.view_is, c.requires) in
    let room : c.args.index * n + n ≤ length nodes * n = thread_room c.args.index n (length nodes) within in
    let all : length slots ≡ length nodes * n = c.self.invariant in
    record { within = omega (arith, room, all, ap (λ xs. length xs) c.deref.ensures.value) }

pub returns-clause-slots : goal.returns-clause-slots
returns-clause-slots c = has_slots c.args.self.now.threads c.args.index c.part.result.now c.requires (λ x.
    let n = c.self.inside.slot_len in
    let nodes = c.self.inside.nodes.items in
    let slots = c.self.inside.slots.items in
    let within : c.args.index < length nodes = omega (arith, thread_len n nodes slots, ap (λ v. length v.threads) c.self.view_is, c.requires) in
    c.part.ensures.part ∙ ap (λ xs. take n (drop (c.args.index * n) xs)) c.deref.ensures.value
    ∙ sym (thread_slots n nodes slots c.args.index x within) ∙ ap (λ v. (get_or v.threads c.args.index x).0) c.self.view_is)
