use Rattle.std.proofs.Common.{◌∷◌, ◌++◌, ◌*◌, [], None, length, sym, ap, ap₂, ◌∙◌}
use Rattle.std.proofs.lemmas.List.{length-append, length-replicate}
use Rattle.rx_steps.specs.Threads.{threads_of}
use Rattle.rx_steps.specs.Threads.{no_slots}
use Rattle.rx_steps.proofs.ThreadLaws.{thread_put, more_slots}
use Rattle.rx_steps.proofs.thread_list.ThreadList.push_fresh.Goals as goal

pub invariant_of-self : goal.invariant_of-self
invariant_of-self c =
    let n = c.self.inside.slot_len in
    let nodes = c.self.inside.nodes.items in
    let slots = c.self.inside.slots.items in
    ap (λ xs. length xs) c.in-Ok.ensures.slots ∙ length-append slots (no_slots n)
    ∙ more_slots (length nodes) n (length slots) (length (no_slots n)) c.self.invariant (length-replicate n None)
    ∙ ap (λ k. k * n) (sym (length-append nodes (c.args.node ∷ [])) ∙ ap (λ xs. length xs) (sym c.in-Ok.ensures.nodes))

pub returns-in-Ok-clause-threads : goal.returns-in-Ok-clause-threads
returns-in-Ok-clause-threads c =
    let n = c.self.inside.slot_len in
    let nodes = c.self.inside.nodes.items in
    let slots = c.self.inside.slots.items in
    ap₂ (λ xs ys. threads_of n xs ys) c.in-Ok.ensures.nodes c.in-Ok.ensures.slots
    ∙ thread_put n nodes slots (no_slots n) c.args.node c.self.invariant (length-replicate n None)
    ∙ ap (λ v. v.threads ++ (no_slots v.slot_len, c.args.node) ∷ []) c.self.view_is
