use Rattle.std.proofs.Common.{◌≡◌, ◌∙◌, ap, set, reverse, length, Some, vec_len, arith}
use Rattle.std.proofs.lemmas.Grind.{common_steps}
use Rattle.std.proofs.lemmas.Option.{slice_get_read}
use Rattle.rx_steps.specs.Frames.{waiting}
use Rattle.rx_steps.proofs.PendingLaws.{noted}
use Rattle.rx_steps.proofs.pending.Pending.note.Goals as goal

pub returns-in_ok-push-clause-threads : goal.returns-in_ok-push-clause-threads
returns-in_ok-push-clause-threads c =
    let slots = c.self.inside.slots in
    let long : vec_len slots ≡ length slots.items = grind (arith, common_steps) in
    let held = c.index-held.result.now in
    let is_held = slice_get_read slots.items c.len.result c.args.slot held (c.len.ensures ∙ long) c.if-slot-len.true c.index-held.ensures in
    ap (λ xs. waiting (set slots.items c.args.slot (Some c.args.at)) (reverse xs)) c.in_ok-push.ensures.items
    ∙ noted slots.items c.self.inside.stack.items c.args.slot held (Some c.args.at) is_held
    ∙ ap (λ v. v.threads) c.self.view_is
