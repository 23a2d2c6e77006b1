use Rattle.std.proofs.Common.{◌+◌, ◌*◌, Some, set, ap, ◌∙◌, arith}
use Rattle.rx_lists.specs.Known.{KnownView}
use Rattle.rx_lists.proofs.KnownLaws.{tell_more}
use Rattle.rx_lists.proofs.known.Known.tell.Goals as goal

pub returns-clause-told : goal.returns-clause-told
returns-clause-told c = λ p told one.
    let numbers = c.self.inside.before.items in
    let at = c.args.number * 256 + c.from.result in
    let new : KnownView = record { sets = c.self.inside.sets; before = set numbers at (Some c.args.to) } in
    tell_more p c.args.self.now new c.args.number c.args.byte c.args.to (omega (arith, c.ranges.byte)) (ap (λ k. k.sets) c.self.view_is)
    (ap (λ j. set numbers j (Some c.args.to)) (ap (λ b. c.args.number * 256 + b) c.from.ensures) ∙ ap (λ k. set k.before (c.args.number * 256 + c.args.byte) (Some c.args.to)) c.self.view_is) told one
