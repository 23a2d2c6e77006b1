use Rattle.std.proofs.Common.{◌≡◌, ◌+◌, ◌*◌, Some, length, slice_get, refl, sym, ap, ◌∙◌, arith}
use Rattle.std.proofs.lemmas.Option.{slice_get_read}
use Rattle.rx_lists.specs.Known.{column_of}
use Rattle.rx_lists.proofs.KnownLaws.{before_told}
use Rattle.rx_lists.proofs.known.Known.before.Goals as goal

pub returns-clause-told : goal.returns-clause-told
returns-clause-told c = λ p told.
    let numbers = c.self.inside.before.items in
    let inv = c.self.invariant in
    let sets : length c.self.inside.sets ≡ length c.args.self.now.sets = ap (λ k. length k.sets) c.self.view_is in
    let place : c.args.number * 256 + c.from.result ≡ column_of c.args.number c.args.byte = ap (λ b. c.args.number * 256 + b) c.from.ensures in
    let get : slice_get numbers (c.args.number * 256 + c.from.result) ≡ Some c.index.result.now =
    slice_get_read numbers (length numbers) (c.args.number * 256 + c.from.result) c.index.result.now refl (omega (arith, inv.room, c.requires, sets, c.from.ensures, c.ranges.byte)) c.index.ensures in
    before_told p c.args.self.now c.args.number c.args.byte c.index.result.now (omega (arith, c.ranges.byte))
    (ap (λ k. slice_get k.before (column_of c.args.number c.args.byte)) (sym c.self.view_is) ∙ ap (λ j. slice_get numbers j) (sym place) ∙ get) told
