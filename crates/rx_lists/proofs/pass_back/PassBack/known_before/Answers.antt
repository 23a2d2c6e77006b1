use Rattle.std.proofs.Common.{◌≡◌, ℕ, List, Some, slice_get}
use Rattle.rx_lists.specs.Known.{IsSetBefore, IsAlwaysBefore}
use Rattle.rx_lists.proofs.KnownLaws.{if_some, numbered_is}
use Rattle.rx_lists.proofs.pass_back.PassBack.known_before.Goals as goal

pub returns-in-Some-Some-clause-told : goal.returns-in-Some-Some-clause-told
returns-in-Some-Some-clause-told c = λ p ready.
    let sets = c.args.self.now.known.sets in
    let set = c.args.self.now.set.value in
    if_some c.before-in-Some-Some.result
    (λ to. (beyond here : List ℕ) → slice_get sets c.in-Some-Some.number ≡ Some beyond → slice_get sets to ≡ Some here → IsAlwaysBefore p c.in-Some-Some.byte beyond here)
    (λ to. (here : List ℕ) → slice_get sets to ≡ Some here → IsSetBefore p c.args.place.now set here)
    (λ to told here there. told set here (numbered_is c.args.self.now.number c.in-Some-Some.number sets set c.in-Some-Some.is-0 ready.numbered) there c.args.place.now c.in-Some-Some.is-1)
    (c.before-in-Some-Some.ensures.told p (ready.told c.if-not-self.true))
