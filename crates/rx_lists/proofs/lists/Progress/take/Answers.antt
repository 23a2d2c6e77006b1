use Rattle.std.proofs.Common.{◌≡◌, true, Some, refl, subst, arith}
use Rattle.rx_walks.specs.Machines.{Outcome}
use Rattle.rx_steps.specs.Threads.{Slots}
use Rattle.rx_lists.specs.Lists.{IsFoundOnward, AreListedTo}
use Rattle.rx_lists.specs.Passes.{outcome_of}
use Rattle.rx_lists.proofs.GoOnLaws.{pass_none, over_none, pass_empty, over_empty, list_told}
use Rattle.rx_lists.proofs.lists.Progress.take.Goals.{else-self-via-then-self+else-end-at, else-self-via-else-self}
use Rattle.rx_lists.proofs.lists.Progress.take.Goals as goal

pub returns-in_default-clause-taken : goal.returns-in_default-clause-taken
returns-in_default-clause-taken c = λ p s q len fa le at' so_far.
    let self = c.args.self.now in
    let never = subst (λ o. IsFoundOnward p s q len self.from c.args.at (outcome_of o c.args.slots.now)) c.in_default.is fa in
    (refl, omega (arith, le), pass_none p s q len self.found.items self.after self.from c.args.at at' le never so_far, λ past. over_none p s q len self.found.items self.after self.from c.args.at past never so_far)

pub returns-then-end-at-clause-taken : goal.returns-then-end-at-clause-taken
returns-then-end-at-clause-taken c = λ p s q len fa le at' so_far.
    let self = c.args.self.now in
    let i = c.args.at in
    let e = c.in-Some.ending in
    let t : Outcome Slots = record { pattern = e.pattern; end = e.end; notes = c.args.slots.now } in
    let found : IsFoundOnward p s q len self.from i (Some t) = subst (λ o. IsFoundOnward p s q len self.from i (outcome_of o c.args.slots.now)) c.in-Some.is fa in
    let listed : AreListedTo p s q len self.found.items true self.from i = subst (λ b. AreListedTo p s q len self.found.items b self.from i) c.if-self.true so_far in
    let at : self.from ≡ i = at' c.if-self.true in
    (refl, omega arith, pass_empty p s q len self.found.items self.from i t at c.if-end-at.true found.0 found.1 listed, λ past. over_empty p s q len self.found.items self.from i t at c.if-end-at.true past found.0 found.1 listed)

pub returns-clause-taken : goal.returns-clause-taken
returns-clause-taken c = λ p s q len fa le at' so_far.
    let self = c.args.self.now in
    let i = c.args.at in
    let e = c.in-Some.ending in
    let t : Outcome Slots = record { pattern = e.pattern; end = e.end; notes = c.args.slots.now } in
    let found : IsFoundOnward p s q len self.from i (Some t) = subst (λ o. IsFoundOnward p s q len self.from i (outcome_of o c.args.slots.now)) c.in-Some.is fa in
    let not : self.after ≡ true → e.end ≡ i → ⊥ = elim c.else-self.branch [
      | else-self-via-then-self+else-end-at w ↦ λ after at. w.if-end-at.false at
      | else-self-via-else-self w ↦ λ after at. absurd (cc (after, w.if-self.false))
    ] in
    (refl, refl, list_told p s q len self.found.items c.push.new.self.items self.after self.from i c.in_ok-listed.listed t c.in-Ok.ensures.items c.in_ok-listed.ensures not found so_far)
