use Rattle.std.proofs.Common.{◌≡◌, ◌+◌, ◌<◌, length, refl, ap, sym, subst, ◌∙◌, arith}
use Rattle.rx_input.specs.Cursors.{CursorState, IsLawful, IsNext}
use Rattle.regex_cursor.specs.Showing.{IsShowing, showing}
use Rattle.regex_cursor.proofs.ShowingLaws.{lawful, fits, ends_last, shows_next, moves_on, more_behind}
use Rattle.regex_cursor.proofs.ropey_cursor.RopeyCursorCursor.advance.Goals as goal

pub overflow_add-self : goal.overflow_add-self
overflow_add-self c = omega (arith, fits _ _ _ _ c.self.invariant.shows)

pub invariant_of-self : goal.invariant_of-self
invariant_of-self c =
    let e = c.in-Some.ensures.steps in
    let s = subst (λ p. IsShowing p c.self.inside.shown.now c.self.inside.offset c.self.inside.len) (sym c.stand_behind.ensures) c.self.invariant.shows in
    record { shows = shows_next _ _ _ _ _ _ s e.0.0 e.0.1 e.1; some = λ is. absurd (cc is) }

pub returns-in-Some-clause-moved : goal.returns-in-Some-clause-moved
returns-in-Some-clause-moved c =
    let e = c.in-Some.ensures.steps in
    let shown = c.self.inside.shown.now in
    let offset = c.self.inside.offset in
    let next = showing c.next.new.self (offset + length shown) c.in-Some.next.now in
    let s = subst (λ p. IsShowing p shown offset c.self.inside.len) (sym c.stand_behind.ensures) c.self.invariant.shows in
    subst (λ v. IsNext v next) c.self.view_is (subst (λ p. IsNext (showing p offset shown) next) c.stand_behind.ensures (moves_on _ _ _ _ _ _ s e.0.0 e.0.1))

pub returns-in-Some-clause-at_end : goal.returns-in-Some-clause-at_end
returns-in-Some-clause-at_end c =
    let e = c.in-Some.ensures.steps in
    let shown = c.self.inside.shown.now in
    let offset = c.self.inside.offset in
    let s = subst (λ p. IsShowing p shown offset c.self.inside.len) (sym c.stand_behind.ensures) c.self.invariant.shows in
    let there = subst (λ p. (showing p offset shown).end < length (showing p offset shown).content) c.stand_behind.ensures (more_behind _ _ _ _ _ _ s e.0.0 e.0.1 e.1) in
    let more = subst (λ (v : CursorState). v.end < length v.content) c.self.view_is there in (
      (λ h. absurd (cc h)),
      (λ h. absurd (omega (arith, more, h))),
    )

pub returns-in-Some-clause-lawful : goal.returns-in-Some-clause-lawful
returns-in-Some-clause-lawful c = lawful _ _ _ _ (invariant_of-self c).shows

pub returns-in-None-clause-at_end : goal.returns-in-None-clause-at_end
returns-in-None-clause-at_end c =
    let shown = c.self.inside.shown.now in
    let offset = c.self.inside.offset in
    let s = subst (λ p. IsShowing p shown offset c.self.inside.len) (sym c.stand_behind.ensures) c.self.invariant.shows in
    let there = subst (λ p. (showing p offset shown).end ≡ length (showing p offset shown).content) c.stand_behind.ensures (ends_last _ _ _ _ s c.in-None.ensures.steps.0.0) in (
      (λ _. subst (λ (v : CursorState). v.end ≡ length v.content) c.self.view_is there),
      (λ _. refl),
    )

pub returns-in-None-clause-refused : goal.returns-in-None-clause-refused
returns-in-None-clause-refused c =
    ap (λ p. showing p c.self.inside.offset c.self.inside.shown.now) (c.in-None.ensures.steps.0.1 ∙ c.stand_behind.ensures) ∙ c.self.view_is

pub returns-in-None-clause-lawful : goal.returns-in-None-clause-lawful
returns-in-None-clause-lawful c =
    let shown = c.self.inside.shown.now in
    let offset = c.self.inside.offset in
    let s = subst (λ p. IsShowing p shown offset c.self.inside.len) (sym c.stand_behind.ensures) c.self.invariant.shows in
    subst (λ place. IsLawful (showing place offset shown)) (sym c.in-None.ensures.steps.0.1) (lawful _ _ _ _ s)
