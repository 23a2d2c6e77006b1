use Rattle.std.proofs.Common.{ℕ, List, length, ◌-◌, ◌≤◌, true, sym, subst, arith}
use Rattle.std.specs.Borrow.{Bor}
use Rattle.rx_input.specs.Cursors.{IsLawful, IsNext}
use Rattle.regex_cursor.specs.Showing.{StandsBy, behind_shown, showing}
use Rattle.regex_cursor.proofs.ShowingLaws.{lawful, back_fits, stands_there, moves_back}
use Rattle.regex_cursor.proofs.ropey_cursor.RopeyCursorCursor.backtrack.Goals as goal

pub stand_before-requires : goal.stand_before-requires
stand_before-requires c = c.self.invariant.some

pub returns-then-self-eq0-clause-lawful : goal.returns-then-self-eq0-clause-lawful
returns-then-self-eq0-clause-lawful c = subst IsLawful c.self.view_is (lawful _ _ _ _ c.self.invariant.shows)

pub overflow_sub-self : goal.overflow_sub-self
overflow_sub-self c =
    let far : 1 ≤ c.self.inside.offset = omega (arith, c.if-self-eq0.false) in
    subst (λ (b : Bor (List ℕ)). length b.now ≤ c.self.inside.offset) (sym c.unwrap_or-shown.ensures) (back_fits _ _ _ _ _ _ _ _ c.self.invariant.shows far c.stand_before.ensures c.prev.ensures)

pub invariant_of-self : goal.invariant_of-self
invariant_of-self c =
    let far : 1 ≤ c.self.inside.offset = omega (arith, c.if-self-eq0.false) in
    subst (λ (b : Bor (List ℕ)). StandsBy true c.prev.new.self b.now (c.self.inside.offset - length b.now) c.self.inside.len) (sym c.unwrap_or-shown.ensures) (stands_there _ _ _ _ _ _ _ _ c.self.invariant.shows far c.stand_before.ensures c.prev.ensures)

pub returns-clause-moved : goal.returns-clause-moved
returns-clause-moved c =
    let far : 1 ≤ c.self.inside.offset = omega (arith, c.if-self-eq0.false) in
    let old = behind_shown c.self.inside.is_before c.self.inside.chunks in
    let new = behind_shown true c.prev.new.self in
    subst (λ state. IsNext (showing new (c.self.inside.offset - length c.unwrap_or-shown.result.now) c.unwrap_or-shown.result.now) state) c.self.view_is
    (subst (λ (b : Bor (List ℕ)). IsNext (showing new (c.self.inside.offset - length b.now) b.now) (showing old c.self.inside.offset c.self.inside.shown.now)) (sym c.unwrap_or-shown.ensures) (moves_back _ _ _ _ _ _ _ _ c.self.invariant.shows far c.stand_before.ensures c.prev.ensures))

pub returns-clause-lawful : goal.returns-clause-lawful
returns-clause-lawful c = lawful _ _ _ _ (invariant_of-self c).shows
