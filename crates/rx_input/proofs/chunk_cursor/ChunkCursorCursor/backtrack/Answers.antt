use Rattle.std.proofs.Common.{ap, subst, arith, length, ◌<◌}
use Rattle.rx_input.specs.Cursors.{CursorState, IsLawful}
use Rattle.rx_input.proofs.ChunkLemmas.{shown_lawful, behind_fits, shows_before, moves_back}
use Rattle.rx_input.proofs.chunk_cursor.ChunkCursorCursor.backtrack.Goals as goal

pub returns-in_default-clause-lawful : goal.returns-in_default-clause-lawful
returns-in_default-clause-lawful c = subst IsLawful c.self.view_is (shown_lawful _ _ _ _ c.self.invariant)

pub overflow_sub-self : goal.overflow_sub-self
overflow_sub-self c = omega (arith, behind_fits _ _ _ _ _ c.self.invariant c.in-Some.ensures.2, ap length c.chunk_at.ensures)

pub invariant_of-self : goal.invariant_of-self
invariant_of-self c = let e = c.in-Some.ensures in
    rw c.chunk_at.ensures (shows_before _ _ _ _ _ c.self.invariant e.0 e.1 e.2)

pub returns-clause-lawful : goal.returns-clause-lawful
returns-clause-lawful c = let e = c.in-Some.ensures in
    rw c.chunk_at.ensures (shown_lawful _ _ _ _ (shows_before _ _ _ _ _ c.self.invariant e.0 e.1 e.2))

pub returns-clause-moved : goal.returns-clause-moved
returns-clause-moved c = rw (c.chunk_at.ensures, ← c.self.view_is) (moves_back _ _ _ _ _ c.self.invariant c.in-Some.ensures.2)

pub returns-clause-at_start : goal.returns-clause-at_start
returns-clause-at_start c =
    let e = c.in-Some.ensures in
    let some = subst (λ (v : CursorState). 0 < v.start) c.self.view_is (omega (arith, e.1, behind_fits _ _ _ _ _ c.self.invariant e.2)) in (
      (λ h. absurd (cc h)),
      (λ h. absurd (omega (arith, some, h))),
    )
