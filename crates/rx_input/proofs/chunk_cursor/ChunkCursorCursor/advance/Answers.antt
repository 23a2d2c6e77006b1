use Rattle.std.proofs.Common.{◌≡◌, ap, subst, arith, refl, length, ◌<◌}
use Rattle.rx_input.specs.Cursors.{CursorState, IsLawful}
use Rattle.rx_input.proofs.ChunkLemmas.{shown_lawful, shown_fits, shows_next, shows_last, shows_not_last}
use Rattle.rx_input.proofs.chunk_cursor.ChunkCursorCursor.advance.Goals as goal

pub returns-in_default-clause-at_end : goal.returns-in_default-clause-at_end
returns-in_default-clause-at_end c = (
  (λ _. subst (λ (v : CursorState). v.end ≡ length v.content) c.self.view_is (shows_last _ _ _ _ c.self.invariant c.in_default.ensures)),
  (λ _. refl),
)

pub returns-in_default-clause-lawful : goal.returns-in_default-clause-lawful
returns-in_default-clause-lawful c = subst IsLawful c.self.view_is (shown_lawful _ _ _ _ c.self.invariant)

pub overflow_add-self : goal.overflow_add-self
overflow_add-self c = omega (arith, shown_fits _ _ _ _ c.self.invariant, c.self.invariant.total_is, c.self.invariant.bound, ap length c.chunk_at.ensures)

pub invariant_of-self : goal.invariant_of-self
invariant_of-self c = let e = c.in-Some.ensures in
    rw c.chunk_at.ensures (shows_next _ _ _ _ _ c.self.invariant e.0 e.1 e.2)

pub returns-clause-lawful : goal.returns-clause-lawful
returns-clause-lawful c = let e = c.in-Some.ensures in
    rw c.chunk_at.ensures (shown_lawful _ _ _ _ (shows_next _ _ _ _ _ c.self.invariant e.0 e.1 e.2))

pub returns-clause-at_end : goal.returns-clause-at_end
returns-clause-at_end c =
    let e = c.in-Some.ensures in
    let more = subst (λ (v : CursorState). v.end < length v.content) c.self.view_is (shows_not_last _ _ _ _ _ c.self.invariant e.1 e.2) in (
      (λ h. absurd (cc h)),
      (λ h. absurd (omega (arith, more, h))),
    )
