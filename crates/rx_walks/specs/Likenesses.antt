-- Machines with other notes.
use Rattle.std.specs.Prelude.{◌≡◌, ℕ}
use Rattle.rx_walks.specs.Machines.{Machine, Outcome}
use Rattle.rx_walks.specs.Programs.{Notes, put_note}

abbrev pub noted_by : {N M : Type 0} → (N → M) → Outcome N → Outcome M
noted_by h t = record { pattern = t.pattern; end = t.end; notes = h t.notes }

-- both machines make the same moves, and h maps the notes of one to those of the other
pub record HasNotes {Q N M : Type 0} (m : Machine Q N) (other : Machine Q M)
    (h : N → M) : Type 0 where
  pub moves : (i : ℕ) (q : Q) → other.move i q ≡ m.move i q
  pub notes : (i : ℕ) (q : Q) (n : N) → other.note i q (h n) ≡ h (m.note i q n)

-- what machines keep in place of notes: how an offset is put into it, what is kept of notes, and
-- that both correspond
pub record Keeping (N : Type 0) : Type 0 where
  pub put : ℕ → ℕ → N → N
  pub kept : Notes → N
  pub alike : (slot i : ℕ) (n : Notes) → put slot i (kept n) ≡ kept (put_note slot i n)
