-- Slots that are marked, and those that an edge notes.
use Rattle.std.proofs.Common.{◌≡◌, ℕ, zero, suc, ◌<◌, ◌≤◌, List, [], ◌∷◌, length, set, replicate, Option, Some, None, slice_get, refl, sym, ap, ap₂, ◌∙◌, arith}
use Rattle.std.proofs.lemmas.List.{length-set}
use Rattle.rx_steps.specs.Threads.{Slots, note_slot, no_slots}
use Rattle.rx_onepass.specs.declared.noted.Noted.{Noted}
use Rattle.rx_onepass.specs.Edges.{mark, marked, note_all, note_if, AreNotedBy}

-- a slot beyond all slots isn't written
pub beyond : {X : Type 0} (xs : List X) (k : ℕ) (x : X) → length xs ≤ k → set xs k x ≡ xs
beyond [] k x le = refl
beyond (y ∷ xs) zero x le = absurd (omega (arith, le))
beyond (y ∷ xs) (suc k) x le = ap (λ ys. y ∷ ys) (beyond xs k x (omega (arith, le)))

-- a mark that is written is an offset that is written
pub mark_written : (i j : ℕ) (marks slots : Slots) (k : ℕ) → marked j (set marks k (Some i)) slots ≡ set (marked j marks slots) k (Some j)
mark_written i j [] slots k = refl
mark_written i j (m ∷ marks) [] zero = refl
mark_written i j (m ∷ marks) [] (suc k) = refl
mark_written i j (m ∷ marks) (held ∷ slots) zero = refl
mark_written i j (m ∷ marks) (held ∷ slots) (suc k) = ap (λ xs. mark j m held ∷ xs) (mark_written i j marks slots k)

-- without marks nothing is written
pub none_marked : (i len : ℕ) (slots : Slots) → length slots ≡ len → marked i (no_slots len) slots ≡ slots
none_marked i zero [] e = refl
none_marked i zero (held ∷ slots) e = absurd (omega (arith, e))
none_marked i (suc len) [] e = absurd (omega (arith, e))
none_marked i (suc len) (held ∷ slots) e = ap (λ xs. held ∷ xs) (none_marked i len slots (omega (arith, e)))

-- the first mark is written, then the others
pub mark_taken : (i x : ℕ) (marks slots : Slots) (k : ℕ) → slice_get marks k ≡ Some (Some x) → length slots ≡ length marks
    → marked i marks slots ≡ note_slot k i (marked i (set marks k None) slots)
mark_taken i x [] slots k there e = absurd (cc there)
mark_taken i x (m ∷ marks) [] k there e = absurd (omega (arith, e))
mark_taken i x (None ∷ marks) (held ∷ slots) zero there e = absurd (cc there)
mark_taken i x (Some y ∷ marks) (held ∷ slots) zero there e = refl
mark_taken i x (m ∷ marks) (held ∷ slots) (suc k) there e = ap (λ xs. mark i m held ∷ xs) (mark_taken i x marks slots k there (omega (arith, e)))

marked_len : (i : ℕ) (marks slots : Slots) → length slots ≡ length marks → length (marked i marks slots) ≡ length marks
marked_len i [] slots e = refl
marked_len i (m ∷ marks) [] e = absurd (omega (arith, e))
marked_len i (m ∷ marks) (held ∷ slots) e = ap suc (marked_len i marks slots (omega (arith, e)))

-- if there is no mark, none is taken
pub none_taken : (i : ℕ) (marks slots : Slots) (k : ℕ) → length marks ≤ k → length slots ≡ length marks → marked i marks slots ≡ note_slot k i (marked i marks slots)
none_taken i marks slots k le e = sym (beyond (marked i marks slots) k (Some i) (omega (arith, le, marked_len i marks slots e)))

pub all_bare : (i : ℕ) (marks slots : Slots) → ((k : ℕ) → k < length marks → slice_get marks k ≡ Some None) → length slots ≡ length marks → marked i marks slots ≡ slots
all_bare i [] [] bare e = refl
all_bare i [] (held ∷ slots) bare e = absurd (omega (arith, e))
all_bare i (m ∷ marks) [] bare e = absurd (omega (arith, e))
all_bare i (None ∷ marks) (held ∷ slots) bare e = ap (λ xs. held ∷ xs) (all_bare i marks slots (λ k lt. bare (suc k) (omega (arith, lt))) (omega (arith, e)))
all_bare i (Some x ∷ marks) (held ∷ slots) bare e = absurd (cc (bare 0 (omega arith)))

-- noting keeps the number of slots
pub noted_len : (noted : Option Noted) (i : ℕ) (slots : Slots) → length (note_if noted i slots) ≡ length slots
noted_len None i slots = refl
noted_len (Some n) i slots =
    length-set (note_slot n.second i (note_slot n.third i (note_slot n.fourth i slots))) n.first (Some i)
    ∙ length-set (note_slot n.third i (note_slot n.fourth i slots)) n.second (Some i)
    ∙ length-set (note_slot n.fourth i slots) n.third (Some i)
    ∙ length-set slots n.fourth (Some i)
