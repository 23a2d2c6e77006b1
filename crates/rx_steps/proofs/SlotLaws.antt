-- Slots as what is kept of a walk's notes.
use Rattle.std.proofs.Common.{◌≡◌, ℕ, zero, suc, ◌+◌, ◌<◌, cond, ◌∷◌, length, replicate, set, Some, None, refl, sym, ap, ap₂, ◌∙◌, arith}
use Rattle.std.proofs.lemmas.Bool.{eq-eqb, ne_eqb}
use Rattle.rx_walks.specs.Programs.{Notes, fresh_notes, put_note, last_noted}
use Rattle.rx_steps.specs.Threads.{note_slot}
use Rattle.rx_steps.specs.Searching.{slots_from}

other_slots : (from len slot i : ℕ) (n : Notes) → slot < from → slots_from from len (put_note slot i n) ≡ slots_from from len n
other_slots from zero slot i n lt = refl
other_slots from (suc len) slot i n lt = ap₂ (λ x xs. x ∷ xs) (ap (λ b. cond b (Some i) (last_noted from n.noted)) (ne_eqb from slot (λ e. absurd (omega (arith, e, lt)))))
    (other_slots (suc from) len slot i n (omega (arith, lt)))

noted_among : (from len k i : ℕ) (n : Notes) → set (slots_from from len n) k (Some i) ≡ slots_from from len (put_note (from + k) i n)
noted_among from zero k i n = refl
noted_among from (suc len) zero i n = ap₂ (λ x xs. x ∷ xs) (sym (ap (λ b. cond b (Some i) (last_noted from n.noted)) (eq-eqb from (from + 0) (omega arith))))
    (sym (other_slots (suc from) len (from + 0) i n (omega arith)))
noted_among from (suc len) (suc k) i n =
    let same : suc from + k ≡ from + suc k = omega arith in
    ap₂ (λ x xs. x ∷ xs) (sym (ap (λ b. cond b (Some i) (last_noted from n.noted)) (ne_eqb from (from + suc k) (λ e. absurd (omega (arith, e))))))
    (noted_among (suc from) len k i n ∙ ap (λ j. slots_from (suc from) len (put_note j i n)) same)

-- writing an offset into a slot is keeping the note
pub slots_keep : (len slot i : ℕ) (n : Notes) → note_slot slot i (slots_from 0 len n) ≡ slots_from 0 len (put_note slot i n)
slots_keep len slot i n =
    let same : 0 + slot ≡ slot = omega arith in
    noted_among 0 len slot i n ∙ ap (λ j. slots_from 0 len (put_note j i n)) same

pub slots_from_len : (from len : ℕ) (n : Notes) → length (slots_from from len n) ≡ len
slots_from_len from zero n = refl
slots_from_len from (suc len) n = ap suc (slots_from_len (suc from) len n)

-- slots don't depend on where a walk started
pub slots_of_noted : (from len start : ℕ) (n : Notes) → slots_from from len (record { start = start; noted = n.noted }) ≡ slots_from from len n
slots_of_noted from zero start n = refl
slots_of_noted from (suc len) start n = ap (λ xs. last_noted from n.noted ∷ xs) (slots_of_noted (suc from) len start n)

-- without notes all slots are empty
pub empty_slots : (from len : ℕ) → slots_from from len (fresh_notes 0) ≡ replicate len None
empty_slots from zero = refl
empty_slots from (suc len) = ap (λ xs. None ∷ xs) (empty_slots (suc from) len)
