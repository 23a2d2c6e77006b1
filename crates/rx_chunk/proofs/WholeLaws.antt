-- The slots of a match with only the whole match noted.
use Rattle.std.proofs.Common.{◌≡◌, ℕ, zero, suc, ◌+◌, ◌*◌, ◌<◌, ◌≤◌, ◌^◌, [], ◌∷◌, cond, replicate, set, Option, Some, None, SomeIff, refl, sym, ap, ap₂, ◌∙◌, arith}
use Rattle.std.proofs.lemmas.Bool.{ne_eqb}
use Rattle.rx_walks.specs.Programs.{slot_of}
use Rattle.rx_walks.specs.Finds.{PatternMatch}
use Rattle.rx_steps.specs.Threads.{Slots}
use Rattle.rx_steps.specs.Searching.{answer_slots, slots_from}
use Rattle.rx_chunk.specs.Engines.{noted_whole}
use Rattle.rx_chunk.proofs.FoundLaws.{whole_noted}

module _ (a : PatternMatch) where
  abbrev SlotsOf : ℕ → ℕ → Slots
  SlotsOf first n = slots_from first n (noted_whole a).notes

  -- all other slots are empty
  pub no_other : (slot : ℕ) → (slot ≡ 2 * a.pattern → ⊥) → (slot ≡ 2 * a.pattern + 1 → ⊥) → slot_of (noted_whole a).notes slot ≡ None
  no_other slot first second =
      ap₂ (λ b c. cond b (Some a.end) (cond c (Some a.start) None)) (ne_eqb slot (2 * a.pattern + 1) second) (ne_eqb slot (2 * a.pattern) first)

  pub none_before : (first n : ℕ) → first + n ≤ 2 * a.pattern → SlotsOf first n ≡ replicate n None
  none_before first zero low = refl
  none_before first (suc n) low =
      ap₂ (λ x xs. x ∷ xs) (no_other first (λ e. omega (arith, e, low)) (λ e. omega (arith, e, low))) (none_before (suc first) n (omega (arith, low)))

  none_behind : (first n : ℕ) → 2 * a.pattern + 1 < first → SlotsOf first n ≡ replicate n None
  none_behind first zero above = refl
  none_behind first (suc n) above =
      ap₂ (λ x xs. x ∷ xs) (no_other first (λ e. omega (arith, e, above)) (λ e. omega (arith, e, above))) (none_behind (suc first) n (omega (arith, above)))

  start_there : (slot : ℕ) → slot ≡ 2 * a.pattern → slot_of (noted_whole a).notes slot ≡ Some a.start
  start_there slot is = ap (slot_of (noted_whole a).notes) is ∙ (whole_noted a).start

  end_there : (slot : ℕ) → slot ≡ 2 * a.pattern + 1 → slot_of (noted_whole a).notes slot ≡ Some a.end
  end_there slot is = ap (slot_of (noted_whole a).notes) is ∙ (whole_noted a).end

  -- there is room only for the start
  start_set : (j first n : ℕ) (x : Option ℕ) → first + j ≡ 2 * a.pattern → n ≡ suc j → x ≡ Some a.start → set (replicate n None) j x ≡ SlotsOf first n
  start_set j first zero x at room start = absurd (omega (arith, room))
  start_set zero first (suc zero) x at room start = ap (λ y. y ∷ []) (start ∙ sym (start_there first (omega (arith, at))))
  start_set zero first (suc (suc n)) x at room start = absurd (omega (arith, room))
  start_set (suc j) first (suc n) x at room start =
      ap₂ (λ y ys. y ∷ ys) (sym (no_other first (λ e. omega (arith, e, at)) (λ e. omega (arith, e, at)))) (start_set j (suc first) n x (omega (arith, at)) (omega (arith, room)) start)

  -- there is room for both
  both_set : (j first n : ℕ) (x y : Option ℕ) → first + j ≡ 2 * a.pattern → suc j < n → x ≡ Some a.start → y ≡ Some a.end → set (set (replicate n None) j x) (suc j) y ≡ SlotsOf first n
  both_set j first zero x y at room start end = absurd (omega (arith, room))
  both_set zero first (suc zero) x y at room start end = absurd (omega (arith, room))
  both_set zero first (suc (suc n)) x y at room start end =
      ap₂ (λ u v. u ∷ v ∷ replicate n None) (start ∙ sym (start_there first (omega (arith, at)))) (end ∙ sym (end_there (suc first) (omega (arith, at))))
      ∙ ap (λ xs. slot_of (noted_whole a).notes first ∷ slot_of (noted_whole a).notes (suc first) ∷ xs) (sym (none_behind (suc (suc first)) n (omega (arith, at))))
  both_set (suc j) first (suc n) x y at room start end =
      ap₂ (λ u us. u ∷ us) (sym (no_other first (λ e. omega (arith, e, at)) (λ e. omega (arith, e, at)))) (both_set j (suc first) n x y (omega (arith, at)) (omega (arith, room)) start end)

  -- ---- slots in which these were put

  module _ (n : ℕ) (slots : Slots) (none : slots ≡ replicate n None) where
    pub no_slot : n ≤ 2 * a.pattern → slots ≡ answer_slots n (Some (noted_whole a))
    no_slot low = none ∙ sym (none_before 0 n (omega (arith, low)))

    pub one_slot : (x : Option ℕ) → 2 * a.pattern < n → n ≤ 2 * a.pattern + 1 → x ≡ Some a.start → set slots (2 * a.pattern) x ≡ answer_slots n (Some (noted_whole a))
    one_slot x low high start = ap (λ xs. set xs (2 * a.pattern) x) none ∙ start_set (2 * a.pattern) 0 n x (omega arith) (omega (arith, low, high)) start

    pub two_slots : (x y : Option ℕ) → 2 * a.pattern + 1 < n → x ≡ Some a.start → y ≡ Some a.end → set (set slots (2 * a.pattern) x) (2 * a.pattern + 1) y ≡ answer_slots n (Some (noted_whole a))
    two_slots x y room start end =
        let next : 2 * a.pattern + 1 ≡ suc (2 * a.pattern) = omega arith in
        ap₂ (λ xs k. set (set xs (2 * a.pattern) x) k y) none next ∙ both_set (2 * a.pattern) 0 n x y (omega arith) (omega (arith, room)) start end

-- an offset that fits a slot
pub some_given : (o : Option ℕ) (place : ℕ) → place < 2 ^ 63 → SomeIff o (place + 1 < 2 ^ 64) place → o ≡ Some place
some_given None place low given = absurd (given (omega (arith, low)))
some_given (Some x) place low given = ap Some given.1
