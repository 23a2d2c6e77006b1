-- The first state.
use Rattle.std.proofs.Common.{◌≡◌, ℕ, zero, suc, ◌+◌, ◌-◌, ◌*◌, ◌<◌, ◌≤◌, ◌⊎◌, Bool, true, false, ◌&&◌, cond, nat_eq, List, [], ◌∷◌, length, get_or, set, Option, Some, None, refl, sym, ap, subst, ◌∙◌, arith, inl, inr}
use Rattle.std.proofs.lemmas.Bool.Decides.{nat_tests}
use Rattle.std.specs.Str.{continuation_len, lead_bits}
use Rattle.std.specs.Char.{len_utf8}
use lib.Utf8.{scalar}
use Rattle.rx_utf8.specs.Blocks.{high, of_len, Fits, Starts, Extends, ReadsAll, rows_of}
use Rattle.rx_walks.specs.Laws.{FirstCharacterStands}
use Rattle.rx_utf8.specs.declared.byte_ranges.ByteRange.{ByteRange}
use Rattle.rx_sets.specs.Sets.{Range, in_ranges}
use Rattle.rx_utf8.specs.Automata.{look_up, step_in, RiseWithin}
use Rattle.std.specs.Prelude.{Vec}
use Rattle.rx_utf8.proofs.FirstLaws.{below_all}
use Rattle.rx_utf8.proofs.FitLaws.{fits_on, automata_read}
use Rattle.rx_utf8.proofs.TargetLaws.{Rows, fits_extend, before_or_at}
use Rattle.rx_utf8.proofs.RowLaws.{rise_above, rise_more, leads_here, leads_before}

pub record Started (R : Rows) (codes : ℕ → List Range) (to : ℕ) (row : List ByteRange) : Type 0 where
  pub fits : (b : ℕ) → b < to → Fits (step_in R) (length R) (in_ranges (codes (continuation_len b))) (continuation_len b) (lead_bits b) (look_up row b)
  pub rises : RiseWithin 0 to row

started_next : (R S : Rows) (codes : ℕ → List Range) (to : ℕ) (row more : List ByteRange) (t : Option (Option ℕ)) → Extends R S → Started R codes to row
    → Fits (step_in S) (length S) (in_ranges (codes (continuation_len to))) (continuation_len to) (lead_bits to) t → look_up more to ≡ t → ((b : ℕ) → b < to → look_up more b ≡ look_up row b) → RiseWithin 0 (to + 1) more → Started S codes (to + 1) more
started_next R S codes to row more t on started fit at others rises = record {
  fits = λ b before. elim (before_or_at b to before) [
    | inl less ↦ subst (Fits (step_in S) (length S) (in_ranges (codes (continuation_len b))) (continuation_len b) (lead_bits b)) (sym (others b less)) (fits_extend R S (in_ranges (codes (continuation_len b))) (continuation_len b) (lead_bits b) (look_up row b) on (started.fits b less))
    | inr e ↦ subst (λ x. Fits (step_in S) (length S) (in_ranges (codes (continuation_len x))) (continuation_len x) (lead_bits x) (look_up more x)) e (subst (Fits (step_in S) (length S) (in_ranges (codes (continuation_len to))) (continuation_len to) (lead_bits to)) (sym at) fit)
  ];
  rises = rises;
}

pub started_skip : (R S : Rows) (codes : ℕ → List Range) (to : ℕ) (row : List ByteRange) → Extends R S → Started R codes to row
    → Fits (step_in S) (length S) (in_ranges (codes (continuation_len to))) (continuation_len to) (lead_bits to) None → Started S codes (to + 1) row
started_skip R S codes to row on started fit =
    started_next R S codes to row row None on started fit (rise_above 0 to row to started.rises (omega arith)) (λ b less. refl) (rise_more 0 to (to + 1) row (omega arith) started.rises)

pub started_push : (R S : Rows) (codes : ℕ → List Range) (to : ℕ) (row more : List ByteRange) (t : Option ℕ) → Extends R S → Started R codes to row
    → Fits (step_in S) (length S) (in_ranges (codes (continuation_len to))) (continuation_len to) (lead_bits to) (Some t)
    → ((b : ℕ) → look_up more b ≡ cond (nat_eq b to) (Some t) (look_up row b)) → RiseWithin 0 (to + 1) more → Started S codes (to + 1) more
started_push R S codes to row more t on started fit leads rises = started_next R S codes to row more (Some t) on started fit (leads_here to t row more leads) (λ b less. leads_before to t row more leads b less) rises

-- the same set, given differently
fits_same : (step : ℕ → ℕ → Option (Option ℕ)) (n : ℕ) (p q : ℕ → Bool) → ((c : ℕ) → p c ≡ q c) → (r v : ℕ) (t : Option (Option ℕ)) → Fits step n p r v t → Fits step n q r v t
fits_same step n p q same zero v t fits = fits ∙ ap (λ x. cond x (Some None) None) (same v)
fits_same step n p q same (suc r) v None fits = λ c e. sym (same c) ∙ fits c e
fits_same step n p q same (suc r) v (Some None) fits = absurd fits
fits_same step n p q same (suc r) v (Some (Some s)) fits = (fits.0, (λ b is. fits_same step n p q same r (v * 64 + (b - 128)) (step s b) (fits.1 b is)), fits.2)

few : (b : ℕ) → continuation_len b ≤ 3
few b = grind (arith, nat_tests)

-- no byte is above 255
cut : (a x : Bool) → (a ≡ true → ⊥) → (a && x) ≡ false
cut true x never = absurd (never refl)
cut false x never = refl

past_all : (member : ℕ → Bool) (b : ℕ) → 256 ≤ b → (c : ℕ) → high 3 c ≡ b - 240 → of_len member 3 c ≡ false
past_all member b past c e = cut (scalar c) (nat_eq (len_utf8 c) 4 && member c) (λ is. let top = below_all c is in absurd (omega (arith, past, e, top)))

last_class : (b : ℕ) → 256 ≤ b → (3 ≡ continuation_len b) × (b - 240 ≡ lead_bits b)
last_class b past = (grind (arith, nat_tests), grind (arith, nat_tests))

past_fits : (step : ℕ → ℕ → Option (Option ℕ)) (n : ℕ) (member : ℕ → Bool) (b : ℕ) → 256 ≤ b → Fits step n (of_len member (continuation_len b)) (continuation_len b) (lead_bits b) None
past_fits step n member b past = let at = last_class b past in
    subst (λ x. Fits step n (of_len member (continuation_len b)) (continuation_len b) x None) at.1 (subst (λ k. Fits step n (of_len member k) k (b - 240) None) at.0 (past_all member b past))

byte_or_past : (b : ℕ) → (b < 256) ⊎ (256 ≤ b)
byte_or_past b = grind arith

length-set : (R : Rows) (row : List ByteRange) → length (set R 0 row) ≡ length R
length-set [] row = refl
length-set (x ∷ R) row = refl

set_here : (R : Rows) (row : List ByteRange) → 0 < length R → get_or (set R 0 row) 0 [] ≡ row
set_here [] row some = absurd (omega (arith, some))
set_here (x ∷ R) row some = refl

set_other : (R : Rows) (row : List ByteRange) (s : ℕ) → 0 < s → get_or (set R 0 row) s [] ≡ get_or R s []
set_other R row zero some = absurd (omega (arith, some))
set_other [] row (suc s) some = refl
set_other (x ∷ R) row (suc s) some = refl

pub started_reads : FirstCharacterStands → (R : Rows) (codes : ℕ → List Range) (row : List ByteRange) → 0 < length R → Started R codes 256 row → ReadsAll codes (set R 0 row)
started_reads law R codes row some started member are bs = automata_read law (step_in (set R 0 row)) (length (set R 0 row)) member starts bs
  where
    whole : (b : ℕ) (t : Option (Option ℕ)) → t ≡ look_up row b → Fits (step_in (set R 0 row)) (length (set R 0 row)) (of_len member (continuation_len b)) (continuation_len b) (lead_bits b) (look_up row b)
    whole b t e = elim (byte_or_past b) [
      | inl less ↦ fits_on (step_in R) (step_in (set R 0 row)) (length R) (length (set R 0 row)) (omega (arith, length-set R row)) (λ s past b'. ap (λ x. look_up x b') (sym (set_other R row s past.0)))
          (of_len member (continuation_len b)) (continuation_len b) (lead_bits b) (look_up row b)
          (fits_same (step_in R) (length R) (in_ranges (codes (continuation_len b))) (of_len member (continuation_len b)) (λ c. are (continuation_len b) c (few b)) (continuation_len b) (lead_bits b) (look_up row b) (started.fits b less))
      | inr past ↦ subst (Fits (step_in (set R 0 row)) (length (set R 0 row)) (of_len member (continuation_len b)) (continuation_len b) (lead_bits b)) (sym (rise_above 0 256 row b started.rises past)) (past_fits (step_in (set R 0 row)) (length (set R 0 row)) member b past)
    ]

    starts : Starts (step_in (set R 0 row)) (length (set R 0 row)) member
    starts b = subst (λ x. Fits (step_in (set R 0 row)) (length (set R 0 row)) (of_len member (continuation_len b)) (continuation_len b) (lead_bits b) (look_up x b)) (sym (set_here R row some)) (whole b (look_up row b) refl)

pub set_first : {Z : Type 0} (rows : List (Vec ByteRange Z)) (row : Vec ByteRange Z) → set (rows_of rows) 0 row.items ≡ rows_of (set rows 0 row)
set_first [] row = refl
set_first (x ∷ rows) row = refl
