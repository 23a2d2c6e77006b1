-- A program's machines read forward, and equality of their nodes is decidable.
use Rattle.std.proofs.Common.{◌≡◌, ℕ, ◌<◌, ◌⊎◌, Bool, true, false, List, [], ◌∷◌, Option, Some, None, slice_get, refl, ap, ap₂, arith, inl, inr}
use Rattle.std.proofs.lemmas.Bool.{cases_order}
use Rattle.std.proofs.lemmas.Str.{len_utf8_bounds}
use Rattle.rx_walks.specs.Machines.{IsForward, goes, reads}
use Rattle.rx_walks.specs.Programs.{Node, match, pass, note, look, set, Haystack, only_if, is_within, left_from, over_characters}
use Rattle.rx_walks.specs.ProgramFinds.{first_by}
use Rattle.rx_walks.specs.Bytes.{Automaton, read_on, read_byte, by_byte, over_bytes}
use Rattle.rx_walks.proofs.WalkLaws.{same_read}
use Rattle.rx_walks.proofs.CharacterLaws.{member_stands}
use Rattle.rx_walks.proofs.ProgramLaws.{is_forward}

pub characters_forward : {L S N : Type 0} (put : ℕ → ℕ → N → N) (member : S → ℕ → Bool) (nodes : List (Node L S)) (h : Haystack L) → IsForward (over_characters put (first_by member) nodes h)
characters_forward put member nodes h = is_forward put (first_by member) nodes h
    (λ x bs k e. let here = member_stands (member x) bs k e in omega (arith, here.3, (len_utf8_bounds here.0).0))

not_goes : {j : ℕ} {t : ℕ × ℕ} (i : ℕ) (b : Bool) (rs : List (ℕ × ℕ)) → only_if b (goes rs) ≡ reads t j → i < j
not_goes i false rs e = absurd (cc e)
not_goes i true rs e = absurd (cc e)

read_on_forward : {j : ℕ} {t : ℕ × ℕ} (q r i : ℕ) (o : Option (Option ℕ)) → read_on q r i o ≡ reads t j → i < j
read_on_forward q r i None e = absurd (cc e)
read_on_forward q r i (Some None) e = omega (arith, (same_read refl e).1)
read_on_forward q r i (Some (Some s)) e = omega (arith, (same_read refl e).1)

read_byte_forward : {j : ℕ} {t : ℕ × ℕ} (step : Automaton) (q r s i : ℕ) (bs : List ℕ) → read_byte step q r s i bs ≡ reads t j → i < j
read_byte_forward step q r s i [] e = absurd (cc e)
read_byte_forward step q r s i (b ∷ bs) e = read_on_forward q r i (step s b) e

by_byte_forward : {L S : Type 0} {j : ℕ} {t : ℕ × ℕ} (step : ℕ → Automaton) (h : Haystack L) (i q s : ℕ) (inside : Bool) (a_node : Option (Node L S)) → only_if inside (by_byte step h i q s a_node) ≡ reads t j → i < j
by_byte_forward step h i q s false a_node e = absurd (cc e)
by_byte_forward step h i q s true None e = absurd (cc e)
by_byte_forward step h i q s true (Some (match k)) e = absurd (cc e)
by_byte_forward step h i q s true (Some (pass rs)) e = absurd (cc e)
by_byte_forward step h i q s true (Some (note slot r)) e = absurd (cc e)
by_byte_forward step h i q s true (Some (look l r)) e = not_goes i (h.holds l i) ((r, 0) ∷ []) e
by_byte_forward step h i q s true (Some (set x r)) e = read_byte_forward (step q) q r s i (left_from h i) e

pub bytes_forward : {L S N : Type 0} (put : ℕ → ℕ → N → N) (step : ℕ → Automaton) (nodes : List (Node L S)) (h : Haystack L) → IsForward (over_bytes put step nodes h)
bytes_forward put step nodes h i j q r e = by_byte_forward step h i q.0 q.1 (is_within h.low h.high i) (slice_get nodes q.0) e

pub number_told : (a b : ℕ) → (a ≡ b) ⊎ (a ≡ b → ⊥)
number_told a b = elim (cases_order a b) [ inl e ↦ inl e | inr (inl below) ↦ inr (λ e. omega (arith, below, e)) | inr (inr above) ↦ inr (λ e. omega (arith, above, e)) ]

pub pair_told : (a b : ℕ × ℕ) → (a ≡ b) ⊎ (a ≡ b → ⊥)
pair_told a b = elim (number_told a.0 b.0) [
  | inl e ↦ elim (number_told a.1 b.1) [ inl e' ↦ inl (ap₂ (λ x y. (x, y)) e e') | inr other ↦ inr (λ e'. other (ap (λ z. z.1) e')) ]
  | inr other ↦ inr (λ e. other (ap (λ z. z.0) e))
]
