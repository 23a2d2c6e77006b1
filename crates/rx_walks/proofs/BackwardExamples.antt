-- What small programs find backward from the content's end, which the span passes.
use Rattle.std.proofs.Common.{◌≡◌, ℕ, zero, suc, ◌⊎◌, Bool, true, ◌==◌, List, [], ◌∷◌, Option, Some, None, slice_get, inl, inr, refl, sym, subst, ◌∙◌, arith}
use Rattle.std.proofs.Math.Utf8.{encode}
use Rattle.std.specs.Str.{is_utf8, chars}
use Rattle.rx_walks.specs.Backward.{ProgramFindsBack, none_back, least_back}
use Rattle.rx_walks.specs.Finds.{Search, Anchoring, anchored, anchored_pattern, PatternMatch}
use Rattle.rx_walks.specs.Looks.{Look}
use Rattle.rx_walks.specs.Machines.{Machine, Outcome, ends, goes, reads}
use Rattle.rx_walks.specs.ProgramFinds.{machine_of}
use Rattle.rx_walks.specs.Programs.{Program, Notes, fresh_notes, match, pass, set}
use Rattle.rx_walks.specs.Walks.{Walk, ended, went, took}
use Rattle.rx_walks.proofs.Evaluation.{is_seen_false}
use Rattle.rx_walks.proofs.InsideLaws.{none_there, same_goes}
use Rattle.rx_walks.proofs.WalkLaws.{same_some}

abbrev is_letter : ℕ → ℕ → Bool
is_letter x c = x == c

-- `x` is the one word character
abbrev is_x : ℕ → Bool
is_x c = c == 120

-- `a*`
abbrev a_star : Program Look ℕ
a_star = record {
  nodes = pass (1 ∷ 2 ∷ []) ∷ set 97 0 ∷ match 0 ∷ [];
  start = 0;
  patterns = 0 ∷ [];
  line_terminator = 10;
}

-- `aa`, with a span from this offset; span and slice end past the content
abbrev aa_from : Anchoring → ℕ → Search
aa_from anchoring start = record {
  content = 97 ∷ 97 ∷ [];
  slice_start = 0;
  slice_end = 100;
  start = start;
  end = 100;
  anchoring = anchoring;
  utf8_empty = true;
}

-- this is what `a*` finds backward in it
abbrev FindsFrom : Anchoring → ℕ → Option PatternMatch → Type 0
FindsFrom anchoring start out = ProgramFindsBack is_letter is_x a_star (aa_from anchoring start) out

abbrev to_end_from : ℕ → PatternMatch
to_end_from start = record { start = start; pattern = 0; end = 2 }

-- the walks that read two letters and one
abbrev ends_at_2 : ℕ → Outcome Notes
ends_at_2 start = record { pattern = 0; end = 2; notes = fresh_notes start }

abbrev of_aa : Anchoring → ℕ → Machine ℕ Notes
of_aa anchoring start = machine_of is_letter is_x a_star (aa_from anchoring start)

takes_two : Walk (of_aa anchored 0) [] (fresh_notes 0) 0 0 (0 ∷ 0 ∷ 1 ∷ []) (ends_at_2 0)
unfolding is_utf8 chars encode
takes_two =
    went (1 ∷ 2 ∷ []) 1 (is_seen_false [] 0 refl) refl refl (
    took 0 1 (is_seen_false (0 ∷ []) 1 refl) refl (
    went (1 ∷ 2 ∷ []) 1 (is_seen_false [] 0 refl) refl refl (
    took 0 2 (is_seen_false (0 ∷ []) 1 refl) refl (
    went (1 ∷ 2 ∷ []) 2 (is_seen_false [] 0 refl) refl refl (
    ended (is_seen_false (0 ∷ []) 2 refl) refl)))))

takes_one : Walk (of_aa anchored 1) [] (fresh_notes 1) 0 1 (0 ∷ 1 ∷ []) (ends_at_2 1)
unfolding is_utf8 chars encode
takes_one =
    went (1 ∷ 2 ∷ []) 1 (is_seen_false [] 0 refl) refl refl (
    took 0 2 (is_seen_false (0 ∷ []) 1 refl) refl (
    went (1 ∷ 2 ∷ []) 2 (is_seen_false [] 0 refl) refl refl (
    ended (is_seen_false (0 ∷ []) 2 refl) refl)))

-- the search starts at the content's end, and finds the least start, not the nearest one
from_0 : FindsFrom anchored 0 (Some (to_end_from 0))
from_0 = least_back (record {
  inside = (omega arith, omega arith, omega arith, omega arith, omega arith);
  reaches = record { choices = 0 ∷ 0 ∷ 1 ∷ []; outcome = ends_at_2 0; walk = takes_two; pattern_is = refl; end_is = refl };
  at_end = refl;
  may_end = inl (λ same. omega (arith, same));
}) (λ b counts. (omega arith, λ same. omega arith))

-- no start before the span is found
from_1 : FindsFrom anchored 1 (Some (to_end_from 1))
from_1 = least_back (record {
  inside = (omega arith, omega arith, omega arith, omega arith, omega arith);
  reaches = record { choices = 0 ∷ 1 ∷ []; outcome = ends_at_2 1; walk = takes_one; pattern_is = refl; end_is = refl };
  at_end = refl;
  may_end = inl (λ same. omega (arith, same));
}) (λ b counts. (counts.inside.2, λ same. omega arith))

-- nothing is found if the span starts past the content
from_3 : FindsFrom anchored 3 None
from_3 = none_back (λ a counts. omega (arith, counts.inside.2, counts.inside.4))

-- nor for a pattern that doesn't exist
no_pattern : FindsFrom (anchored_pattern 1) 0 None
no_pattern = refl

-- ---- `b` and `ab` in `ab`: the least start decides before the pattern

abbrev b_and_ab : Program Look ℕ
b_and_ab = record {
  nodes = pass (1 ∷ 3 ∷ []) ∷ set 98 2 ∷ match 0 ∷ set 97 4 ∷ set 98 5 ∷ match 1 ∷ [];
  start = 0;
  patterns = 1 ∷ 3 ∷ [];
  line_terminator = 10;
}

abbrev ab : Search
ab = record (aa_from anchored 0) { content = 97 ∷ 98 ∷ [] }

abbrev of_ab : Machine ℕ Notes
of_ab = machine_of is_letter is_x b_and_ab ab

-- how walks go on from a node
from_goes : {seen : List ℕ} {n : Notes} {q i : ℕ} {cs : List ℕ} {t : Outcome Notes} (rs : List ℕ) → of_ab.move i q ≡ goes rs → Walk of_ab seen n q i cs t
    → (k : ℕ) × (r : ℕ) × (ds : List ℕ) × (slice_get rs k ≡ Some r) × Walk of_ab (q ∷ seen) (of_ab.note i q n) r i ds t
from_goes rs is (ended new e) = absurd (cc (is, e))
from_goes rs is (went {k = k} {cs = cs} ss r new e at w) = (k, r, cs, subst (λ xs. slice_get xs k ≡ Some r) (same_goes ss rs (sym e ∙ is)) at, w)
from_goes rs is (took r j new e w) = absurd (cc (is, e))

same_reads : {q r i j : ℕ} → reads q i ≡ reads r j → (q ≡ r) × (i ≡ j)
same_reads e = (cc e, cc e)

from_reads : {seen : List ℕ} {n : Notes} {q i : ℕ} {cs : List ℕ} {t : Outcome Notes} (r j : ℕ) → of_ab.move i q ≡ reads r j → Walk of_ab seen n q i cs t
    → Walk of_ab [] n r j cs t
from_reads r j is (ended new e) = absurd (cc (is, e))
from_reads r j is (went ss s new e at w) = absurd (cc (is, e))
from_reads r j is (took {n = n} {cs = cs} {t = t} s k new e w) =
    let same = same_reads (sym e ∙ is) in
    subst (λ x. Walk of_ab [] n x j cs t) same.0 (subst (λ x. Walk of_ab [] n s x cs t) same.1 w)

from_ends : {seen : List ℕ} {n : Notes} {q i : ℕ} {cs : List ℕ} {t : Outcome Notes} (p : ℕ) → of_ab.move i q ≡ ends p → Walk of_ab seen n q i cs t → t.pattern ≡ p
from_ends p is (ended new e) = cc (is, e)
from_ends p is (went ss s new e at w) = absurd (cc (is, e))
from_ends p is (took s k new e w) = absurd (cc (is, e))

one_of_two : (k r : ℕ) → slice_get (1 ∷ 3 ∷ []) k ≡ Some r → (r ≡ 1) ⊎ (r ≡ 3)
one_of_two zero r e = inl (sym (same_some refl e))
one_of_two (suc zero) r e = inr (sym (same_some refl e))
one_of_two (suc (suc k)) r e = absurd (none_there [] k refl e)

-- no walk of `b` begins at 0
of_ab_alone : {n : Notes} {cs : List ℕ} {t : Outcome Notes} → Walk of_ab [] n 0 0 cs t → t.pattern ≡ 1
unfolding is_utf8 chars encode
of_ab_alone {n = n} {cs = cs} {t = t} w =
    let first = from_goes (1 ∷ 3 ∷ []) refl w in
    elim (one_of_two first.0 first.1 first.3) [
      | inl is ↦ let next = from_goes [] refl (subst (λ r. Walk of_ab (0 ∷ []) n r 0 first.2 t) is first.4) in
          absurd (none_there [] next.0 refl next.3)
      | inr is ↦ from_ends 1 refl (from_reads 5 2 refl (from_reads 4 1 refl (subst (λ r. Walk of_ab (0 ∷ []) n r 0 first.2 t) is first.4)))
    ]

reads_both : Walk of_ab [] (fresh_notes 0) 0 0 (1 ∷ []) (record { pattern = 1; end = 2; notes = fresh_notes 0 })
unfolding is_utf8 chars encode
reads_both =
    went (1 ∷ 3 ∷ []) 3 (is_seen_false [] 0 refl) refl refl (
    took 4 1 (is_seen_false (0 ∷ []) 3 refl) refl (
    took 5 2 (is_seen_false [] 4 refl) refl (
    ended (is_seen_false [] 5 refl) refl)))

least_start : ProgramFindsBack is_letter is_x b_and_ab ab (Some (record { start = 0; pattern = 1; end = 2 }))
least_start = least_back (record {
  inside = (omega arith, omega arith, omega arith, omega arith, omega arith);
  reaches = record {
    choices = 1 ∷ [];
    outcome = record { pattern = 1; end = 2; notes = fresh_notes 0 };
    walk = reads_both;
    pattern_is = refl;
    end_is = refl;
  };
  at_end = refl;
  may_end = inl (λ same. omega (arith, same));
}) (λ b counts. (
  omega arith,
  λ same.
      let walk = subst (λ i. Walk of_ab [] (fresh_notes i) 0 i counts.reaches.choices counts.reaches.outcome) same counts.reaches.walk in
      omega (arith, sym counts.reaches.pattern_is ∙ of_ab_alone walk),
))
