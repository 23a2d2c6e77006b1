-- Edits, each with its part of the bytes.
use Rattle.std.proofs.Common.{◌≡◌, ℕ, ◌+◌, List, ◌++◌, length, map, sum_by, refl, ap, subst, sym, ◌∙◌, arith, inl, inr}
use Rattle.std.specs.Prelude.{Err, ◌⊎◌}
use Rattle.rope_search_io.specs.declared.faults.Fault.{Fault}
use Rattle.rope_search_io.specs.declared.faults.Fault.TheVariants.{Range, Memory}
use Rattle.rope_search_io.specs.Faults.{rank_of}
use Rattle.rope_search.specs.declared.edits.Edit.{Edit}
use Rattle.rope_search.specs.Edits.{in_full}
use Rattle.rope_search_c.specs.Edits.{CarriesEdits, Fit, MakesEdits, cut}
use Rattle.rope_search_c.specs.declared.counting.CountingSession.{CountingSession}
use Rattle.rope_search_c.specs.declared.edits.TextEdit.{TextEdit}

-- Those that have their bytes, and the rest for the others: the rest is the sum of theirs, if all
-- bytes are the sum of all.
pub record AreCut (left : List TextEdit) (bytes : List ℕ) (made : List Edit) (edits : List TextEdit) (all : List ℕ) : Type 0 where
  pub so_far : map in_full made ++ cut left bytes ≡ cut edits all
  pub count : sum_by (λ (edit : TextEdit). edit.len) left + length all ≡ length bytes + sum_by (λ (edit : TextEdit). edit.len) edits

-- the effect of a call with edits that are refused before they are tried
pub refused-edits : (old : CountingSession) (edits : List TextEdit) (bytes : List ℕ) (fault : Fault) (status : ℕ) → (fault ≡ Range) ⊎ (fault ≡ Memory)
    → (fault ≡ Range → Fit edits bytes → ⊥) → status ≡ rank_of fault → MakesEdits old edits bytes status old
refused-edits old edits bytes fault status (inl range) apart told = record {
  answer = Err fault;
  told = told;
  fit = λ fit. absurd (apart range fit);
  unfit = λ no. (inl (told ∙ ap rank_of range), refl);
  arriving = refl;
}
refused-edits old edits bytes fault status (inr memory) apart told = record {
  answer = Err fault;
  told = told;
  fit = λ fit. subst (λ f. CarriesEdits old (cut edits bytes) (Err f) old) (sym memory)
      (record {
        step = refl;
        limit = refl;
        rows = record { grows = omega arith; made = omega arith; no_whole = refl };
        unsearched = λ why refuses. refl;
        changed = tt;
        kept = refl;
        texts = tt;
        still = refl;
      });
  unfit = λ no. (inr (told ∙ ap rank_of memory), refl);
  arriving = refl;
}
