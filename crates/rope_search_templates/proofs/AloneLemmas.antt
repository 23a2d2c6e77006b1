-- Matches with only their spans known.
use Rattle.std.proofs.Common.{◌≡◌, ℕ, ◌+◌, ◌-◌, false, List, [], ◌∷◌, ◌++◌, map, refl, ap, ap₂, sym, ◌∙◌}
use Rattle.std.proofs.lemmas.List.Sums.{sum_by-cons}
use Rattle.str_indices.specs.Text.{byte_len}
use Rattle.rope_search_changes.specs.Text.{line_count}
use Rattle.rope_search_changes.specs.Replacement.{Groups, alone, whole, between, expand, replaced, searched, changes_of}
use Rattle.rope_search_changes.specs.declared.Change.{Change}
use Rattle.rope_search_templates.specs.Laws.{SpansAreEnough}
use Rattle.rope_search_templates.specs.Templates.{names_explicit_groups}
use Rattle.rope_search_templates.proofs.ExpandLemmas.{expand-alone}

module _ (content template : List ℕ) (none : names_explicit_groups template ≡ false) where
  one-text : (match : Groups) → expand content (alone (whole match)) template ≡ expand content match template
  one-text match = expand-alone content match template none

  same-text : (at : ℕ) (matches : List Groups) → replaced content template at (map alone (map whole matches)) ≡ replaced content template at matches
  same-text at [] = refl
  same-text at (m ∷ ms) = ap₂ (λ told rest. (between content at (whole m).0 ++ told) ++ rest) (one-text m) (same-text (whole m).1 ms)

  same-changes : (at at_new : ℕ) (matches : List Groups) → changes_of content template at at_new (map alone (map whole matches)) ≡ changes_of content template at at_new matches
  same-changes at at_new [] = refl
  same-changes at at_new (m ∷ ms) =
      let start = at_new + ((whole m).0 - at) in
      let change : ℕ → Change = λ end. record { old_end = (whole m).1; new_start = start; new_end = end } in
      ap (λ told. change (start + byte_len told) ∷ changes_of content template (whole m).1 (start + byte_len told) (map alone (map whole ms))) (one-text m)
      ∙ ap (λ rest. change (start + byte_len (expand content m template)) ∷ rest) (same-changes (whole m).1 (start + byte_len (expand content m template)) ms)

  same-lines : (matches : List Groups) → searched content template (map alone (map whole matches)) ≡ searched content template matches
  same-lines [] = refl
  same-lines (m ∷ ms) =
      sum_by-cons lines (alone (whole m)) (map alone (map whole ms))
      ∙ ap₂ (λ told rest. line_count told + rest) (one-text m) (same-lines ms)
      ∙ sym (sum_by-cons lines m ms)
    where
      lines : Groups → ℕ
      lines match = line_count (expand content match template)

pub spans-enough : SpansAreEnough
spans-enough content template matches none = record {
  text = same-text content template none 0 matches;
  changes = same-changes content template none 0 0 matches;
  lines = same-lines content template none matches;
}
