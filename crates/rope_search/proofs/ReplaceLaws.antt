-- The effect of `replace` on a text.
use Rattle.std.proofs.Common.{◌≡◌, ℕ, zero, suc, ◌+◌, ◌≤◌, List, [], ◌∷◌, ◌++◌, length, take, slice_index_or, chars, refl, sym, ap, ◌∙◌, subst, arith}
use Rattle.rope_search_reports.specs.Changes.{AreChanges}
use Rattle.rope_search_reports.specs.Laws.{GroupsFollowEachOther}
use Rattle.rope_search_reports.specs.Replacement.{ReplacementsAreChanges, changes_of, searched}
use Rattle.rope_search_reports.specs.Text.{bytes_of}
use Rattle.rope_search.specs.Laws.{ReplaceKeepsTheRest}
use Rattle.rope_search.specs.Replacing.{text_with}
use Rattle.rope_search.specs.Session.{current_text, chosen_buffer}
use Rattle.rope_search.proofs.HistoryLaws.{chosen_set}
use Rattle.rope_search.proofs.HoldLaws.{chosen_holds, text_holds}
use Rattle.rope_search.proofs.StepLaws.{Encodes-chars}

-- the text after those that stay
last_text : (texts : List (List ℕ)) (n : ℕ) (text : List ℕ) → n ≤ length texts → slice_index_or (take n texts ++ text ∷ []) n [] ≡ text
last_text [] zero text within = refl
last_text [] (suc n) text within = absurd (omega arith)
last_text (t ∷ ts) zero text within = refl
last_text (t ∷ ts) (suc n) text within = last_text ts n text (omega arith)

pub replace_keeps : GroupsFollowEachOther → ReplacementsAreChanges → ReplaceKeepsTheRest
replace_keeps law changes limit old new payload count all current step =
    let buffer = chosen_buffer old in
    let text = current_text buffer in
    let content = bytes_of text in
    let scalars = text_holds buffer (chosen_holds old all) in
    let template = step.1.0 in
    let change = step.1.3 in
    let matches = change.matches in
    let follow = law text change.are.pattern matches scalars change.are.are in
    let made = text_with buffer template matches in
    let same : template ≡ chars payload = Encodes-chars template payload step.1.2 in
    let there : chosen_buffer new ≡ step.1.1 = ap chosen_buffer step.1.4 ∙ chosen_set old step.1.1 current.chosen in
    let is : current_text (chosen_buffer new) ≡ made =
    ap current_text (there ∙ change.changed) ∙ last_text buffer.texts (buffer.current + 1) made (omega (arith, current.current)) in
    record {
      matches = matches;
      are = change.are;
      counted = change.counted;
      follow = follow;
      stays =
          subst (λ t. AreChanges (changes_of content t 0 0 matches) 0 0 text (current_text (chosen_buffer new)) (searched content t matches)) same
          (subst (λ t. AreChanges (changes_of content template 0 0 matches) 0 0 text t (searched content template matches)) (sym is) (changes text template matches scalars follow));
    }
