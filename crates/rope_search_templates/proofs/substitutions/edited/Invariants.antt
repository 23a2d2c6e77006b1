-- The text with the substitutions from some one on made.
use Rattle.std.proofs.Common.{◌≡◌, ◌≤◌, true, length, drop, map}
use Rattle.std.specs.Str.{all_scalars}
use Rattle.ropey.specs.Chunks.{text_of}
use Rattle.rope_search_changes.specs.Text.{bytes_of}
use Rattle.rope_search_templates.specs.Substitutions.{told}
use Rattle.rope_search_templates.proofs.SubstitutionLemmas.{IsEditedBehind}
use Rattle.rope_search_templates.proofs.substitutions.edited.Given as goal

abbrev pub invariant-loop-left : goal.invariant-loop-left
invariant-loop-left l =
    let all = map told l.substitutions in
    IsEditedBehind (bytes_of (text_of l.text)) (drop l.left all) (text_of l.new) × (all_scalars (text_of l.new) ≡ true)
    × (l.left ≤ length l.substitutions)

abbrev pub decreases-loop-left : goal.decreases-loop-left
decreases-loop-left l = l.left
