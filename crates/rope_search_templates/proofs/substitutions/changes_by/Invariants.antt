-- The changes so far.
use Rattle.std.proofs.Common.{◌≡◌, length, drop, map, vec_len, vec_capacity}
use Rattle.str_indices.specs.Text.{byte_len}
use Rattle.ropey.specs.Chunks.{text_of}
use Rattle.rope_search_changes.specs.Text.{bytes_of}
use Rattle.rope_search_templates.specs.Substitutions.{told, changes_by, substituted}
use Rattle.rope_search_templates.proofs.SubstitutionLemmas.{AreToldSoFar}
use Rattle.rope_search_templates.proofs.substitutions.changes_by.Given as goal

abbrev pub invariant-loop-substitution : goal.invariant-loop-substitution
invariant-loop-substitution l =
    let content = bytes_of (text_of l.text) in
    let all = map told l.substitutions in
    AreToldSoFar content l.limit l.at l.at_new (drop l.substitution-index all) l.changes.items (changes_by 0 0 all) (byte_len (substituted content 0 all))
    × (vec_len l.changes ≡ l.substitution-index) × (vec_capacity l.changes ≡ length l.substitutions)
