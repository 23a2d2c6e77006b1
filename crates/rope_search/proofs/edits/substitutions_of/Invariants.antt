-- What is known of the edits so far.
use Rattle.std.proofs.Common.{◌≡◌, length, drop, map, vec_len, vec_capacity}
use Rattle.ropey.specs.Chunks.{text_of}
use Rattle.rope_search_templates.specs.Substitutions.{told, AreUtf8}
use Rattle.rope_search.specs.Edits.{in_full}
use Rattle.rope_search.proofs.EditAllLemmas.{AreSoFar}
use Rattle.rope_search.proofs.edits.substitutions_of.Given as goal

abbrev pub invariant-loop-edit : goal.invariant-loop-edit
invariant-loop-edit l =
    let all = map in_full l.edits in
    AreSoFar (text_of l.text) l.at (drop l.edit-index all) all (map told l.substitutions.items) l.is_utf8
    × AreUtf8 l.substitutions.items
    × (vec_len l.substitutions ≡ l.edit-index) × (vec_capacity l.substitutions ≡ length l.edits)
