-- The edits so far, and the bytes left for the others.
use Rattle.std.proofs.Common.{◌≡◌, length, drop, vec_len, vec_capacity}
use Rattle.rope_search_c.proofs.EditLemmas.{AreCut}
use Rattle.rope_search_c.proofs.edits.edits_of.Given as goal

abbrev pub invariant-loop-edit : goal.invariant-loop-edit
invariant-loop-edit l =
    AreCut (drop l.edit-index l.edits) l.left l.made.items l.edits l.bytes
    × (vec_len l.made ≡ l.edit-index) × (vec_capacity l.made ≡ length l.edits)
