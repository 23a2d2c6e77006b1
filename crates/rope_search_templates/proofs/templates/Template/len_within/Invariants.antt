-- What is left of the limit is what the pieces so far left of it.
use Rattle.std.proofs.Common.{◌≡◌, ◌+◌, ℕ, List}
use Rattle.str_indices.specs.Text.{byte_len}
use Rattle.rope_search_changes.specs.Text.{IsText, bytes_of}
use Rattle.rope_search_changes.specs.Replacement.{expand, HasSpansIn}
use Rattle.rope_search_templates.specs.Matches.{groups_in}
use Rattle.rope_search_templates.proofs.templates.Template.len_within.Given as goal

abbrev pub invariant-loop-piece : goal.invariant-loop-piece
invariant-loop-piece l =
    (text : List ℕ) → IsText text → HasSpansIn (bytes_of text) (groups_in l.found)
    → l.limit + byte_len (expand (bytes_of text) (groups_in l.found) l.piece-iterator) ≡ l.left + byte_len (expand (bytes_of text) (groups_in l.found) l.self)
