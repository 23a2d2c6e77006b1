-- The groups so far, as offsets.
use Rattle.std.proofs.Common.{◌≡◌, length, map, option_map, take}
use Rattle.ropey.specs.Slices.{slice_text}
use Rattle.rope_search.specs.MatchEdits.{placed_behind}
use Rattle.rope_search.proofs.match_edits.groups_in_text.Given as goal

abbrev pub invariant-loop-k : goal.invariant-loop-k
invariant-loop-k l = (length l.placed ≡ 10) × (take l.k l.placed ≡ map (option_map (placed_behind l.start (slice_text l.own))) (take l.k l.groups))
