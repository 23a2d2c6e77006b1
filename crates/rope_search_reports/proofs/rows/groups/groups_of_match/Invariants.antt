-- The matches skipped so far.
use Rattle.std.proofs.Common.{◌≡◌, ℕ, List, false, length}
use Rattle.ropey.specs.Slices.{slice_bytes}
use Rattle.regex_cursor.specs.Regexes.{IsRegexOf}
use Rattle.rope_search_reports.proofs.AmongLemmas.{HasPassed}
use Rattle.rope_search_reports.proofs.MatchLemmas.{room_behind}
use Rattle.rope_search_reports.proofs.rows.groups.groups_of_match.Given as goal

abbrev pub invariant-loop-pass : goal.invariant-loop-pass
invariant-loop-pass l = (l.regex ≡ l.fn.regex) × (l.pass.is_over ≡ false) × (l.pass.content ≡ slice_bytes l.fn.line)
    × ((text : List ℕ) → (built : IsRegexOf text l.fn.regex) → HasPassed built.tree (slice_bytes l.fn.line) l.pass.last l.fn.number l.left)
    × (l.pass.by ≡ l.fn.regex)

abbrev pub decreases-loop-pass : goal.decreases-loop-pass
decreases-loop-pass l = room_behind (length (slice_bytes l.fn.line)) l.pass.last
