-- The spans of the matches so far.
use Rattle.std.proofs.Common.{◌≡◌, ℕ, List, false, length}
use Rattle.regex_cursor.specs.Regexes.{IsRegexOf}
use Rattle.rope_search_reports.specs.Pattern.{span_of}
use Rattle.rope_search_reports.proofs.MatchLemmas.{Searched, room_behind}
use Rattle.rope_search_reports.proofs.rows.searching.write_spans.Given as goal

abbrev pub invariant-loop-span : goal.invariant-loop-span
invariant-loop-span g l = (l.regex ≡ l.fn.regex) × (l.pass.is_over ≡ false) × (l.pass.content ≡ l.fn.pass.content)
    × ((text : List ℕ) → (built : IsRegexOf text l.fn.regex) → Searched span_of built.tree (l.fn.pass.content) l.pass.last l.spans.items)
    × (l.pass.by ≡ l.fn.regex)

abbrev pub decreases-loop-span : goal.decreases-loop-span
decreases-loop-span g l = room_behind (length (l.fn.pass.content)) l.pass.last
