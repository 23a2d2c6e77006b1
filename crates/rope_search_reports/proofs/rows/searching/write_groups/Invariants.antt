-- The first groups of the matches so far.
use Rattle.std.proofs.Common.{◌≡◌, ◌*◌, ℕ, List, false, length}
use Rattle.regex_cursor.specs.Regexes.{IsRegexOf}
use Rattle.rope_search_changes.specs.FirstGroups.{first_groups}
use Rattle.rope_search_reports.specs.Matches.{groups_of}
use Rattle.rope_search_reports.proofs.MatchLemmas.{Searched, room_behind}
use Rattle.rope_search_reports.proofs.rows.searching.write_groups.Given as goal

abbrev pub invariant-loop-groups : goal.invariant-loop-groups
invariant-loop-groups g l = (l.regex ≡ l.fn.regex) × (l.pass.is_over ≡ false) × (l.pass.content ≡ l.fn.pass.content)
    × ((text : List ℕ) → (built : IsRegexOf text l.fn.regex) → Searched (λ t. first_groups l.fn.count (groups_of t)) built.tree (l.fn.pass.content) l.pass.last l.groups.items)
    × (l.pass.by ≡ l.fn.regex) × (length l.slots ≡ 2 * l.fn.count)

abbrev pub decreases-loop-groups : goal.decreases-loop-groups
decreases-loop-groups g l = room_behind (length (l.fn.pass.content)) l.pass.last
