-- The rows of the lines so far, and the number of lines scanned.
use Rattle.std.proofs.Common.{◌≡◌, ◌+◌, ◌-◌, ◌≤◌, min}
use Rattle.ropey.specs.Chunks.{text_of}
use Rattle.rope_search_reports.specs.Drafts.{lines_between}
use Rattle.rope_search_reports.specs.Report.{AreRows}
use Rattle.rope_search_reports.specs.Ticks.{MakesAsMany}
use Rattle.rope_search_reports.proofs.WalkLemmas.{UpTo}
use Rattle.rope_search_reports.proofs.reports.rows_of_lines.Given as goal

abbrev pub invariant-loop-walk : goal.invariant-loop-walk
invariant-loop-walk l = AreRows l.initial.finder (lines_between l.walk.text l.first l.walk.line) l.rows.items
    × (l.finder ≡ l.initial.finder) × MakesAsMany (l.walk.line - l.first) l.initial.tick l.tick
    × (l.first ≤ l.walk.line) × (l.walk.line ≤ l.end) × (1 ≤ l.few) × UpTo (text_of l.text) l.walk.text l.end
    × (l.tick.looked ≤ l.initial.tick.looked + (min (l.walk.line + 1) l.end - l.first))

abbrev pub decreases-loop-walk : goal.decreases-loop-walk
decreases-loop-walk l = l.end - l.walk.line
