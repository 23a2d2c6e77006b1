-- The patches of the changes so far.
use Rattle.std.proofs.Common.{◌≡◌, ℕ, ◌+◌, ◌-◌, ◌^◌, ◌≤◌, drop, length, min}
use Rattle.std.specs.Prelude.{max}
use Rattle.ropey.specs.Chunks.{text_of}
use Rattle.rope_search_reports.specs.Text.{line_count}
use Rattle.rope_search_reports.specs.Changes.{AreChanges}
use Rattle.rope_search_reports.specs.Position.{line_at}
use Rattle.rope_search_reports.specs.Patches.{made_by}
use Rattle.rope_search_reports.proofs.WeaveLemmas.{Woven, change_at}
use Rattle.rope_search_reports.proofs.changes.patches_of.Given as goal

abbrev pub invariant-loop-change : goal.invariant-loop-change
invariant-loop-change l =
    ((all : ℕ) → AreChanges l.changes 0 0 (text_of l.old) (text_of l.new) all
    → (n : ℕ) × Woven l.fn.finder (text_of l.old) (text_of l.new) (drop l.change-index l.changes) n l.kept l.done l.patches.items × (l.tick.count + n ≤ l.fn.tick.count + all)
    × (l.tick.looked + n ≤ l.fn.tick.looked + all) × (made_by l.patches.items + n ≤ all))
    × (l.finder ≡ l.fn.finder) × (l.tick.wholes ≡ l.fn.tick.wholes)
    × (l.tick.count ≤ l.fn.tick.count + l.done) × (l.done ≤ line_count (text_of l.new))
    × (l.tick.looked ≤ l.fn.tick.looked + l.done) × (min (l.fn.tick.count + made_by l.patches.items) (2 ^ 64 - 1) ≤ l.tick.count)
    × (l.tick.looked ≤ l.fn.tick.looked + made_by l.patches.items)
    × (l.new_lines.text ≡ text_of l.new) × (l.old_lines.text ≡ text_of l.old) × (l.walk.text ≡ text_of l.new) × (l.walk.line ≤ max l.done (line_at (text_of l.new) (change_at l.changes l.change-index).new_start))
    × (l.left + l.change-index ≡ length l.changes) × (l.fn.tick.count ≤ l.tick.count)
    × (l.tick.count ≤ l.fn.tick.count + made_by l.patches.items)
