-- Where patches go in a report, and the room for them; and the rows of a pending pattern.
use Rattle.std.specs.Prelude.{◌≡◌, ℕ, ◌+◌, ◌≤◌, List, [], length, Option, None, Some, option_map, IfSome, vec_capacity}
use Rattle.std.specs.Global.{Vec}
use Rattle.rope_search_reports.specs.declared.patches.Patch.{Patch}
use Rattle.rope_search_reports.specs.Patches.{patched, AreInTurn, growth_by}
use Rattle.rope_search_reports.specs.Pattern.{IsPattern}
use Rattle.rope_search_reports.specs.Text.{IsText}
use Rattle.rope_search.specs.Pending.{AreFirstRows}
use Rattle.rope_search.specs.Session.{PendingPattern}
use Rattle.rope_search.specs.declared.search.Patches.{Patches}
use Rattle.rope_search.specs.declared.search.Search.{Search}

-- there is room for them: in the report's own list, or in an empty one for the whole new report
abbrev pub HasRoomFor : Vec (List (ℕ × ℕ)) → List Patch → Option (Vec (List (ℕ × ℕ))) → Type 0
HasRoomFor rows patches None = length rows.items + growth_by patches ≤ vec_capacity rows
HasRoomFor rows patches (Some room) =
    (room.items ≡ []) × (length (patched 0 rows.items patches) ≤ vec_capacity room)

-- the patches have their places in the report, and there is room for them
pub record FitIn (search : Search) (patches : Patches) : Type 0 where
  pub in_turn : AreInTurn 0 (length search.rows.items) patches.patches.items
  pub room : HasRoomFor search.rows patches.patches.items patches.room

-- ---- a pending pattern

-- what is seen of it
abbrev pub shown_pending : Option Search → Option PendingPattern
shown_pending pending = option_map (λ (s : Search). record {
  pattern = s.finder;
  done = length s.rows.items;
}) pending

-- it is a pattern, and its rows are those of the first lines of the text
abbrev pub HoldsPending : List ℕ → Option Search → Type 0
HoldsPending text pending = IfSome pending (λ s. IsText s.finder × IsPattern s.finder
    × AreFirstRows text s.finder (length s.rows.items) s.rows.items)
