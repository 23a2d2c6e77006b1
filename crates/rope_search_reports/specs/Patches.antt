-- Patches applied to a list of rows.
use Rattle.std.specs.Prelude.{ℕ, ◌+◌, ◌-◌, ◌≤◌, ◌==◌, Bool, not, List, [], ◌∷◌, ◌++◌, length, take, drop, sum_by, count_by}
use Rattle.rope_search_reports.specs.declared.patches.Patch.{Patch}

-- the rows from one on, with each patch in place of the rows that it removes
abbrev pub patched : ℕ → List (List (ℕ × ℕ)) → List Patch → List (List (ℕ × ℕ))
patched at rows [] = drop at rows
patched at rows (patch ∷ patches) =
    take (patch.first - at) (drop at rows) ++ patch.made.items ++ patched patch.end rows patches

-- the patches follow each other, from a row on, up to the last row at most
abbrev pub AreInTurn : ℕ → ℕ → List Patch → Type 0
AreInTurn at len [] = at ≤ len
AreInTurn at len (patch ∷ patches) =
    (at ≤ patch.first) × (patch.first ≤ patch.end) × AreInTurn patch.end len patches

-- how many more rows a patch inserts than it removes
abbrev pub growth_of : Patch → ℕ
growth_of patch = length patch.made.items - (patch.end - patch.first)

-- the sum of these
abbrev pub growth_by : List Patch → ℕ
growth_by patches = sum_by growth_of patches

-- whether the rows after a patch move: it inserts and removes different numbers of rows
abbrev pub shifts : Patch → Bool
shifts patch = not (patch.first + length patch.made.items == patch.end)

-- how many patches move them
abbrev pub shift_count : List Patch → ℕ
shift_count patches = count_by shifts patches

-- how many rows they insert
abbrev pub made_by : List Patch → ℕ
made_by patches = sum_by (λ (patch : Patch). length patch.made.items) patches
