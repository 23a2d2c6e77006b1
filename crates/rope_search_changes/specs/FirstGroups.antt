-- The first groups of a match.
use Rattle.std.specs.Prelude.{ℕ, ◌-◌, ◌++◌, None, take, replicate}
use Rattle.rope_search_changes.specs.Replacement.{Groups}

-- the first groups of a match, of which there are 10; the others are absent
abbrev pub first_groups : ℕ → Groups → Groups
first_groups count groups = take count groups ++ replicate (10 - count) None
