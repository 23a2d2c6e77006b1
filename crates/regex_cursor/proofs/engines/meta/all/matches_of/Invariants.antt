use Rattle.std.proofs.Common.{◌≡◌, Some, map, take}
use Rattle.regex_cursor.specs.Listing.{match_listed}
use Rattle.regex_cursor.proofs.engines.meta.all.matches_of.Given as goal

-- the matches up to this one are there
abbrev pub invariant-loop-one : goal.invariant-loop-one
invariant-loop-one l = map (λ m. Some m) l.found.items ≡ map match_listed (take l.one-index l.listed)
