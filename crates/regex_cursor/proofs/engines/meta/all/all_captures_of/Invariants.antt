use Rattle.std.proofs.Common.{◌≡◌, map, take}
use Rattle.regex_cursor.specs.Listing.{captures_listed}
use Rattle.regex_cursor.proofs.engines.meta.all.all_captures_of.Given as goal

-- those up to this one are noted
abbrev pub invariant-loop-one : goal.invariant-loop-one
invariant-loop-one l = l.found.items ≡ map (captures_listed l.groups) (take l.one-index l.listed)
