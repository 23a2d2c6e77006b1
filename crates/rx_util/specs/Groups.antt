-- The groups of patterns, and the slots in which a search stores their spans.
use Rattle.std.specs.Prelude.{◌≡◌, ℕ, ◌+◌, ◌*◌, List, [], map, replicate, length, take, sum_by, zero, suc, nat_lt, unwrap_or, if◌then◌else◌, Option, Some, None, option_map, slice_get, String, string_bytes, Vec}
use Rattle.rx_util.specs.declared.captures.WhichCaptures.{WhichCaptures}
use Rattle.rx_util.specs.declared.captures.WhichCaptures.TheVariants as which
use Rattle.rx_util.specs.declared.captures.WhichCaptures.TheVariants.{All, Implicit}
use Rattle.std.specs.Option.{option_map_or, option_and_then}

-- the name of a group, as UTF-8
abbrev pub Name : Type 0
Name = List ℕ

-- for each pattern, the names of its groups from group 1 on, each a name or none; group 0, the
-- whole match, has no name
abbrev pub GroupNames : Type 0
GroupNames = List (List (Option Name))

-- the names of groups, from strings
abbrev pub names_of : {A : Type 0} → List (Option (String A)) → List (Option Name)
names_of groups = map (option_map string_bytes) groups

-- the names of the groups of each pattern, from strings
abbrev pub named_groups : {A B : Type 0} → List (Vec (Option (String A)) B) → GroupNames
named_groups patterns = map (λ pattern. names_of pattern.items) patterns

-- the number of groups of a pattern, including group 0; an unknown pattern has none
abbrev pub group_len : GroupNames → ℕ → ℕ
group_len groups p = option_map_or (λ names. length names + 1) (slice_get groups p) 0

-- the name of a group, given the names from group 1 on
abbrev pub name_among : List (Option Name) → ℕ → Option Name
name_among names zero = None
name_among names (suc k) = unwrap_or (slice_get names k) None

-- the name of a pattern's group
abbrev pub name_of : GroupNames → ℕ → ℕ → Option Name
name_of groups p g = option_and_then (λ names. name_among names g) (slice_get groups p)

-- no two groups of a pattern have the same name
abbrev pub HasDistinctNames : GroupNames → Type 0
HasDistinctNames groups = (p g h : ℕ) (name : Name) → name_of groups p g ≡ Some name → name_of groups p h ≡ Some name → g ≡ h

-- the number of groups other than the groups 0
abbrev pub further_groups : GroupNames → ℕ
further_groups groups = sum_by length groups

-- the number of slots: two for each pattern, and two for each other group
abbrev pub slot_len : GroupNames → ℕ
slot_len groups = 2 * (length groups + further_groups groups)

-- the first slot of a pattern's group: those of the groups 0 come first, pattern by pattern, then
-- those of the other groups
abbrev pub slot_place : GroupNames → ℕ → ℕ → ℕ
slot_place groups p zero = 2 * p
slot_place groups p (suc k) = 2 * (length groups + further_groups (take p groups) + k)

-- the first of the two slots of a group, if there is such a group
abbrev pub first_slot : GroupNames → ℕ → ℕ → Option ℕ
first_slot groups p g = if nat_lt g (group_len groups p) then Some (slot_place groups p g) else None

-- the groups that are captured: all of them, or only the groups 0
abbrev pub noted_groups : WhichCaptures → GroupNames → GroupNames
noted_groups All groups = groups
noted_groups Implicit groups = replicate (length groups) []
noted_groups which.None groups = replicate (length groups) []
