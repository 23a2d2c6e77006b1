-- The slots of the groups of two patterns, `(a)(?<x>b)` and `(c)`, each by computation.
use Rattle.std.specs.Prelude.{◌≡◌, [], ◌∷◌, Some, None, codes, refl}
use Rattle.rx_util.specs.declared.captures.WhichCaptures.TheVariants as which
use Rattle.rx_util.specs.Groups.{GroupNames, group_len, name_of, noted_groups, slot_len, slot_place, first_slot}

abbrev groups : GroupNames
groups = (None ∷ Some (codes "x") ∷ []) ∷ (None ∷ []) ∷ []

-- group 0 is counted; there is no third pattern
lengths : group_len groups 0 ∷ group_len groups 1 ∷ group_len groups 2 ∷ [] ≡ 3 ∷ 2 ∷ 0 ∷ []
lengths = refl

names : name_of groups 0 0 ∷ name_of groups 0 1 ∷ name_of groups 0 2 ∷ name_of groups 0 3 ∷ [] ≡
    None ∷ None ∷ Some (codes "x") ∷ None ∷ []
names = refl

-- the groups 0 come first, then the others, pattern by pattern
places_of_whole_matches : slot_place groups 0 0 ∷ slot_place groups 1 0 ∷ [] ≡ 0 ∷ 2 ∷ []
places_of_whole_matches = refl

places_of_groups : slot_place groups 0 1 ∷ slot_place groups 0 2 ∷ slot_place groups 1 1 ∷ [] ≡ 4 ∷ 6 ∷ 8 ∷ []
places_of_groups = refl

slots : slot_len groups ≡ 10
slots = refl

no_such_group : first_slot groups 1 2 ≡ None
no_such_group = refl

-- if only the groups 0 are captured
slots_of_whole_matches : slot_len (noted_groups which.Implicit groups) ≡ 4
slots_of_whole_matches = refl
