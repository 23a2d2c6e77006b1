-- Composed changes of two steps, up to an offset.
use Rattle.std.specs.Prelude.{◌≡◌, ℕ, ◌+◌, ◌-◌, ◌<◌, ◌≤◌, ◌⊎◌, List, [], ◌∷◌, ◌++◌, map, slice_index_or, max}
use Rattle.ropey.specs.Chunks.{text_of}
use Rattle.rope_search_reports.specs.Turned.{listed}
use Rattle.rope_search_changes.specs.declared.Change.{Change}
use Rattle.rope_search.specs.declared.history.Version.{Version}
use Rattle.rope_search.specs.declared.joins.Joint.{Joint}
use Rattle.rope_search.specs.declared.joins.Place.{Place}

-- the change of a number
abbrev pub change_numbered : List Change → ℕ → Change
change_numbered changes k =
    slice_index_or changes k (record { old_end = 0; new_start = 0; new_end = 0 })

-- where the replaced part ends in the middle text, as far as is known
abbrev pub part_end : Joint → ℕ
part_end joint = max (max joint.start.middle joint.first.middle) joint.second.middle

-- an offset after the changes, from that of the middle text
abbrev pub place_past : Joint → ℕ → Place
place_past joint middle = record {
  old = joint.first.outer + (middle - joint.first.middle);
  middle = middle;
  new = joint.second.outer + (middle - joint.second.middle);
}

-- where a change of the second step starts in the middle text
abbrev pub middle_start : Joint → Change → ℕ
middle_start joint change = joint.second.middle + (change.new_start - joint.second.outer)

-- the change of the part up to an offset
abbrev pub change_to : Joint → Place → Change
change_to joint end =
    record { old_end = end.old; new_start = joint.start.new; new_end = end.new }

-- up to an offset the part replaces nothing by nothing
abbrev pub IsEmptyPart : Joint → Place → Type 0
IsEmptyPart joint end = (end.old ≡ joint.start.old) × (end.new ≡ joint.start.new)

-- the change of the part up to an offset is added, unless it replaces nothing by nothing
abbrev pub AddsPart : Joint → Place → List Change → List Change → Type 0
AddsPart joint end changes changes' =
    (IsEmptyPart joint end × (changes' ≡ changes))
    ⊎ ((IsEmptyPart joint end → ⊥) × (changes' ≡ changes ++ change_to joint end ∷ []))

-- If an offset is after the part, the part's change is added, and the next part starts there.
abbrev pub GoesOnTo : Joint → ℕ → List Change → Joint → List Change → Type 0
GoesOnTo joint middle changes joint' changes' =
    ((middle ≤ part_end joint) × (joint' ≡ joint) × (changes' ≡ changes))
    ⊎ ((part_end joint < middle) × (joint' ≡ record joint { start = place_past joint middle })
    × AddsPart joint (place_past joint (part_end joint)) changes changes')

-- ---- the versions of a history

-- their texts, and the changes that led to each
abbrev pub version_texts : List Version → List (List ℕ)
version_texts versions = map (λ (v : Version). text_of v.text) versions

abbrev pub version_changes : List Version → List (List Change)
version_changes versions = map (λ (v : Version). listed v.changes) versions
