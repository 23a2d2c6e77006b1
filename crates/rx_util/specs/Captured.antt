-- The spans of groups that a search stores.
use Rattle.std.specs.Prelude.{ℕ, ◌+◌, List, Option, Some, None, option_map, unwrap_or, slice_get, replicate}
use Rattle.std.specs.Option.{option_and_then}
use Rattle.rx_util.specs.declared.search.Span.{Span}
use Rattle.rx_util.specs.Search.{Found}
use Rattle.rx_util.specs.Groups.{GroupNames, Name, name_of, first_slot}

-- the groups of the patterns, the pattern that matched, and for each slot an optional offset
pub record Captured : Type 0 where
  pub groups : GroupNames
  pub pattern : Option ℕ
  pub slots : List (Option ℕ)

-- no match, and empty slots
abbrev pub nothing_noted : GroupNames → ℕ → Captured
nothing_noted groups len = record { groups = groups; pattern = None; slots = replicate len None }

-- the offset in a slot, and none if there is no such slot
abbrev pub place_in : List (Option ℕ) → ℕ → Option ℕ
place_in slots slot = unwrap_or (slice_get slots slot) None

-- the span between two offsets, if both are there
abbrev pub span_between : Option ℕ → Option ℕ → Option Span
span_between (Some start) (Some end) = Some (record { start = start; end = end })
span_between (Some start) None = None
span_between None end = None

-- the span of a group of the matched pattern: from the offset in the first of its two slots to that
-- in the second
abbrev pub group_span : Captured → ℕ → Option Span
group_span c group =
    option_and_then (λ slot. span_between (place_in c.slots slot) (place_in c.slots (slot + 1)))
    (option_and_then (λ p. first_slot c.groups p group) c.pattern)

-- the name of a group of the matched pattern
abbrev pub group_name : Captured → ℕ → Option Name
group_name c group = option_and_then (λ p. name_of c.groups p group) c.pattern

-- the whole match
abbrev pub match_found : Captured → Option Found
match_found c = option_and_then (λ p. option_map (λ span. record { pattern = p; span = span }) (group_span c 0)) c.pattern
