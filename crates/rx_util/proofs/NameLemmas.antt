-- The names of groups.
use Rattle.std.proofs.Common.{◌≡◌, ℕ, ◌+◌, ◌-◌, ◌<◌, ◌≤◌, List, [], length, Vec, String, Global, slice_get, get_or, Option, option_map, string_bytes, Some, None, MatchOption, unwrap_or, zero, suc, refl, sym, ap, subst, ◌∙◌, arith, inl, inr, add-one, is_some, true≢false}
use Rattle.std.specs.Option.{option_and_then}
use Rattle.std.proofs.lemmas.Bool.{cases_lt}
use Rattle.std.proofs.lemmas.List.{get_or-map, length-map}
use Rattle.std.proofs.lemmas.Option.{slice_get-map, slice_get-get_or, slice_get_past}
use Rattle.rx_util.specs.Groups.{GroupNames, Name, names_of, named_groups, name_among, name_of, HasDistinctNames}

none_is_not_some : {A : Type 0} {x : A} → ◌≡◌ {A = Option A} None (Some x) → ⊥
none_is_not_some is = true≢false (sym (ap is_some is))

-- the name of a further group
pub name_among-further : (names : List (Option Name)) (k : ℕ) → name_among names (k + 1) ≡ unwrap_or (slice_get names k) None
name_among-further names k = rw (add-one k) refl

-- the name of a further group that is there
pub further_at : (groups : List (Option (String Global))) (k : ℕ) (group : Option (String Global)) → k < length groups
    → group ≡ get_or groups k group → name_among (names_of groups) (k + 1) ≡ option_map string_bytes group
further_at groups k group lt is =
    name_among-further (names_of groups) k
    ∙ ap (λ o. unwrap_or o None) (slice_get-map (option_map string_bytes) groups k
    ∙ ap (option_map (option_map string_bytes)) (slice_get-get_or groups k group lt ∙ ap Some (sym is)))

pub name_at : (groups : List (Option (String Global))) (g : ℕ) (group : Option (String Global)) → (g ≡ 0 → ⊥) → g ≤ length groups
    → group ≡ get_or groups (g - 1) group → name_among (names_of groups) g ≡ option_map string_bytes group
name_at groups g group further le is =
    ap (name_among (names_of groups)) (omega (arith, further)) ∙ further_at groups (g - 1) group (omega (arith, further, le)) is

-- behind the last group there is no name
pub past_end : (names : List (Option Name)) (g : ℕ) → length names < g → name_among names g ≡ None
past_end names zero lt = refl
past_end names (suc k) lt = ap (λ o. unwrap_or o None) (slice_get_past names k (omega (arith, lt)))

pub none_past_end : (groups : List (Option (String Global))) (g : ℕ) → length groups < g → name_among (names_of groups) g ≡ None
none_past_end groups g lt = past_end (names_of groups) g (omega (arith, lt, length-map groups (option_map string_bytes)))

-- the names of the i-th pattern's groups
pub named_groups-at : (patterns : List (Vec (Option (String Global)) Global)) (i : ℕ) (pattern : Vec (Option (String Global)) Global) → i < length patterns
    → pattern ≡ get_or patterns i pattern → get_or (named_groups patterns) i [] ≡ names_of pattern.items
named_groups-at patterns i pattern lt is = get_or-map (λ pattern. names_of pattern.items) patterns i pattern [] lt ∙ ap (λ pattern. names_of pattern.items) (sym is)

-- one more group that has another name
pub not_yet : (names : List (Option Name)) (name : Name) (k : ℕ) → ((g : ℕ) → g < k + 1 → name_among names g ≡ Some name → ⊥)
    → (name_among names (k + 1) ≡ Some name → ⊥) → (g : ℕ) → g < k + 1 + 1 → name_among names g ≡ Some name → ⊥
not_yet names name k so_far other g lt named = elim (cases_lt g (k + 1)) [
  | inl before ↦ so_far g before named
  | inr behind ↦
      let last : g ≡ k + 1 = omega (arith, lt, behind) in
      other (sym (ap (name_among names) last) ∙ named)
]

-- no group has the name
pub none_named : (groups : List (Option (String Global))) (name : Name) (k : ℕ)
    → ((g : ℕ) → g < k + 1 → name_among (names_of groups) g ≡ Some name → ⊥)
    → length groups ≤ k → (g : ℕ) → name_among (names_of groups) g ≡ Some name → ⊥
none_named groups name k so_far all g named = elim (cases_lt g (k + 1)) [
  | inl before ↦ so_far g before named
  | inr behind ↦ none_is_not_some (sym (none_past_end groups g (omega (arith, behind, all))) ∙ named)
]

-- the group with a name among a pattern's is the pattern's group with that name
pub named_exactly : (groups : GroupNames) (p : ℕ) (names : List (Option Name)) (name : Name) (found : Option ℕ) → HasDistinctNames groups
    → slice_get groups p ≡ Some names
    → MatchOption found ((g : ℕ) → name_among names g ≡ Some name → ⊥) (λ g. name_among names g ≡ Some name)
    → (g : ℕ) → (found ≡ Some g → name_of groups p g ≡ Some name) × (name_of groups p g ≡ Some name → found ≡ Some g)
named_exactly groups p names name None distinct here none g =
    (λ is. absurd (none_is_not_some is), λ named. absurd (none g (sym (ap (option_and_then (λ names. name_among names g)) here) ∙ named)))
named_exactly groups p names name (Some k) distinct here named g =
    let known : name_of groups p k ≡ Some name = ap (option_and_then (λ names. name_among names k)) here ∙ named in (
      λ is. subst (λ j. name_of groups p j ≡ Some name) (ap (λ o. unwrap_or o 0) is) known,
      λ also. ap Some (distinct p k g name known also),
    )
