-- Slots of the patterns that weren't found.
use Rattle.std.proofs.Common.{◌≡◌, ℕ, zero, suc, ◌+◌, ◌-◌, ◌*◌, ◌<◌, ◌≤◌, ◌⊎◌, false, cond, nat_lt, List, [], ◌∷◌, All, length, take, replicate, Option, Some, None, slice_get, refl, sym, ap, subst, ◌∙◌, inl, inr, arith}
use Rattle.std.specs.Option.{option_map_or}
use Rattle.std.proofs.lemmas.Bool.{cases_lt, lt-ltb, ne_eqb}
use Rattle.std.proofs.lemmas.Bool.Decides.{nat_tests}
use Rattle.std.proofs.lemmas.List.Elements.{All-cons, All-head, All-nil, All-tail}
use Rattle.std.proofs.lemmas.List.Sums.{sum_by-cons}
use Rattle.std.proofs.lemmas.Option.{none-some, same_Some, slice_get_within}
use Rattle.unicode.specs.Perl.{is_word_char}
use Rattle.rx_grammar.specs.Trees.{Tree, numbers_of}
use Rattle.rx_util.specs.declared.search.MatchKind.{MatchKind}
use Rattle.rx_util.specs.declared.search.MatchKind.TheVariants as kinds
use Rattle.rx_util.specs.declared.captures.WhichCaptures.{WhichCaptures}
use Rattle.rx_util.specs.declared.captures.WhichCaptures.TheVariants as which
use Rattle.rx_util.specs.Captured.{place_in}
use Rattle.rx_util.specs.Groups.{GroupNames, Name, first_slot, further_groups, group_len, slot_place}
use Rattle.rx_walks.specs.Machines.{Outcome}
use Rattle.rx_walks.specs.Programs.{Notes, last_noted, slot_of}
use Rattle.rx_walks.specs.Finds.{Search}
use Rattle.rx_program.specs.Programs.{character_program}
use Rattle.rx_engine.specs.Engines.{AreGroupNamesOf, AreNotedOf}
use Rattle.rx_engine.proofs.CountLaws.{as_many}
use Rattle.rx_engine.proofs.GroupLaws.{group_count, noted_count}
use Rattle.rx_steps.specs.Searching.{answer_slots, slots_from}
use Rattle.rx_chunk.specs.Engines.{Engine, EngineFinds, FindsOfKind, IsEngine}
use Rattle.rx_chunk.specs.Owned.{IsSlotOf, OthersHoldNone}
use Rattle.rx_chunk.proofs.KindLaws.{is_best}
use Rattle.rx_chunk.proofs.FoundLaws.{best_known, notes_places, slot_told, some_out}
use Rattle.rx_chunk.proofs.OwnLaws.{Owns, OwnSlot, finds_own}

-- ---- slots of different patterns

owns_above : (slots p : ℕ) (trees : List Tree) (k slot : ℕ) → Owns slots p trees k slot → (slot ≡ 2 * k) ⊎ (slot ≡ 2 * k + 1) ⊎ (slots + 2 ≤ slot)
owns_above slots p [] k slot owns = absurd owns
owns_above slots p (tree ∷ trees) k slot (inl (is, inl e)) = inl (omega (arith, is, e))
owns_above slots p (tree ∷ trees) k slot (inl (is, inr (inl e))) = inr (inl (omega (arith, is, e)))
owns_above slots p (tree ∷ trees) k slot (inl (is, inr (inr inner))) = inr (inr inner.0)
owns_above slots p (tree ∷ trees) k slot (inr owns) = elim (owns_above (slots + 2 * length (numbers_of tree)) (p + 1) trees k slot owns) [
  | inl e ↦ inl e
  | inr (inl e) ↦ inr (inl e)
  | inr (inr above) ↦ inr (inr (omega (arith, above)))
]

-- those of a further group
record IsFurther (slots j i slot : ℕ) (all : GroupNames) (names : List (Option Name)) : Type 0 where
  there : slice_get all j ≡ Some names
  below : i < length names
  from : slots + 2 + 2 * (further_groups (take j all) + i) ≤ slot
  to : slot ≤ slots + 2 + 2 * (further_groups (take j all) + i) + 1

further_apart : (n slots p : ℕ) (trees : List Tree) (all : GroupNames) (j i k slot : ℕ) (names : List (Option Name)) → AreGroupNamesOf trees all → 2 * n ≤ slots + 2 → k < n → IsFurther slots j i slot all names → (p + j ≡ k → ⊥)
    → Owns slots p trees k slot → ⊥
further_apart n slots p [] all j i k slot names are room known further other owns = owns
further_apart n slots p (tree ∷ trees) [] j i k slot names are room known further other owns = are
further_apart n slots p (tree ∷ trees) (own ∷ all) zero i k slot names are room known further other (inl (is, o)) = other (omega (arith, is))
further_apart n slots p (tree ∷ trees) (own ∷ all) zero i k slot names are room known further other (inr owns) =
    let same : length own ≡ length names = ap length (same_Some own names further.there) in
    let count : length own ≡ length (numbers_of tree) = are.0.count in
    let low : slots + 2 + 2 * (0 + i) ≤ slot = further.from in
    let high : slot ≤ slots + 2 + 2 * (0 + i) + 1 = further.to in
    elim (owns_above (slots + 2 * length (numbers_of tree)) (p + 1) trees k slot owns) [
      | inl e ↦ omega (arith, e, low, room, known)
      | inr (inl e) ↦ omega (arith, e, low, room, known)
      | inr (inr above) ↦ omega (arith, above, high, further.below, same, count)
    ]
further_apart n slots p (tree ∷ trees) (own ∷ all) (suc j) i k slot names are room known further other owns =
    let sum : further_groups (take (suc j) (own ∷ all)) ≡ length own + further_groups (take j all) = sum_by-cons length own (take j all) in
    let low : slots + 2 + 2 * (length own + further_groups (take j all) + i) ≤ slot = omega (arith, further.from, sum) in
    let high : slot ≤ slots + 2 + 2 * (length own + further_groups (take j all) + i) + 1 = omega (arith, further.to, sum) in
    let count : length own ≡ length (numbers_of tree) = are.0.count in
    let again = further_apart n (slots + 2 * length (numbers_of tree)) (p + 1) trees all j i k slot names are.1 (omega (arith, room)) known
    (record { there = further.there; below = further.below; from = omega (arith, low, count); to = omega (arith, high, count) }) (λ e. other (omega (arith, e))) in
    by again low owns
  where
    by : (Owns (slots + 2 * length (numbers_of tree)) (p + 1) trees k slot → ⊥) → slots + 2 + 2 * (length own + further_groups (take j all) + i) ≤ slot → Owns slots p (tree ∷ trees) k slot → ⊥
    by again low (inl (is, inl e)) = omega (arith, is, e, low, room, known)
    by again low (inl (is, inr (inl e))) = omega (arith, is, e, low, room, known)
    by again low (inl (is, inr (inr inner))) = let count : length own ≡ length (numbers_of tree) = are.0.count in omega (arith, inner.1, low, count)
    by again low (inr owns) = again owns

-- ---- where the slots of a group are

record IsGroup (groups : GroupNames) (q g first : ℕ) : Type 0 where
  names : List (Option Name)
  there : slice_get groups q ≡ Some names
  known : g < length names + 1
  place : first ≡ slot_place groups q g

is_group : (groups : GroupNames) (q g first : ℕ) → first_slot groups q g ≡ Some first → IsGroup groups q g first
is_group groups q g first is = elim (cases_lt g (group_len groups q)) [
  | inl below ↦ by (slice_get groups q) refl below (same_Some first (slot_place groups q g) (sym is ∙ ap (λ b. cond b (Some (slot_place groups q g)) None) (lt-ltb g (group_len groups q) below)))
  | inr past ↦ absurd (none-some first (sym (ap (λ b. cond b (Some (slot_place groups q g)) None) (not_below past)) ∙ is))
]
  where
    not_below : group_len groups q ≤ g → nat_lt g (group_len groups q) ≡ false
    not_below past = grind (arith, nat_tests)

    by : (o : Option (List (Option Name))) → slice_get groups q ≡ o → g < group_len groups q → first ≡ slot_place groups q g → IsGroup groups q g first
    by None e below place = let none : group_len groups q ≡ 0 = ap (λ o. option_map_or (λ names. length names + 1) o 0) e in absurd (omega (arith, none, below))
    by (Some names) e below place =
        let len : group_len groups q ≡ length names + 1 = ap (λ o. option_map_or (λ names. length names + 1) o 0) e in
        record { names = names; there = e; known = omega (arith, len, below); place = place }

no_names : (m q : ℕ) (names : List (Option Name)) → slice_get (replicate m []) q ≡ Some names → names ≡ []
no_names zero q names is = absurd (none-some names is)
no_names (suc m) zero names is = sym (same_Some [] names is)
no_names (suc m) (suc q) names is = no_names m q names is

-- ---- so they are apart

module _ (trees : List Tree) (groups : GroupNames) (k q slot : ℕ) (known : k < length groups) (other : q ≡ k → ⊥) (owns : OwnSlot trees k slot) where
  abbrev IsOneOf : ℕ → Type 0
  IsOneOf first = (slot ≡ first) ⊎ (slot ≡ first + 1)

  whole_apart : length groups ≡ length trees → q < length groups → IsOneOf (2 * q) → ⊥
  whole_apart count lies one = elim (owns_above (2 * length trees - 2) 0 trees k slot owns) [
    | inl e ↦ elim one [
      | inl is ↦ other (omega (arith, e, is))
      | inr is ↦ omega (arith, e, is)
    ]
    | inr (inl e) ↦ elim one [
      | inl is ↦ omega (arith, e, is)
      | inr is ↦ other (omega (arith, e, is))
    ]
    | inr (inr above) ↦ elim one [
      | inl is ↦ omega (arith, above, is, lies, count, known)
      | inr is ↦ omega (arith, above, is, lies, count, known)
    ]
  ]

  group_apart : (g first : ℕ) → AreGroupNamesOf trees groups → IsGroup groups q g first → IsOneOf first → ⊥
  group_apart zero first are group one = whole_apart (group_count trees groups are) (slice_get_within groups q group.names group.there) (subst IsOneOf group.place one)
  group_apart (suc i) first are group one =
      let count : length groups ≡ length trees = group_count trees groups are in
      let place : first ≡ 2 * (length groups + further_groups (take q groups) + i) = group.place in
      further_apart (length groups) (2 * length trees - 2) 0 trees groups q i k slot group.names are (omega (arith, count, known)) known
      (record { there = group.there; below = omega (arith, group.known); from = low place count one; to = high place count one }) (λ e. other (omega (arith, e))) owns
    where
      low : first ≡ 2 * (length groups + further_groups (take q groups) + i) → length groups ≡ length trees → IsOneOf first → 2 * length trees - 2 + 2 + 2 * (further_groups (take q groups) + i) ≤ slot
      low place count (inl is) = omega (arith, place, count, is, known)
      low place count (inr is) = omega (arith, place, count, is, known)

      high : first ≡ 2 * (length groups + further_groups (take q groups) + i) → length groups ≡ length trees → IsOneOf first → slot ≤ 2 * length trees - 2 + 2 + 2 * (further_groups (take q groups) + i) + 1
      high place count (inl is) = omega (arith, place, count, is, known)
      high place count (inr is) = omega (arith, place, count, is, known)

  whole_group_apart : (m g first : ℕ) → groups ≡ replicate m [] → length groups ≡ length trees → IsGroup groups q g first → IsOneOf first → ⊥
  whole_group_apart m zero first is count group one = whole_apart count (slice_get_within groups q group.names group.there) (subst IsOneOf group.place one)
  whole_group_apart m (suc i) first is count group one =
      let none : group.names ≡ [] = no_names m q group.names (ap (λ xs. slice_get xs q) (sym is) ∙ group.there) in
      absurd (omega (arith, group.known, ap length none))

  slots_apart : (noted : WhichCaptures) → AreNotedOf noted trees groups → IsSlotOf groups q slot → ⊥
  slots_apart which.All are is = group_apart is.group is.first (subst (λ x. AreGroupNamesOf trees x) (sym are.noted) are.are_groups) (is_group groups q is.group is.first is.is_first) is.one_of_two
  slots_apart which.Implicit are is = whole_group_apart (length are.all_groups) is.group is.first are.noted (noted_count trees groups which.Implicit are) (is_group groups q is.group is.first is.is_first) is.one_of_two
  slots_apart which.None are is = whole_group_apart (length are.all_groups) is.group is.first are.noted (noted_count trees groups which.None are) (is_group groups q is.group is.first is.is_first) is.one_of_two

-- ---- what is noted

none_there : (P : ℕ → Type 0) (noted : List (ℕ × ℕ)) (slot : ℕ) → All (λ (x : ℕ × ℕ). P x.0) noted → (P slot → ⊥) → last_noted slot noted ≡ None
none_there P [] slot all not = refl
none_there P (x ∷ noted) slot all not =
    ap (λ b. cond b (Some x.1) (last_noted slot noted)) (ne_eqb slot x.0 (λ e. not (subst P (sym e) (All-head (λ (y : ℕ × ℕ). P y.0) x noted all))))
    ∙ none_there P noted slot (All-tail (λ (y : ℕ × ℕ). P y.0) x noted all) not

place_there : (n slot : ℕ) (notes : Notes) → slot_of notes slot ≡ None → place_in (slots_from 0 n notes) slot ≡ None
place_there n slot notes none = elim (cases_lt slot n) [
  | inl below ↦ let same : 0 + slot ≡ slot = omega arith in slot_told 0 n slot notes below ∙ ap (slot_of notes) same ∙ none
  | inr past ↦ beyond 0 n slot notes past
]
  where
    beyond : (first n slot : ℕ) (notes : Notes) → n ≤ slot → place_in (slots_from first n notes) slot ≡ None
    beyond first zero slot notes past = refl
    beyond first (suc n) zero notes past = absurd (omega (arith, past))
    beyond first (suc n) (suc slot) notes past = beyond (suc first) n slot notes (omega (arith, past))

-- the two slots of a pattern's group 0 are its own
owns_whole : (slots p : ℕ) (trees : List Tree) (k : ℕ) → p ≤ k → k < p + length trees → Owns slots p trees k (2 * k) × Owns slots p trees k (2 * k + 1)
owns_whole slots p [] k from to = absurd (omega (arith, from, to))
owns_whole slots p (tree ∷ trees) k from to = elim (cases_lt p k) [
  | inl further ↦
      let on = owns_whole (slots + 2 * length (numbers_of tree)) (p + 1) trees k (omega (arith, further)) (omega (arith, to)) in
      (inr on.0, inr on.1)
  | inr here ↦ (inl (omega (arith, from, here), inl (omega (arith, from, here))), inl (omega (arith, from, here), inr (inl (omega (arith, from, here)))))
]

-- all that is noted of what an engine finds is its pattern's own
module _ (e : Engine) (of_trees : IsEngine e) where
  abbrev NotesOwn : Outcome Notes → Type 0
  NotesOwn t = All (λ (x : ℕ × ℕ). OwnSlot of_trees.0 t.pattern x.0) t.notes.noted

  kind_own : (kind : MatchKind) (s : Search) (t : Outcome Notes) → FindsOfKind kind e.program s (Some t) → NotesOwn t
  kind_own kinds.LeftmostFirst s t finds = finds_own of_trees.0 e.program.line_terminator of_trees.1.well_formed is_word_char s (character_program e.program) t of_trees.1.program finds
  kind_own kinds.All s t finds =
      let best = is_best e.program s t finds in
      let a = best.best in
      let count : length e.groups ≡ length of_trees.0 = noted_count of_trees.0 e.groups e.which_captures of_trees.1.groups in
      let known : a.pattern < length of_trees.0 = omega (arith, best_known e of_trees s a best.finds, as_many e of_trees, count) in
      let own = owns_whole (2 * length of_trees.0 - 2) 0 of_trees.0 a.pattern (omega arith) (omega (arith, known)) in
      let P : ℕ × ℕ → Type 0 = λ x. OwnSlot of_trees.0 a.pattern x.0 in
      subst NotesOwn (sym best.is)
      (All-cons P (2 * a.pattern + 1, a.end) ((2 * a.pattern, a.start) ∷ []) own.1 (All-cons P (2 * a.pattern, a.start) [] own.0 (All-nil P)))

pub others_hold_none : OthersHoldNone
others_hold_none e s found slots of_trees answer q slot other is =
    let out = some_out answer.found found (sym answer.pattern_is) in
    let t = out.0 in
    let finds : EngineFinds e s (Some t) = subst (λ o. EngineFinds e s o) out.1 answer.finds in
    let known : found < length e.groups = subst (λ k. k < length e.groups) out.2 (notes_places e of_trees s t finds).1 in
    let own = kind_own e of_trees e.match_kind s t finds in
    let none = none_there (OwnSlot of_trees.0 t.pattern) t.notes.noted slot own
    (λ owns. slots_apart of_trees.0 e.groups found q slot known other (subst (λ k. OwnSlot of_trees.0 k slot) out.2 owns) e.which_captures of_trees.1.groups is) in
    ap (λ xs. place_in xs slot) (answer.slots_are ∙ ap (λ o. answer_slots (length slots) o) out.1) ∙ place_there (length slots) slot t.notes none
