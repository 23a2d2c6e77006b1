-- The first groups of matches.
use Rattle.std.proofs.Common.{◌≡◌, ℕ, zero, suc, ◌+◌, ◌-◌, ◌*◌, ◌<◌, ◌≤◌, List, [], ◌∷◌, ◌++◌, Option, None, Some, IsUtf8, length, map, take, replicate, refl, sym, ap, ap₂, subst, ◌∙◌, arith}
use Rattle.std.specs.Prelude.{IfSome}
use Rattle.std.specs.List.{range_with_len}
use Rattle.std.specs.Str.{IsCharBoundary}
use Rattle.std.proofs.lemmas.List.{get_or-take}
use Rattle.std.proofs.lemmas.List.Elements.{All-append, All-map, All-replicate, All-take}
use Rattle.regex_cursor.proofs.LinearLaws.{first_slots}
use Rattle.regex_cursor.specs.NextMatches.{TreeFindsNext}
use Rattle.regex_cursor.specs.Patterns.{FoundMatch, SpellsTree, Tree, answer_slots}
use Rattle.regex_cursor.specs.PatternLaws.{HasFinds}
use Rattle.rope_search_changes.specs.FirstGroups.{first_groups}
use Rattle.rope_search_reports.specs.Finders.{AreFirstGroupsOf, group_told}
use Rattle.rope_search_reports.specs.Matches.{AreFirstGroups, AreGroups, both, group_of, groups_of}
use Rattle.rope_search_reports.specs.Replacement.{AreMatchesIn, FollowEachOther, Groups, HasSpansIn, IsSpanIn, whole}
use Rattle.rope_search_reports.proofs.GroupLemmas.{matches-in}
use Rattle.rope_search_reports.proofs.MatchLemmas.{AllNote, Searched, comes-from}
use Rattle.rope_search_reports.proofs.RowLemmas.{NextMatch, groups-are, last-groups}

-- ---- of one match

-- they are read from their slots
first-told : (slots : List (Option ℕ)) (count k : ℕ) → k < count → group_told (take (2 * count) slots) k ≡ group_told slots k
first-told slots count k below =
    ap₂ both (get_or-take (2 * count) slots (2 * k) None (omega (arith, below))) (get_or-take (2 * count) slots (2 * k + 1) None (omega (arith, below)))

take-alike : {A : Type 0} (f g : ℕ → A) (n first count : ℕ) → ((k : ℕ) → k < first + count → f k ≡ g k)
    → take count (map f (range_with_len first n)) ≡ take count (map g (range_with_len first n))
take-alike f g n first zero same = refl
take-alike f g zero first (suc count) same = refl
take-alike f g (suc n) first (suc count) same =
    ap₂ (λ x xs. x ∷ xs) (same first (omega arith)) (take-alike f g n (first + 1) count (λ k low. same k (omega (arith, low))))

pub first-groups-told : (tree : Tree) (content : List ℕ) (last : Option ℕ) (span : ℕ × ℕ) (slots : List (Option ℕ)) (count : ℕ) → length slots ≡ 2 * count → count ≤ 10
    → AllNote tree content → (next : NextMatch tree content last span slots)
    → first_groups count (map (group_told slots) (range_with_len 0 10)) ≡ first_groups count (groups_of next.t)
first-groups-told tree content last span slots count len few notes next =
    let from = comes-from tree content last next.t next.is in
    let has = (notes from.0 next.t from.1).whole in
    let all = answer_slots 20 (Some next.t) in
    let answer : ℕ → List (Option ℕ) = λ n. answer_slots n (Some next.t) in
    let are : slots ≡ take (2 * count) all =
    next.slots_are ∙ ap answer len ∙ sym (first_slots (2 * count) 0 20 next.t.notes (omega (arith, few))) in
    let same : take count (map (group_told (take (2 * count) all)) (range_with_len 0 10)) ≡ take count (map (group_told all) (range_with_len 0 10)) =
    take-alike (group_told (take (2 * count) all)) (group_told all) 10 0 count (λ k low. first-told all count k (omega (arith, low))) in
    let ten : map (group_told all) (range_with_len 0 10) ≡ groups_of next.t =
    ap (λ g. g ∷ map (group_of next.t) (range_with_len 1 9)) (ap₂ both has.start has.end) in
    ap (λ s. first_groups count (map (group_told s) (range_with_len 0 10))) are
    ∙ ap (λ gs. gs ++ replicate (10 - count) None) same
    ∙ ap (first_groups count) ten

whole-none : (n : ℕ) → whole (replicate n None) ≡ (0, 0)
whole-none zero = refl
whole-none (suc n) = refl

whole-first : (count : ℕ) (groups : Groups) → 1 ≤ count → whole (first_groups count groups) ≡ whole groups
whole-first zero groups some = absurd (omega (arith, some))
whole-first (suc n) [] some = whole-none (10 - suc n)
whole-first (suc n) (None ∷ others) some = refl
whole-first (suc n) (Some span ∷ others) some = refl

spans-first : (content : List ℕ) (count : ℕ) (groups : Groups) → HasSpansIn content groups → HasSpansIn content (first_groups count groups)
spans-first content count groups spans =
    let P : Option (ℕ × ℕ) → Type 0 = λ group. IfSome group (IsSpanIn content) in
    All-append P (take count groups) (replicate (10 - count) None) (All-take P count groups spans) (All-replicate P (10 - count) None tt)

-- ---- of all matches

-- what is shown of them
pub first-groups-are : (count : ℕ) (tree : Tree) (content : List ℕ) (last : Option ℕ) (groups : List Groups) → HasFinds tree → TreeFindsNext tree content last None
    → Searched (λ t. first_groups count (groups_of t)) tree content last groups → AreFirstGroupsOf count tree content groups
first-groups-are count tree content last groups has none sofar = record {
  all = map groups_of sofar.matches;
  are = last-groups tree content last (map groups_of sofar.matches) has none (record { matches = sofar.matches; first = sofar.first; last_is = sofar.last_is; shown = refl });
  first = sofar.shown ∙ map-twice sofar.matches;
}
  where
    map-twice : (ms : List FoundMatch) → map (λ t. first_groups count (groups_of t)) ms ≡ map (first_groups count) (map groups_of ms)
    map-twice [] = refl
    map-twice (m ∷ ms) = ap (λ l. first_groups count (groups_of m) ∷ l) (map-twice ms)

-- they are matches in a text
follow-first : (content : List ℕ) (count at : ℕ) (matches : List Groups) → 1 ≤ count → FollowEachOther content at matches
    → FollowEachOther content at (map (first_groups count) matches)
follow-first content count at [] some follow = tt
follow-first content count at (m ∷ ms) some follow =
    subst (λ (w : ℕ × ℕ). (at ≤ w.0) × (w.0 ≤ w.1) × IsCharBoundary content w.0 × IsCharBoundary content w.1 × FollowEachOther content w.1 (map (first_groups count) ms))
    (sym (whole-first count m some)) (follow.0, follow.1, follow.2, follow.3, follow-first content count (whole m).1 ms some follow.4)

pub first-groups-stand : (count : ℕ) (tree : Tree) (content : List ℕ) (groups : List Groups) → 1 ≤ count → HasFinds tree → AllNote tree content → IsUtf8 content
    → AreFirstGroupsOf count tree content groups → AreMatchesIn content groups
first-groups-stand count tree content groups some has notes utf8 is =
    let all : AreMatchesIn content is.all = subst (AreMatchesIn content) (sym is.are.shown) (matches-in tree content is.are.matches has notes utf8 is.are.are) in
    subst (AreMatchesIn content) (sym is.first)
    (record {
      follow = follow-first content count 0 is.all some all.follow;
      spans = All-map (HasSpansIn content) (first_groups count) is.all (λ k d low. spans-first content count _ (all.spans k d low));
    })

-- those of a pattern's tree are the pattern's
pub first-of-pattern : (count : ℕ) (pattern content : List ℕ) (tree : Tree) (groups : List Groups) → SpellsTree pattern tree
    → AreFirstGroupsOf count tree content groups → AreFirstGroups count pattern content groups
first-of-pattern count pattern content tree groups spells is = record {
  all = is.all;
  are = groups-are pattern content tree is.all spells is.are;
  first = is.first;
}

-- ten are all
pub ten-are-all : (pattern content : List ℕ) (groups : List Groups) → AreFirstGroups 10 pattern content groups → AreGroups pattern content groups
ten-are-all pattern content groups is = record {
  matches = is.are.matches;
  are = is.are.are;
  groups_are = is.first ∙ ap (map (first_groups 10)) is.are.groups_are ∙ all is.are.matches;
}
  where
    all : (ms : List FoundMatch) → map (first_groups 10) (map groups_of ms) ≡ map groups_of ms
    all [] = refl
    all (m ∷ ms) = ap (λ l. groups_of m ∷ l) (all ms)
