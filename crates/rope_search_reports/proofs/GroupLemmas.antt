-- The groups of all matches in a content: that there is one list of them, how they stand, and that
-- what takes the matches' places is a text.
use Rattle.std.proofs.Common.{◌≡◌, ℕ, suc, ◌+◌, ◌-◌, ◌*◌, ◌≤◌, Bool, true, false, List, [], ◌∷◌, ◌++◌, Option, None, Some, length, map, take, drop, slice_index_or, chars, refl, sym, ap, ap₂, subst, ◌∙◌, inl, inr, All, arith}
use Rattle.std.specs.Prelude.{IfSome, ◌==◌, ◌&&◌, if◌then◌else◌}
use Rattle.std.specs.List.{AllPairs, range_with_len}
use Rattle.std.specs.Str.{IsUtf8, IsCharBoundary}
use Rattle.std.proofs.lemmas.Bool.{and_parts, and_from, cases_lt}
use Rattle.std.proofs.lemmas.List.{length-map, get_or_past}
use Rattle.std.proofs.lemmas.List.Elements.{All-cons, All-head, All-tail, All-map}
use Rattle.std.proofs.lemmas.Str.{IsUtf8-between, IsUtf8-drop, IsCharBoundary-start, chars-nil, scalars-chars}
use Rattle.regex_cursor.specs.Patterns.{Tree, FoundMatch, TreeMatches, search_from, slot_of, start_of, end_of}
use Rattle.regex_cursor.specs.PatternLaws.{HasFinds, HasNotedGroups, IsNotedWhole, noted, not_noted, SpellsOneTree, StandsAtBoundaries}
use Rattle.rope_search_reports.specs.Text.{IsText, bytes_of}
use Rattle.rope_search_reports.specs.Pattern.{span_of}
use Rattle.rope_search_reports.specs.Matches.{both, group_of, groups_of}
use Rattle.rope_search_reports.specs.Replacement.{Groups, whole, alone, between, text_of_span, group_text, is_digit, expand, replaced, FollowEachOther, IsSpanIn, HasSpansIn, AreMatchesIn}
use Rattle.rope_search_reports.specs.Laws.{HasOneListOfGroups, HasGroups, MatchesAreFew, GroupsFollowEachOther, ReplacedIsText}
use Rattle.rope_search_reports.proofs.MatchLemmas.{AllHaveFinds, AllNote}
use Rattle.rope_search_reports.proofs.PlaceLemmas.{scalars-joined}
use Rattle.rope_search_reports.proofs.ReportLaws.{matches-one}

-- ---- there is one list of them

pub groups-one : SpellsOneTree → AllHaveFinds → HasOneListOfGroups
groups-one trees finds pattern content groups groups' one other =
    one.groups_are ∙ ap (map groups_of) (matches-one trees finds pattern content one.matches other.matches one.are other.are) ∙ sym other.groups_are

pub has-groups : AllHaveFinds → HasGroups
has-groups finds pattern content is =
    let list = (finds is.0).has_list (search_from content 0) in (
      map groups_of list.0,
      record { matches = list.0; are = record { tree = is.0; spells = is.1.spells; are = list.1 }; groups_are = refl },
    )

pub groups-few : AllHaveFinds → MatchesAreFew
groups-few finds pattern content groups is =
    let few = ((finds is.are.tree).rise (search_from content 0) is.matches is.are.are).few in
    omega (arith, few, ap length is.groups_are, length-map is.matches groups_of)

-- ---- they follow each other

pairs-head : {A : Type 0} (R : A → A → Type 0) (a : A) (others : List A) → AllPairs R (a ∷ others) → All (R a) others
pairs-head R a others apart k d inside = apart 0 (suc k) d (omega arith) (omega arith)

pairs-tail : {A : Type 0} (R : A → A → Type 0) (a : A) (others : List A) → AllPairs R (a ∷ others) → AllPairs R others
pairs-tail R a others apart i j d low inside = apart (suc i) (suc j) d (omega arith) (omega arith)

-- each of them starts at this place or behind it
follow-from : (content : List ℕ) (at : ℕ) (ms : List FoundMatch) → All (λ t. at ≤ start_of t) ms → All (λ t. start_of t ≤ end_of t) ms
    → AllPairs (λ a b. end_of a ≤ start_of b) ms → All (StandsAtBoundaries content) ms → FollowEachOther content at (map groups_of ms)
follow-from content at [] behind ordered apart stand = tt
follow-from content at (t ∷ ts) behind ordered apart stand =
    let here = All-head (StandsAtBoundaries content) t ts stand in (
      All-head (λ m. at ≤ start_of m) t ts behind,
      All-head (λ m. start_of m ≤ end_of m) t ts ordered,
      here.start,
      here.end,
      follow-from content (end_of t) ts (pairs-head (λ a b. end_of a ≤ start_of b) t ts apart) (All-tail (λ m. start_of m ≤ end_of m) t ts ordered)
          (pairs-tail (λ a b. end_of a ≤ start_of b) t ts apart) (All-tail (StandsAtBoundaries content) t ts stand),
    )

pub follow : (tree : Tree) (content : List ℕ) (ms : List FoundMatch) → HasFinds tree → IsUtf8 content → TreeMatches tree content ms → FollowEachOther content 0 (map groups_of ms)
follow tree content ms has utf8 are =
    let order = has.rise (search_from content 0) ms are in
    follow-from content 0 ms (λ k d inside. omega arith) (λ k d inside. (order.inside k d inside).1) order.apart (has.list_at_boundaries (search_from content 0) ms utf8 refl are)

pub groups-follow : AllHaveFinds → GroupsFollowEachOther
groups-follow finds text pattern groups scalars is =
    subst (FollowEachOther (bytes_of text) 0) (sym is.groups_are)
    (follow is.are.tree (bytes_of text) is.matches (finds is.are.tree) (text, (scalars, refl)) is.are.are)

-- ---- the spans of the groups

span-in : (content : List ℕ) (t : FoundMatch) (k : ℕ) → IsNotedWhole t.notes (2 * k) → StandsAtBoundaries content t → IfSome (group_of t k) (IsSpanIn content)
span-in content t k has stands = elim has [
  | not_noted none none' ↦ subst (λ o. IfSome o (IsSpanIn content)) (sym (ap₂ both none none')) tt
  | noted {start = start} {end = end} starts stops ordered ↦
      subst (λ o. IfSome o (IsSpanIn content)) (sym (ap₂ both starts stops))
      (record { ordered = ordered; starts = stands.slots (2 * k) start starts; stops = stands.slots (2 * k + 1) end stops })
]

-- those of one match
pub spans-in : (content : List ℕ) (t : FoundMatch) → start_of t ≤ end_of t → HasNotedGroups t → StandsAtBoundaries content t → HasSpansIn content (groups_of t)
spans-in content t ordered has stands =
    let P : Option (ℕ × ℕ) → Type 0 = λ group. IfSome group (IsSpanIn content) in
    All-cons P (Some (span_of t)) (map (group_of t) (range_with_len 1 9)) (record { ordered = ordered; starts = stands.start; stops = stands.end })
    (All-map P (group_of t) (range_with_len 1 9) (λ i d inside. span-in content t (slice_index_or (range_with_len 1 9) i d) (has.groups (slice_index_or (range_with_len 1 9) i d)) stands))

all-spans : (tree : Tree) (content : List ℕ) (ms : List FoundMatch) → HasFinds tree → AllNote tree content → IsUtf8 content → TreeMatches tree content ms
    → All (HasSpansIn content) (map groups_of ms)
all-spans tree content ms has notes utf8 are =
    let order = has.rise (search_from content 0) ms are in
    let stand = has.list_at_boundaries (search_from content 0) ms utf8 refl are in
    let found = has.found (search_from content 0) ms are in
    All-map (HasSpansIn content) groups_of ms
    (λ k d inside. spans-in content (slice_index_or ms k d) (order.inside k d inside).1 (notes (found k d inside).0 (slice_index_or ms k d) (found k d inside).2) (stand k d inside))

pub matches-in : (tree : Tree) (content : List ℕ) (ms : List FoundMatch) → HasFinds tree → AllNote tree content → IsUtf8 content → TreeMatches tree content ms
    → AreMatchesIn content (map groups_of ms)
matches-in tree content ms has notes utf8 are = record { follow = follow tree content ms has utf8 are; spans = all-spans tree content ms has notes utf8 are }

-- and so they do by their spans alone
pub spans-alone : (tree : Tree) (content : List ℕ) (ms : List FoundMatch) → HasFinds tree → IsUtf8 content → TreeMatches tree content ms
    → AreMatchesIn content (map alone (map span_of ms))
spans-alone tree content ms has utf8 are =
    let all = follow tree content ms has utf8 are in
    record { follow = each 0 ms all; spans = own 0 ms all }
  where
    each : (at : ℕ) (ms : List FoundMatch) → FollowEachOther content at (map groups_of ms) → FollowEachOther content at (map alone (map span_of ms))
    each at [] f = tt
    each at (m ∷ ms) f = (f.0, f.1, f.2, f.3, each (end_of m) ms f.4)

    own : (at : ℕ) (ms : List FoundMatch) → FollowEachOther content at (map groups_of ms) → All (HasSpansIn content) (map alone (map span_of ms))
    own at [] f = λ k d low. absurd (omega arith)
    own at (m ∷ ms) f =
        All-cons (HasSpansIn content) (alone (span_of m)) (map alone (map span_of ms))
        (All-cons (λ group. IfSome group (IsSpanIn content)) (Some (span_of m)) [] (record { ordered = f.1; starts = f.2; stops = f.3 }) (λ k d low. absurd (omega arith)))
        (own (end_of m) ms f.4)

-- ---- what takes their places is a text

-- both places of a group are boundaries, whichever of them is the first
abbrev pub StandsIn : List ℕ → Option (ℕ × ℕ) → Type 0
StandsIn content group = IfSome group (λ span. IsCharBoundary content span.0 × IsCharBoundary content span.1)

stands-in : (content : List ℕ) (t : FoundMatch) (k : ℕ) → StandsAtBoundaries content t → StandsIn content (group_of t k)
stands-in content t k stands = by (slot_of t.notes (2 * k)) (slot_of t.notes (2 * k + 1)) refl refl
  where
    by : (a b : Option ℕ) → slot_of t.notes (2 * k) ≡ a → slot_of t.notes (2 * k + 1) ≡ b → StandsIn content (both a b)
    by None b starts stops = tt
    by (Some start) None starts stops = tt
    by (Some start) (Some end) starts stops = (stands.slots (2 * k) start starts, stands.slots (2 * k + 1) end stops)

pub groups-stand : (content : List ℕ) (t : FoundMatch) → StandsAtBoundaries content t → All (StandsIn content) (groups_of t)
groups-stand content t stands =
    All-cons (StandsIn content) (Some (span_of t)) (map (group_of t) (range_with_len 1 9)) (stands.start, stands.end)
    (All-map (StandsIn content) (group_of t) (range_with_len 1 9) (λ i d inside. stands-in content t (slice_index_or (range_with_len 1 9) i d) stands))

between-text : (content : List ℕ) (start end : ℕ) → IsUtf8 content → IsCharBoundary content start → IsCharBoundary content end → IsText (between content start end)
between-text content start end utf8 starts stops = elim (cases_lt end start) [
  | inl turned ↦
      let none : end - start ≡ 0 = omega (arith, turned) in
      subst (λ n. IsText (chars (take n (drop start content)))) (sym none) (subst IsText (sym chars-nil) refl)
  | inr ordered ↦
      scalars-chars (take (end - start) (drop start content)) (IsUtf8-between content start end utf8 (omega (arith, ordered)) starts stops)
]

span-text : (content : List ℕ) (group : Option (ℕ × ℕ)) → IsUtf8 content → StandsIn content group → IsText (text_of_span content group)
span-text content None utf8 stands = refl
span-text content (Some span) utf8 stands = between-text content span.0 span.1 utf8 stands.0 stands.1

-- the text of a group, also of one that isn't there
group-text : (content : List ℕ) (groups : Groups) (number : ℕ) → IsUtf8 content → All (StandsIn content) groups → IsText (group_text content groups number)
group-text content groups number utf8 stand = elim (cases_lt number (length groups)) [
  | inl inside ↦ span-text content (slice_index_or groups number None) utf8 (stand number None inside)
  | inr past ↦ subst (λ group. IsText (text_of_span content group)) (sym (get_or_past groups number None (omega (arith, past)))) refl
]

either-text : (test : Bool) (one other : List ℕ) → IsText one → IsText other → IsText (if test then one else other)
either-text true one other is is' = is
either-text false one other is is' = is'

expand-text : (content : List ℕ) (groups : Groups) (template : List ℕ) → IsUtf8 content → All (StandsIn content) groups → IsText template → IsText (expand content groups template)
expand-text content groups [] utf8 stand is = refl
expand-text content groups (c ∷ []) utf8 stand is = is
expand-text content groups (c ∷ d ∷ rest) utf8 stand is =
    let parts = and_parts _ _ is in
    let further = and_parts _ _ parts.1 in
    let later = expand-text content groups rest utf8 stand further.1 in
    let itself : IsText (c ∷ expand content groups (d ∷ rest)) = and_from _ _ parts.0 (expand-text content groups (d ∷ rest) utf8 stand parts.1) in
    let number = d - 48 in
    let grouped = scalars-joined (group_text content groups number) (expand content groups rest) (group-text content groups number utf8 stand) later in
    either-text ((c == 36) && (d == 36)) (36 ∷ expand content groups rest)
    (if (c == 36) && is_digit d then group_text content groups number ++ expand content groups rest else c ∷ expand content groups (d ∷ rest))
    later
    (either-text ((c == 36) && is_digit d) (group_text content groups number ++ expand content groups rest) (c ∷ expand content groups (d ∷ rest)) grouped itself)

pub replaced-text : (content template : List ℕ) (at : ℕ) (matches : List Groups) → IsUtf8 content → IsText template → IsCharBoundary content at → FollowEachOther content at matches
    → All (λ groups. All (StandsIn content) groups) matches → IsText (replaced content template at matches)
replaced-text content template at [] utf8 is here follow stand = scalars-chars (drop at content) (IsUtf8-drop content at utf8 here)
replaced-text content template at (match ∷ matches) utf8 is here follow stand =
    let own = All-head (λ groups. All (StandsIn content) groups) match matches stand in
    let others = All-tail (λ groups. All (StandsIn content) groups) match matches stand in
    let gap = between content at (whole match).0 in
    let inserted = expand content match template in
    scalars-joined (gap ++ inserted) (replaced content template (whole match).1 matches)
    (scalars-joined gap inserted (between-text content at (whole match).0 utf8 here follow.2) (expand-text content match template utf8 own is))
    (replaced-text content template (whole match).1 matches utf8 is follow.3 follow.4 others)

pub replaced-is : AllHaveFinds → ReplacedIsText
replaced-is finds text pattern template groups scalars is are =
    let content = bytes_of text in
    let utf8 : IsUtf8 content = (text, (scalars, refl)) in
    let stand = (finds are.are.tree).list_at_boundaries (search_from content 0) are.matches utf8 refl are.are.are in
    let P : Groups → Type 0 = λ groups. All (StandsIn content) groups in
    let all : All P groups = subst (All P) (sym are.groups_are) (All-map P groups_of are.matches (λ k d inside. groups-stand content (slice_index_or are.matches k d) (stand k d inside))) in
    replaced-text content template 0 groups utf8 is (IsCharBoundary-start content utf8) (groups-follow finds text pattern groups scalars are) all
