-- All matches of a line, and of lines that follow each other, by offsets of the text.
use Rattle.std.proofs.Common.{◌≡◌, ℕ, ◌+◌, ◌<◌, ◌≤◌, inl, inr, List, [], ◌∷◌, ◌++◌, Option, None, Some, All, IsUtf8, length, map, slice_index_or, refl, sym, ap, subst, ◌∙◌, arith, append_assoc, append-nil}
use Rattle.std.specs.Prelude.{IfSome, option_map}
use Rattle.std.specs.Str.{IsCharBoundary}
use Rattle.std.proofs.lemmas.List.{map-append}
use Rattle.std.proofs.lemmas.List.Elements.{All-append, All-cons, All-head, All-map, All-nil, All-tail}
use Rattle.str_indices.specs.Text.{byte_len}
use Rattle.std.proofs.lemmas.Str.{IsCharBoundary-start}
use Rattle.regex_cursor.specs.Patterns.{FoundMatch, SpellsTree, Tree, search_from}
use Rattle.regex_cursor.specs.PatternLaws.{HasFinds, StandsAtBoundaries}
use Rattle.rope_search_reports.specs.LineGroups.{AddsGroupsOf, AddsGroupsOfLine, AreGroupsOfLines, LineMatchesFollow, LineReplacedIsText, joined, moved, moved_span}
use Rattle.rope_search_reports.specs.Matches.{groups_of}
use Rattle.rope_search_reports.specs.Position.{line_start, line_text, text_end}
use Rattle.rope_search_reports.specs.Replacement.{FollowEachOther, Groups, HasSpansIn, IsSpanIn, whole}
use Rattle.rope_search_reports.specs.Text.{IsText, bytes_of, line_count}
use Rattle.rope_search_reports.proofs.BoundaryLemmas.{at_column, own_scalars}
use Rattle.rope_search_reports.proofs.GroupLemmas.{StandsIn, follow, groups-stand, replaced-text}
use Rattle.rope_search_reports.proofs.LineLemmas.{lines-in-place}
use Rattle.rope_search_reports.proofs.MatchLemmas.{AllHaveFinds, Searched, Searched-start}
use Rattle.rope_search_reports.proofs.RowLemmas.{NextMatch, groups-are, last-groups, next-shown}
use Rattle.regex_cursor.specs.NextMatches.{TreeFindsNext}
use Rattle.rope_search_reports.proofs.TextPlaces.{places}

-- ---- matches that are added one by one

-- these are added so far
pub record HasAdded (tree : Tree) (content : List ℕ) (last : Option ℕ) (start : ℕ) (old new : List Groups) : Type 0 where
  pub own : List Groups
  pub sofar : Searched groups_of tree content last own
  pub spans : All (HasSpansIn content) own
  pub added : new ≡ old ++ map (moved start) own

pub added-none : (tree : Tree) (content : List ℕ) (start : ℕ) (old : List Groups) → HasFinds tree → HasAdded tree content None start old old
added-none tree content start old has = record {
  own = [];
  sofar = Searched-start groups_of tree content has;
  spans = All-nil (HasSpansIn content);
  added = sym (append-nil old);
}

pub added-more : (tree : Tree) (content : List ℕ) (last : Option ℕ) (span : ℕ × ℕ) (slots : List (Option ℕ)) (start : ℕ) (old new new' : List Groups) (item : Groups) → HasFinds tree
    → (next : NextMatch tree content last span slots) → item ≡ groups_of next.t → HasSpansIn content item → new' ≡ new ++ moved start item ∷ []
    → HasAdded tree content last start old new → HasAdded tree content (Some span.1) start old new'
added-more tree content last span slots start old new new' item has next is stand more so = record {
  own = so.own ++ item ∷ [];
  sofar = next-shown groups_of tree content last span slots so.own item has next is so.sofar;
  spans = All-append (HasSpansIn content) so.own (item ∷ []) so.spans (All-cons (HasSpansIn content) item [] stand (All-nil (HasSpansIn content)));
  added = more ∙ ap (λ l. l ++ moved start item ∷ []) so.added ∙ append_assoc old (map (moved start) so.own) (moved start item ∷ [])
      ∙ ap (λ l. old ++ l) (sym (map-append (moved start) so.own (item ∷ [])));
}

pub added-all : (tree : Tree) (content : List ℕ) (last : Option ℕ) (start : ℕ) (old new : List Groups) → HasFinds tree → TreeFindsNext tree content last None
    → HasAdded tree content last start old new → AddsGroupsOf tree content start old new
added-all tree content last start old new has none so = record {
  own = so.own;
  are = last-groups tree content last so.own has none so.sofar;
  spans = so.spans;
  added = so.added;
}

-- ---- in the text of the line

module _ (text : List ℕ) (scalars : IsText text) (line : ℕ) (inside : line < line_count text) where
  abbrev own : List ℕ
  own = line_text text line

  abbrev start : ℕ
  start = line_start text line

  boundary-moved : (i : ℕ) → IsCharBoundary (bytes_of own) i → IsCharBoundary (bytes_of text) (start + i)
  boundary-moved i boundary = (at_column places text scalars line inside i boundary).boundary

  span-moved : (group : Option (ℕ × ℕ)) → IfSome group (IsSpanIn (bytes_of own)) → IfSome (option_map (moved_span start) group) (IsSpanIn (bytes_of text))
  span-moved None is = tt
  span-moved (Some span) is = record {
    ordered = omega (arith, is.ordered);
    starts = boundary-moved span.0 is.starts;
    stops = boundary-moved span.1 is.stops;
  }

  spans-moved : (groups : Groups) → HasSpansIn (bytes_of own) groups → HasSpansIn (bytes_of text) (moved start groups)
  spans-moved groups is =
      All-map (λ group. IfSome group (IsSpanIn (bytes_of text))) (option_map (moved_span start)) groups
      (λ k d low. span-moved (slice_index_or groups k d) (is k d low))

  all-moved : (list : List Groups) → All (HasSpansIn (bytes_of own)) list → All (HasSpansIn (bytes_of text)) (map (moved start) list)
  all-moved list is = All-map (HasSpansIn (bytes_of text)) (moved start) list (λ k d low. spans-moved (slice_index_or list k d) (is k d low))

  -- what a search of the line adds
  pub adds-line : (pattern : List ℕ) (tree : Tree) (old new : List Groups) → SpellsTree pattern tree → AddsGroupsOf tree (bytes_of own) start old new
      → AddsGroupsOfLine text pattern line old new
  adds-line pattern tree old new spells adds = record {
    groups = map (moved start) adds.own;
    are = record {
      inside = inside;
      own = adds.own;
      are = groups-are pattern (bytes_of own) tree adds.own spells adds.are;
      moved_are = refl;
    };
    spans = all-moved adds.own adds.spans;
    added = adds.added;
  }

-- ---- they follow each other

sooner : (content : List ℕ) (at at' : ℕ) (matches : List Groups) → at ≤ at' → FollowEachOther content at' matches → FollowEachOther content at matches
sooner content at at' [] low follow = tt
sooner content at at' (match ∷ matches) low follow = (omega (arith, low, follow.0), follow.1, follow.2, follow.3, follow.4)

module _ (text : List ℕ) (scalars : IsText text) (line : ℕ) (inside : line < line_count text) where
  -- those of the line, and others from its end on
  follow-moved : (at : ℕ) (ms : List FoundMatch) (others : List Groups) → at ≤ byte_len (line_text text line) → FollowEachOther (bytes_of (line_text text line)) at (map groups_of ms)
      → FollowEachOther (bytes_of text) (text_end text line) others
      → FollowEachOther (bytes_of text) (line_start text line + at) (map (moved (line_start text line)) (map groups_of ms) ++ others)
  follow-moved at [] others low own behind = sooner (bytes_of text) (line_start text line + at) (text_end text line) others (omega (arith, low)) behind
  follow-moved at (m ∷ ms) others low own behind = (
    omega (arith, own.0),
    omega (arith, own.1),
    boundary-moved text scalars line inside (whole (groups_of m)).0 own.2,
    boundary-moved text scalars line inside (whole (groups_of m)).1 own.3,
    follow-moved (whole (groups_of m)).1 ms others own.3.0 own.4 behind,
  )

  -- the next line starts behind this one's text
  next-behind : line + 1 < line_count text → text_end text line ≤ line_start text (line + 1)
  next-behind more = elim (lines-in-place text line inside).ended [
    | inl is_last ↦ absurd (omega (arith, more, is_last.last))
    | inr broken ↦ omega (arith, broken.next)
  ]

lines-follow : AllHaveFinds → (text pattern : List ℕ) → IsText text → (line at : ℕ) (lists : List (List Groups)) → (line < line_count text → at ≤ line_start text line)
    → AreGroupsOfLines text pattern line lists → FollowEachOther (bytes_of text) at (joined lists)
lines-follow finds text pattern scalars line at [] behind are = tt
lines-follow finds text pattern scalars line at (groups ∷ others) behind are =
    let first = are.0 in
    let inside = first.inside in
    let content = bytes_of (line_text text line) in
    let ms = first.are.matches in
    let utf8 : IsUtf8 content = (line_text text line, (own_scalars places text scalars line inside, refl)) in
    let own = follow first.are.are.tree content ms (finds first.are.are.tree) utf8 first.are.are.are in
    let later = lines-follow finds text pattern scalars (line + 1) (text_end text line) others (next-behind text scalars line inside) are.1 in
    let all = follow-moved text scalars line inside 0 ms (joined others) (omega arith) own later in
    let same : map (moved (line_start text line)) (map groups_of ms) ≡ groups = ap (map (moved (line_start text line))) (sym first.are.groups_are) ∙ sym first.moved_are in
    sooner (bytes_of text) at (line_start text line + 0) (groups ++ joined others) (omega (arith, behind inside))
    (subst (λ l. FollowEachOther (bytes_of text) (line_start text line + 0) (l ++ joined others)) same all)

pub line-matches-follow : AllHaveFinds → LineMatchesFollow
line-matches-follow finds text pattern line lists scalars are = lines-follow finds text pattern scalars line 0 lists (λ inside. omega arith) are

-- ---- what takes their places is a text

module _ (text : List ℕ) (scalars : IsText text) (line : ℕ) (inside : line < line_count text) where
  stands-moved : (group : Option (ℕ × ℕ)) → StandsIn (bytes_of (line_text text line)) group → StandsIn (bytes_of text) (option_map (moved_span (line_start text line)) group)
  stands-moved None stands = tt
  stands-moved (Some span) stands = (boundary-moved text scalars line inside span.0 stands.0, boundary-moved text scalars line inside span.1 stands.1)

  all-stand : (ms : List FoundMatch) → All (StandsAtBoundaries (bytes_of (line_text text line))) ms
      → All (λ groups. All (StandsIn (bytes_of text)) groups) (map (moved (line_start text line)) (map groups_of ms))
  all-stand [] stand = All-nil (λ groups. All (StandsIn (bytes_of text)) groups)
  all-stand (m ∷ ms) stand =
      let content = bytes_of (line_text text line) in
      let start = line_start text line in
      let own = groups-stand content m (All-head (StandsAtBoundaries content) m ms stand) in
      All-cons (λ groups. All (StandsIn (bytes_of text)) groups) (moved start (groups_of m)) (map (moved start) (map groups_of ms))
      (All-map (StandsIn (bytes_of text)) (option_map (moved_span start)) (groups_of m) (λ k d low. stands-moved (slice_index_or (groups_of m) k d) (own k d low)))
      (all-stand ms (All-tail (StandsAtBoundaries content) m ms stand))

lines-stand : AllHaveFinds → (text pattern : List ℕ) → IsText text → (line : ℕ) (lists : List (List Groups)) → AreGroupsOfLines text pattern line lists
    → All (λ groups. All (StandsIn (bytes_of text)) groups) (joined lists)
lines-stand finds text pattern scalars line [] are = All-nil (λ groups. All (StandsIn (bytes_of text)) groups)
lines-stand finds text pattern scalars line (groups ∷ others) are =
    let P : Groups → Type 0 = λ groups. All (StandsIn (bytes_of text)) groups in
    let first = are.0 in
    let inside = first.inside in
    let own = line_text text line in
    let utf8 : IsUtf8 (bytes_of own) = (own, (own_scalars places text scalars line inside, refl)) in
    let ms = first.are.matches in
    let at = (finds first.are.are.tree).list_at_boundaries (search_from (bytes_of own) 0) ms utf8 refl first.are.are.are in
    let same : map (moved (line_start text line)) (map groups_of ms) ≡ groups = ap (map (moved (line_start text line))) (sym first.are.groups_are) ∙ sym first.moved_are in
    All-append P groups (joined others) (subst (All P) same (all-stand text scalars line inside ms at)) (lines-stand finds text pattern scalars (line + 1) others are.1)

pub line-replaced-is : AllHaveFinds → LineReplacedIsText
line-replaced-is finds text pattern template line lists scalars is are =
    let utf8 : IsUtf8 (bytes_of text) = (text, (scalars, refl)) in
    replaced-text (bytes_of text) template 0 (joined lists) utf8 is (IsCharBoundary-start (bytes_of text) utf8)
    (line-matches-follow finds text pattern line lists scalars are) (lines-stand finds text pattern scalars line lists are)

-- ---- they fit

pub fits-moved : (content : List ℕ) (start : ℕ) (group : Option (ℕ × ℕ)) → IfSome group (IsSpanIn content) → start + length content < 0x1_0000_0000_0000_0000
    → IfSome group (λ span. (start + span.0 < 0x1_0000_0000_0000_0000) × (start + span.1 < 0x1_0000_0000_0000_0000))
fits-moved content start None is fits = tt
fits-moved content start (Some span) is fits = (omega (arith, is.starts.0, fits), omega (arith, is.stops.0, fits))
