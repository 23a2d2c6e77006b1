-- The search of a haystack, match by match.
use Rattle.std.proofs.Common.{◌≡◌, ℕ, ◌<◌, List, [], ◌∷◌, ◌++◌, Option, None, Some, length, map, refl, sym, ap, ap₂, subst, ◌∙◌}
use Rattle.std.specs.List.{range_with_len}
use Rattle.std.specs.Str.{IsUtf8}
use Rattle.std.proofs.lemmas.Simd.{map-map}
use Rattle.regex_cursor.specs.Patterns.{Tree, SpellsTree, FoundMatch, TreeMatches, answer_slots}
use Rattle.regex_cursor.specs.PatternLaws.{HasFinds}
use Rattle.rope_search_reports.specs.Text.{bytes_of}
use Rattle.rope_search_reports.specs.Pattern.{span_of}
use Rattle.rope_search_reports.specs.Matches.{AreGroups, IsMatches, both, group_of, groups_of}
use Rattle.rope_search_reports.specs.Report.{IsRow, columns}
use Rattle.rope_search_reports.specs.Replacement.{AreMatchesIn, alone}
use Rattle.regex_cursor.specs.NextMatches.{TreeFindsNext}
use Rattle.rope_search_reports.specs.Finders.{AreGroupsOf, AreSpansOf, IsRowOf, FinderTells, group_told}
use Rattle.rope_search_reports.proofs.GroupLemmas.{spans-alone}
use Rattle.rope_search_reports.proofs.MatchLemmas.{AllNote, Searched, Searched-more, Searched-end, comes-from, comes-further, room_behind}
use Rattle.rope_search_reports.proofs.NextLemmas.{ToldMatch, none-told, some-told}

-- a next match, and what is shown of it
abbrev pub NextMatch : Tree → List ℕ → Option ℕ → ℕ × ℕ → List (Option ℕ) → Type 0
NextMatch tree content last span slots = ToldMatch (TreeFindsNext tree content last) span slots

pub next-told : (tree : Tree) (content content' : List ℕ) (last : Option ℕ) (told : Option (ℕ × ℕ)) (span : ℕ × ℕ) (slots : List (Option ℕ)) → content' ≡ content
    → FinderTells (TreeFindsNext tree content' last) told slots → told ≡ Some span → NextMatch tree content last span slots
next-told tree content content' last told span slots same next is =
    let next' = subst (λ cs. FinderTells (TreeFindsNext tree cs last) told slots) same next in
    some-told (TreeFindsNext tree content last) span slots (subst (λ s. FinderTells (TreeFindsNext tree content last) s slots) is next')

-- less is left after it
pub next-further : (tree : Tree) (content : List ℕ) (last : Option ℕ) (span : ℕ × ℕ) (slots : List (Option ℕ)) → HasFinds tree → NextMatch tree content last span slots
    → room_behind (length content) (Some span.1) < room_behind (length content) last
next-further tree content last span slots has next =
    subst (λ (s : ℕ × ℕ). room_behind (length content) (Some s.1) < room_behind (length content) last) (sym next.span_is)
    (comes-further tree content last next.t has next.is)

-- it is shown after those before it
pub next-shown : {A : Type 0} (shows : FoundMatch → A) (tree : Tree) (content : List ℕ) (last : Option ℕ) (span : ℕ × ℕ) (slots : List (Option ℕ)) (items : List A) (item : A) → HasFinds tree
    → (next : NextMatch tree content last span slots) → item ≡ shows next.t → Searched shows tree content last items
    → Searched shows tree content (Some span.1) (items ++ item ∷ [])
next-shown shows tree content last span slots items item has next is sofar =
    let more = Searched-more shows tree content last items next.t has sofar next.is in
    let at = subst (λ e. Searched shows tree content (Some e) (items ++ shows next.t ∷ [])) (sym (ap (λ s. s.1) next.span_is)) more in
    subst (λ x. Searched shows tree content (Some span.1) (items ++ x ∷ [])) (sym is) at

-- if there is no next match, all are shown
pub none-next : (tree : Tree) (content content' : List ℕ) (last : Option ℕ) (told : Option (ℕ × ℕ)) (slots : List (Option ℕ)) → content' ≡ content
    → FinderTells (TreeFindsNext tree content' last) told slots → told ≡ None → TreeFindsNext tree content last None
none-next tree content content' last told slots same next is =
    let next' = subst (λ cs. FinderTells (TreeFindsNext tree cs last) told slots) same next in
    none-told (TreeFindsNext tree content last) slots (subst (λ s. FinderTells (TreeFindsNext tree content last) s slots) is next')

-- ---- rows

-- the columns of a match
abbrev pub columns_of : List ℕ → FoundMatch → ℕ × ℕ
columns_of content t = columns content (span_of t)

-- all of a row, if there is no next match
pub last-row : (tree : Tree) (line : List ℕ) (last : Option ℕ) (row : List (ℕ × ℕ)) → HasFinds tree → TreeFindsNext tree (bytes_of line) last None
    → Searched (columns_of (bytes_of line)) tree (bytes_of line) last row → IsRowOf tree line row
last-row tree line last row has none sofar = record {
  matches = sofar.matches;
  are = Searched-end (columns_of (bytes_of line)) tree (bytes_of line) last row has sofar none;
  shown = sofar.shown ∙ sym (map-map (columns (bytes_of line)) span_of sofar.matches);
}

-- spans of all matches, turned into columns
pub row-of-spans : (tree : Tree) (line content : List ℕ) (spans row : List (ℕ × ℕ)) → content ≡ bytes_of line → AreSpansOf tree content spans
    → row ≡ map (columns (bytes_of line)) spans → IsRowOf tree line row
row-of-spans tree line content spans row same is shown = record {
  matches = is.matches;
  are = subst (λ cs. TreeMatches tree cs is.matches) same is.are;
  shown = shown ∙ ap (map (columns (bytes_of line))) is.shown;
}

-- they are in order, at character boundaries
pub spans-stand : (tree : Tree) (content content' : List ℕ) (spans : List (ℕ × ℕ)) → HasFinds tree → IsUtf8 content → content' ≡ content → AreSpansOf tree content' spans
    → AreMatchesIn content (map alone spans)
spans-stand tree content content' spans has utf8 same is =
    subst (λ ss. AreMatchesIn content (map alone ss)) (sym is.shown)
    (spans-alone tree content is.matches has utf8 (subst (λ cs. TreeMatches tree cs is.matches) same is.are))

-- the row of a pattern's tree is the pattern's
pub row-is : (pattern line : List ℕ) (tree : Tree) (row : List (ℕ × ℕ)) → SpellsTree pattern tree → IsRowOf tree line row → IsRow pattern line row
row-is pattern line tree row spells is = record {
  spans = map span_of is.matches;
  are = record { matches = is.matches; are = record { tree = tree; spells = spells; are = is.are }; spans_are = refl };
  shown = is.shown;
}

-- ---- groups

-- they are read from the slots of groups 0 to 9
pub groups-told : (tree : Tree) (content : List ℕ) (last : Option ℕ) (span : ℕ × ℕ) (slots : List (Option ℕ)) → length slots ≡ 20 → AllNote tree content
    → (next : NextMatch tree content last span slots) → map (group_told slots) (range_with_len 0 10) ≡ groups_of next.t
groups-told tree content last span slots len notes next =
    let from = comes-from tree content last next.t next.is in
    let has = (notes from.0 next.t from.1).whole in
    ap (λ s. map (group_told s) (range_with_len 0 10)) (next.slots_are ∙ ap (λ n. answer_slots n (Some next.t)) len)
    ∙ ap (λ g. g ∷ map (group_of next.t) (range_with_len 1 9)) (ap₂ both has.start has.end)

-- all groups, if there is no next match
pub last-groups : (tree : Tree) (content : List ℕ) (last : Option ℕ) (groups : List (List (Option (ℕ × ℕ)))) → HasFinds tree → TreeFindsNext tree content last None
    → Searched groups_of tree content last groups → AreGroupsOf tree content groups
last-groups tree content last groups has none sofar = record {
  matches = sofar.matches;
  are = Searched-end groups_of tree content last groups has sofar none;
  shown = sofar.shown;
}

pub last-spans : (tree : Tree) (content : List ℕ) (last : Option ℕ) (spans : List (ℕ × ℕ)) → HasFinds tree → TreeFindsNext tree content last None
    → Searched span_of tree content last spans → AreSpansOf tree content spans
last-spans tree content last spans has none sofar = record {
  matches = sofar.matches;
  are = Searched-end span_of tree content last spans has sofar none;
  shown = sofar.shown;
}

-- those of a pattern's tree are the pattern's
pub spans-are : (pattern content : List ℕ) (tree : Tree) (spans : List (ℕ × ℕ)) → SpellsTree pattern tree → AreSpansOf tree content spans
    → IsMatches pattern content spans
spans-are pattern content tree spans spells is = record {
  matches = is.matches;
  are = record { tree = tree; spells = spells; are = is.are };
  spans_are = is.shown;
}

pub groups-are : (pattern content : List ℕ) (tree : Tree) (groups : List (List (Option (ℕ × ℕ)))) → SpellsTree pattern tree → AreGroupsOf tree content groups
    → AreGroups pattern content groups
groups-are pattern content tree groups spells is = record {
  matches = is.matches;
  are = record { tree = tree; spells = spells; are = is.are };
  groups_are = is.shown;
}
