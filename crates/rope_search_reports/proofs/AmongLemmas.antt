-- The groups of one match among all of a haystack.
use Rattle.std.proofs.Common.{◌≡◌, ℕ, zero, suc, ◌+◌, ◌≤◌, List, [], ◌∷◌, ◌++◌, Option, None, Some, IsUtf8, length, map, refl, sym, ap, ◌∙◌, arith}
use Rattle.std.specs.Prelude.{option_map, slice_get}
use Rattle.std.proofs.lemmas.List.{length-append, map-append}
use Rattle.regex_cursor.specs.Patterns.{Tree, FoundMatch, SpellsTree, search_from}
use Rattle.regex_cursor.specs.PatternLaws.{HasFinds, SpellsOneTree}
use Rattle.rope_search_reports.specs.Text.{bytes_of}
use Rattle.rope_search_reports.specs.Matches.{groups_of}
use Rattle.rope_search_reports.specs.Pattern.{span_of}
use Rattle.rope_search_reports.specs.Report.{columns}
use Rattle.rope_search_reports.specs.Replacement.{HasSpansIn, whole}
use Rattle.regex_cursor.specs.NextMatches.{TreeFindsNext}
use Rattle.rope_search_reports.specs.LineGroups.{GroupsAreOfRows, IsAmongGroups, TellsGroups, in_columns}
use Rattle.rope_search_reports.proofs.GroupLemmas.{spans-in}
use Rattle.rope_search_reports.proofs.MatchLemmas.{AllHaveFinds, AllNote, Searched, Searched-start, comes-from, lies-behind}
use Rattle.rope_search_reports.proofs.ReportLaws.{matches-one}
use Rattle.rope_search_reports.proofs.RowLemmas.{NextMatch, groups-are, last-groups, next-shown}

-- some matches are passed, the last of which ends there; `left` are left before match `number`
pub record HasPassed (tree : Tree) (content : List ℕ) (last : Option ℕ) (number left : ℕ) : Type 0 where
  pub groups : List (List (Option (ℕ × ℕ)))
  pub sofar : Searched groups_of tree content last groups
  pub counted : length groups + left ≡ number

pub passed-none : (tree : Tree) (content : List ℕ) (number : ℕ) → HasFinds tree → HasPassed tree content None number number
passed-none tree content number has = record { groups = []; sofar = Searched-start groups_of tree content has; counted = omega arith }

-- one more is passed
pub passed-more : (tree : Tree) (content : List ℕ) (last : Option ℕ) (span : ℕ × ℕ) (slots : List (Option ℕ)) (number left left' : ℕ) → HasFinds tree
    → NextMatch tree content last span slots → left ≡ left' + 1 → HasPassed tree content last number left → HasPassed tree content (Some span.1) number left'
passed-more tree content last span slots number left left' has next less so =
    let shown = groups_of next.t in
    record {
      groups = so.groups ++ shown ∷ [];
      sofar = next-shown groups_of tree content last span slots so.groups shown has next refl so.sofar;
      counted = omega (arith, less, so.counted, length-append so.groups (shown ∷ []));
    }

get-behind : {A : Type 0} (front : List A) (a : A) (behind : List A) → Some a ≡ slice_get ((front ++ a ∷ []) ++ behind) (length front)
get-behind [] a behind = refl
get-behind (f ∷ front) a behind = get-behind front a behind

get-past : {A : Type 0} (list : List A) (i : ℕ) → length list ≤ i → None ≡ slice_get list i
get-past [] i past = refl
get-past (a ∷ list) zero past = absurd (omega (arith, past))
get-past (a ∷ list) (suc i) past = get-past list i (omega (arith, past))

-- the match is here
pub among-here : (tree : Tree) (content : List ℕ) (last : Option ℕ) (span : ℕ × ℕ) (slots : List (Option ℕ)) (number left : ℕ) (item : List (Option (ℕ × ℕ))) → HasFinds tree
    → (next : NextMatch tree content last span slots) → item ≡ groups_of next.t → left ≡ 0 → HasPassed tree content last number left
    → IsAmongGroups tree content number (Some item)
among-here tree content last span slots number left item has next is none so =
    let more = next-shown groups_of tree content last span slots so.groups item has next is so.sofar in
    let others = more.first.0 in
    let at : length so.groups ≡ number = omega (arith, none, so.counted) in
    let split : (so.groups ++ item ∷ []) ++ map groups_of others ≡ map groups_of (more.matches ++ others) =
    ap (λ l. l ++ map groups_of others) more.shown ∙ sym (map-append groups_of more.matches others) in
    record {
      all = map groups_of (more.matches ++ others);
      are = record { matches = more.matches ++ others; are = more.first.1; shown = refl };
      told_is = get-behind so.groups item (map groups_of others) ∙ ap (λ l. slice_get l (length so.groups)) split
          ∙ ap (slice_get (map groups_of (more.matches ++ others))) at;
    }

-- there is none
pub among-none : (tree : Tree) (content : List ℕ) (last : Option ℕ) (number left : ℕ) → HasFinds tree → TreeFindsNext tree content last None
    → HasPassed tree content last number left → IsAmongGroups tree content number None
among-none tree content last number left has none so = record {
  all = so.groups;
  are = last-groups tree content last so.groups has none so.sofar;
  told_is = get-past so.groups number (omega (arith, so.counted));
}

-- the spans of the next match
pub next-spans : (tree : Tree) (content : List ℕ) (last : Option ℕ) (span : ℕ × ℕ) (slots : List (Option ℕ)) → HasFinds tree → AllNote tree content → IsUtf8 content
    → (next : NextMatch tree content last span slots) → HasSpansIn content (groups_of next.t)
next-spans tree content last span slots has notes utf8 next =
    let from = comes-from tree content last next.t next.is in
    spans-in content next.t (lies-behind tree content from.0 next.t has from.1).ordered (notes from.0 next.t from.1)
    (has.at_boundaries (search_from content from.0) next.t utf8 refl from.1)

-- ---- as columns in a line

pub tells-groups : (pattern line : List ℕ) (tree : Tree) (number : ℕ) (told : Option (List (Option (ℕ × ℕ)))) → SpellsTree pattern tree
    → IsAmongGroups tree (bytes_of line) number told → TellsGroups pattern line number (option_map (in_columns (bytes_of line)) told)
tells-groups pattern line tree number told spells is = record {
  all = is.all;
  are = groups-are pattern (bytes_of line) tree is.all spells is.are;
  told_is = ap (option_map (in_columns (bytes_of line))) is.told_is;
}

-- ---- compared with the row

-- those of a match begin with its columns
begin-with : (content : List ℕ) (ms : List FoundMatch) (number : ℕ)
    → option_map whole (option_map (in_columns content) (slice_get (map groups_of ms) number)) ≡ slice_get (map (columns content) (map span_of ms)) number
begin-with content [] number = refl
begin-with content (m ∷ ms) zero = refl
begin-with content (m ∷ ms) (suc number) = begin-with content ms number

pub groups-of-rows : SpellsOneTree → AllHaveFinds → GroupsAreOfRows
groups-of-rows trees finds pattern line row number told is tells =
    let content = bytes_of line in
    let same = matches-one trees finds pattern content tells.are.matches is.are.matches tells.are.are is.are.are in
    ap (option_map whole) (tells.told_is ∙ ap (λ l. option_map (in_columns content) (slice_get l number)) (tells.are.groups_are ∙ ap (map groups_of) same))
    ∙ begin-with content is.are.matches number
    ∙ ap (λ l. slice_get l number) (sym (is.shown ∙ ap (map (columns content)) is.are.spans_are))
