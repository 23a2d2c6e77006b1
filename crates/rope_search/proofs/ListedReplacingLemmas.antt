-- The matches that a report lists in some lines, by offsets of the text.
use Rattle.std.proofs.Common.{◌≡◌, ◌↔◌, ◌⊎◌, inl, inr, Ok, Err, IfOk, ℕ, suc, ◌+◌, ◌-◌, ◌<◌, ◌≤◌, min, Bool, true, false, ◌==◌, List, [], ◌∷◌, ◌++◌, Some, All, length, map, take, drop, slice_index_or, refl, sym, ap, subst, ◌∙◌, arith, append-nil}
use Rattle.std.specs.Prelude.{IfSome, if◌then◌else◌, OnOk, Result, max, sum_by}
use Rattle.std.specs.List.{range_with_len}
use Rattle.std.specs.Str.{IsCharBoundary, all_scalars}
use Rattle.std.proofs.lemmas.Bool.Decides.{nat_tests}
use Rattle.std.proofs.lemmas.List.{drop_more, length-append, length-map, map-append}
use Rattle.std.proofs.lemmas.List.Concat.{flat_map-append}
use Rattle.std.proofs.lemmas.List.Elements.{All-append, All-cons}
use Rattle.std.proofs.lemmas.List.Sums.{sum_by-cons}
use Rattle.str_indices.specs.Text.{byte_len, units}
use Rattle.ropey.specs.Chunks.{text_of}
use Rattle.rope_search_io.specs.declared.faults.Fault.{Fault}
use Rattle.rope_search_io.specs.declared.faults.Fault.TheVariants.{Size}
use Rattle.rope_search_changes.specs.declared.Change.{Change}
use Rattle.rope_search_reports.specs.Changes.{AreChanges}
use Rattle.rope_search_reports.specs.Laws.{GroupsFollowEachOther, HasARowALine, HasOneListOfGroups}
use Rattle.rope_search_reports.specs.LineGroups.{AddsGroupsOfLine, AreGroupsOfLine, AreGroupsOfLines, LineMatchesFollow, joined, moved, moved_span}
use Rattle.rope_search_reports.specs.Matches.{AreGroups, group_of, groups_of}
use Rattle.rope_search_reports.specs.Pattern.{span_of}
use Rattle.rope_search_reports.specs.Position.{line_start, line_text}
use Rattle.rope_search_reports.specs.Replacement.{AreMatchesIn, FollowEachOther, Groups, HasSpansIn, IsSpanIn, ReplacementsAreChanges, alone, changes_of, replaced, searched, whole}
use Rattle.rope_search_reports.specs.Report.{IsReport, IsRow, column, columns}
use Rattle.rope_search_reports.specs.Text.{IsText, bytes_of, line_count}
use Rattle.rope_search_reports.specs.Turned.{listed}
use Rattle.rope_search_reports.proofs.ColumnLemmas.{column-is}
use Rattle.rope_search_reports.proofs.LineLemmas.{lines-in-place}
use Rattle.rope_search_reports.proofs.PlaceLemmas.{scalars-parts, split_at}
use Rattle.rope_search_templates.specs.Laws.{ReplaceAlike, SpansAreEnough}
use Rattle.rope_search_templates.specs.Templates.{names_explicit_groups}
use Rattle.rope_search.specs.LineColumns.{column_as, columns_as, front_to}
use Rattle.rope_search.specs.ListedReplacing.{AreEnoughListed, AreListed, AreListedGroups, AreListedIn, AreListedSpans, GetsTooLongListed, GetsTooLongListedIn, IsListedIn, RowsOfListed, RowsOfListedIn, lines_for_groups, listed_span, one_if_any}
use Rattle.rope_search.specs.Session.{BufferState, current_text}
use Rattle.rope_search.specs.declared.search.Replaced.{Replaced}
use Rattle.rope_search.specs.declared.encodings.Encoding.TheVariants.{Utf8}
use Rattle.rope_search.proofs.FrontLemmas.{front_to-front}
use Rattle.rope_search.proofs.KeptLemmas.{get_there}
use Rattle.rope_search.proofs.MatchEditLemmas.{row-at}

-- ---- columns and bytes

-- the byte of the column of a boundary is that boundary
column-back : (own : List ℕ) (place : ℕ) → IsText own → IsCharBoundary (bytes_of own) place → column_as Utf8 own (column (bytes_of own) place) ≡ place
column-back own place scalars boundary =
    let s = split_at own place scalars boundary in
    ap (λ n. byte_len (front_to n own)) (column-is own place scalars s)
    ∙ ap (λ t. byte_len (front_to (units s.front) t)) s.parts
    ∙ ap byte_len (front_to-front s.front s.back)
    ∙ sym s.place_is

span-back : (own : List ℕ) (span : ℕ × ℕ) → IsText own → IsCharBoundary (bytes_of own) span.0 → IsCharBoundary (bytes_of own) span.1
    → columns_as Utf8 own (columns (bytes_of own) span) ≡ span
span-back own span scalars starts ends =
    let pair : ℕ → ℕ → ℕ × ℕ = λ a b. (a, b) in
    ap (λ a. pair a (column_as Utf8 own (column (bytes_of own) span.1))) (column-back own span.0 scalars starts)
    ∙ ap (pair span.0) (column-back own span.1 scalars ends)

-- ---- the matches of a row

own-scalars : (text : List ℕ) → IsText text → (line : ℕ) → line < line_count text → IsText (line_text text line)
own-scalars text scalars line inside =
    let own = line_text text line in
    let h = lines-in-place text line inside in
    (scalars-parts own h.behind (scalars-parts h.before (own ++ h.behind) (sym (ap all_scalars h.parts) ∙ scalars)).1).0

-- the groups of a row's matches, and what the row shows of them
pub record IsListedRow (text pattern : List ℕ) (line : ℕ) (row : List (ℕ × ℕ)) : Type 0 where
  pub groups : List Groups
  pub are : AreGroupsOfLine text pattern line groups
  pub spans : map whole groups ≡ map (listed_span text line) row
  pub any : one_if_any groups ≡ one_if_any row

module _ (text : List ℕ) (scalars : IsText text) (line : ℕ) (inside : line < line_count text) where
  abbrev own : List ℕ
  own = line_text text line

  abbrev start : ℕ
  start = line_start text line

  spans-shown : {A : Type 0} (groups : A → Groups) (span : A → ℕ × ℕ) (rest : A → Groups) → ((a : A) → groups a ≡ Some (span a) ∷ rest a)
      → (at : ℕ) (ms : List A) → FollowEachOther (bytes_of own) at (map groups ms)
      → map whole (map (moved start) (map groups ms)) ≡ map (listed_span text line) (map (columns (bytes_of own)) (map span ms))
  spans-shown groups span rest starts at [] follow = refl
  spans-shown groups span rest starts at (m ∷ ms) follow =
      let is : whole (groups m) ≡ span m = ap whole (starts m) in
      let first = subst (λ (s : ℕ × ℕ). IsCharBoundary (bytes_of own) s.0) is follow.2 in
      let last = subst (λ (s : ℕ × ℕ). IsCharBoundary (bytes_of own) s.1) is follow.3 in
      let back = span-back own (span m) (own-scalars text scalars line inside) first last in
      ap (λ g. whole (moved start g) ∷ map whole (map (moved start) (map groups ms))) (starts m)
      ∙ ap (λ s. moved_span start s ∷ map whole (map (moved start) (map groups ms))) (sym back)
      ∙ ap (λ l. listed_span text line (columns (bytes_of own) (span m)) ∷ l) (spans-shown groups span rest starts (whole (groups m)).1 ms follow.4)

  any-shown : {A : Type 0} (groups : A → Groups) (span : A → ℕ × ℕ) (ms : List A)
      → one_if_any (map (moved start) (map groups ms)) ≡ one_if_any (map (columns (bytes_of own)) (map span ms))
  any-shown groups span [] = refl
  any-shown groups span (m ∷ ms) = refl

  pub listed-row : GroupsFollowEachOther → (pattern : List ℕ) (row : List (ℕ × ℕ)) → IsRow pattern own row → IsListedRow text pattern line row
  listed-row law pattern row is =
      let content = bytes_of own in
      let ms = is.are.matches in
      let are : AreGroups pattern content (map groups_of ms) = record { matches = ms; are = is.are.are; groups_are = refl } in
      let shown : row ≡ map (columns content) (map span_of ms) = is.shown ∙ ap (map (columns content)) is.are.spans_are in
      let follow = law own pattern (map groups_of ms) (own-scalars text scalars line inside) are in
      record {
        groups = map (moved start) (map groups_of ms);
        are = record { inside = inside; own = map groups_of ms; are = are; moved_are = refl };
        spans = spans-shown groups_of span_of (λ m. map (group_of m) (range_with_len 1 9)) (λ m. refl) 0 ms follow ∙ ap (map (listed_span text line)) (sym shown);
        any = any-shown groups_of span_of ms ∙ ap one_if_any (sym shown);
      }

-- a row of a report is that of its line
pub report-row : HasARowALine → (text pattern : List ℕ) (rows : List (List (ℕ × ℕ))) (line : ℕ) → IsReport text pattern rows → line < length rows
    → (line < line_count text) × IsRow pattern (line_text text line) (slice_index_or rows line [])
report-row law text pattern rows line report low =
    (omega (arith, low, law text pattern rows report), row-at pattern _ rows line report low)

pub told-row : (rows : List (List (ℕ × ℕ))) (line : ℕ) (told : List (ℕ × ℕ)) → line < length rows → told ≡ slice_index_or rows line told → told ≡ slice_index_or rows line []
told-row rows line told low is = is ∙ get_there rows line told [] low

some-length : (n : ℕ) (b : Bool) → b ≡ (n == 0) → b ≡ false → 0 < n
some-length n b is off = grind (arith, nat_tests, is, off)

no-length : (n : ℕ) (b : Bool) → b ≡ (n == 0) → b ≡ true → n ≡ 0
no-length n b is on = grind (arith, nat_tests, is, on)

-- whether a row has a match
pub some-any : (row : List (ℕ × ℕ)) (b : Bool) → b ≡ (length row == 0) → b ≡ false → one_if_any row ≡ 1
some-any [] b is off = absurd (omega (arith, some-length 0 b is off))
some-any (m ∷ row) b is off = refl

pub none-any : (row : List (ℕ × ℕ)) (b : Bool) → b ≡ (length row == 0) → b ≡ true → one_if_any row ≡ 0
none-any [] b is on = refl
none-any (m ∷ row) b is on = absurd (omega (arith, no-length (length (m ∷ row)) b is on))

-- ---- lists of lines

pub lines-more : (text pattern : List ℕ) (line : ℕ) (lists : List (List Groups)) (groups : List Groups) (next : ℕ) → next ≡ line + length lists
    → AreGroupsOfLines text pattern line lists → AreGroupsOfLine text pattern next groups → AreGroupsOfLines text pattern line (lists ++ groups ∷ [])
lines-more text pattern line [] groups next is are own = (subst (λ l. AreGroupsOfLine text pattern l groups) (omega (arith, is)) own, tt)
lines-more text pattern line (first ∷ lists) groups next is are own = (are.0, lines-more text pattern (line + 1) lists groups next (omega (arith, is)) are.1 own)

pub joined-more : (lists : List (List Groups)) (groups : List Groups) → joined (lists ++ groups ∷ []) ≡ joined lists ++ groups
joined-more lists groups =
    flat_map-append (λ (l : List Groups). l) lists (groups ∷ []) ∙ ap (λ l. joined lists ++ l) (append-nil groups)

-- there is one list for them
pub lines-one : HasOneListOfGroups → (text pattern : List ℕ) (line : ℕ) (lists lists' : List (List Groups)) → length lists ≡ length lists'
    → AreGroupsOfLines text pattern line lists → AreGroupsOfLines text pattern line lists' → lists ≡ lists'
lines-one law text pattern line [] [] same are are' = refl
lines-one law text pattern line [] (g ∷ lists') same are are' = absurd (omega (arith, same))
lines-one law text pattern line (g ∷ lists) [] same are are' = absurd (omega (arith, same))
lines-one law text pattern line (g ∷ lists) (g' ∷ lists') same are are' =
    let own = law pattern (bytes_of (line_text text line)) are.0.own are'.0.own are.0.are are'.0.are in
    let first : g ≡ g' = are.0.moved_are ∙ ap (map (moved (line_start text line))) own ∙ sym are'.0.moved_are in
    let later = lines-one law text pattern (line + 1) lists lists' (omega (arith, same)) are.1 are'.1 in
    ap (λ f. f ∷ lists) first ∙ ap (λ l. g' ∷ l) later

pub listed-one : HasOneListOfGroups → (text pattern : List ℕ) (from to : ℕ) (lists lists' : List (List Groups)) → AreListedIn text pattern from to lists → AreListedIn text pattern from to lists'
    → lists ≡ lists'
listed-one law text pattern from to lists lists' are are' = lines-one law text pattern from lists lists' (are.all ∙ sym are'.all) are.are are'.are

-- the rows of these lines have a match where the lists do
pub any-in-rows : HasOneListOfGroups → GroupsFollowEachOther → HasARowALine → (text pattern : List ℕ) → IsText text → (rows : List (List (ℕ × ℕ))) → IsReport text pattern rows
    → (line : ℕ) (lists : List (List Groups)) → (line + length lists ≤ length rows) ⊎ (lists ≡ []) → AreGroupsOfLines text pattern line lists
    → sum_by one_if_any (take (length lists) (drop line rows)) ≡ sum_by one_if_any lists
any-in-rows one law count text pattern scalars rows report line [] low are = refl
any-in-rows one law count text pattern scalars rows report line (g ∷ lists) low are =
    let within : line + length (g ∷ lists) ≤ length rows = elim low [
      | inl low ↦ low
      | inr none ↦ absurd (cc)
    ] in
    let inside : line < length rows = omega (arith, within) in
    let row = slice_index_or rows line [] in
    let is = report-row count text pattern rows line report inside in
    let l = listed-row text scalars line is.0 law pattern row is.1 in
    let own = one pattern (bytes_of (line_text text line)) are.0.own l.are.own are.0.are l.are.are in
    let same : g ≡ l.groups = are.0.moved_are ∙ ap (map (moved (line_start text line))) own ∙ sym l.are.moved_are in
    let later = any-in-rows one law count text pattern scalars rows report (line + 1) lists (inl (omega (arith, within))) are.1 in
    ap (λ r. sum_by one_if_any (take (suc (length lists)) r)) (drop_more rows line [] inside)
    ∙ sum_by-cons one_if_any row (take (length lists) (drop (line + 1) rows))
    ∙ ap (λ n. one_if_any row + n) later
    ∙ ap (λ n. n + sum_by one_if_any lists) (sym l.any ∙ ap one_if_any (sym same))
    ∙ sym (sum_by-cons one_if_any g lists)

-- ---- matches that will do

-- by their spans alone they follow each other too
alone-follow : (content : List ℕ) (at : ℕ) (matches : List Groups) → FollowEachOther content at matches → FollowEachOther content at (map alone (map whole matches))
alone-follow content at [] follow = tt
alone-follow content at (match ∷ matches) follow = (follow.0, follow.1, follow.2, follow.3, alone-follow content (whole match).1 matches follow.4)

alone-spans : (content : List ℕ) (at : ℕ) (matches : List Groups) → FollowEachOther content at matches → All (HasSpansIn content) (map alone (map whole matches))
alone-spans content at [] follow = λ k d low. absurd (omega (arith, low))
alone-spans content at (match ∷ matches) follow =
    All-cons (HasSpansIn content) (alone (whole match)) (map alone (map whole matches))
    (All-cons (λ group. IfSome group (IsSpanIn content)) (Some (whole match)) [] (record { ordered = follow.1; starts = follow.2; stops = follow.3 }) (λ k d low. absurd (omega (arith, low))))
    (alone-spans content (whole match).1 matches follow.4)

pub enough-spans : SpansAreEnough → LineMatchesFollow → (text pattern : List ℕ) (from to : ℕ) (template : List ℕ) (spans : List (ℕ × ℕ)) → IsText text
    → names_explicit_groups template ≡ false → AreListedSpans text pattern from to spans → AreEnoughListed text pattern from to template (map alone spans)
enough-spans law lines text pattern from to template spans scalars none is =
    let content = bytes_of text in
    let all = joined is.lists in
    let follow = lines text pattern from is.lists scalars is.are.are in
    let stand : AreMatchesIn content (map alone (map whole all)) = record { follow = alone-follow content 0 all follow; spans = alone-spans content 0 all follow } in
    record {
      lists = is.lists;
      are = is.are;
      counted = length-map spans alone ∙ ap length is.spans_are ∙ length-map all whole;
      stand = subst (λ ss. AreMatchesIn content (map alone ss)) (sym is.spans_are) stand;
      alike = subst (λ ss. ReplaceAlike content template (map alone ss) all) (sym is.spans_are) (law content template all none);
    }

pub enough-groups : LineMatchesFollow → (text pattern : List ℕ) (from to : ℕ) (template : List ℕ) (groups : List Groups) → IsText text
    → AreListedGroups text pattern from to groups → AreEnoughListed text pattern from to template groups
enough-groups lines text pattern from to template groups scalars is =
    let follow = lines text pattern from is.lists scalars is.are.are in
    record {
      lists = is.lists;
      are = is.are;
      counted = ap length is.groups_are;
      stand = record { follow = subst (FollowEachOther (bytes_of text) 0) (sym is.groups_are) follow; spans = is.spans };
      alike = subst (ReplaceAlike (bytes_of text) template groups) is.groups_are (record { text = refl; changes = refl; lines = refl });
    }

-- ---- the text with matches replaced

-- what was made of them are changes
pub changes-made : ReplacementsAreChanges → (text template new : List ℕ) (matches : List Groups) (changes : List Change) → IsText text → AreMatchesIn (bytes_of text) matches
    → changes ≡ changes_of (bytes_of text) template 0 0 matches → new ≡ replaced (bytes_of text) template 0 matches
    → AreChanges changes 0 0 text new (searched (bytes_of text) template matches)
changes-made law text template new matches changes scalars stand are is =
    let n = searched (bytes_of text) template matches in
    subst (λ cs. AreChanges cs 0 0 text new n) (sym are)
    (subst (λ t. AreChanges (changes_of (bytes_of text) template 0 0 matches) 0 0 text t n) (sym is) (law text template matches scalars stand.follow))

module _ (text pattern : List ℕ) (from to : ℕ) (template told : List ℕ) (given : told ≡ template) (matches : List Groups) (enough : AreEnoughListed text pattern from to told matches) where
  abbrev all : List Groups
  all = joined enough.lists

  abbrev content : List ℕ
  content = bytes_of text

  text-alike : replaced content told 0 matches ≡ replaced content template 0 all
  text-alike = enough.alike.text ∙ ap (λ t. replaced content t 0 all) given

  changes-alike : changes_of content told 0 0 matches ≡ changes_of content template 0 0 all
  changes-alike = enough.alike.changes ∙ ap (λ t. changes_of content t 0 0 all) given

  pub listed-told : (result : Result Replaced Fault) → IfOk result (λ new. new.count ≡ length matches) → IfOk result (λ new. text_of new.text ≡ replaced content told 0 matches)
      → IfOk result (λ new. listed new.changes ≡ changes_of content told 0 0 matches)
      → IfOk result (λ new. IsListedIn text pattern from to template new.count (text_of new.text) (listed new.changes))
  listed-told (Ok new) counted text_is changes_are = record {
    lists = enough.lists;
    are = enough.are;
    counted = counted ∙ enough.counted;
    text_is = text_is ∙ text-alike;
    changes_are = changes_are ∙ changes-alike;
  }
  listed-told (Err fault) counted text_is changes_are = tt

  pub long-listed : (limit : ℕ) → limit < byte_len (replaced content told 0 matches) → GetsTooLongListedIn limit text pattern from to template
  long-listed limit long = record { lists = enough.lists; are = enough.are; long = omega (arith, long, ap byte_len text-alike) }

  pub fits-listed : HasOneListOfGroups → (limit : ℕ) (result : Result Replaced Fault) → ((result ≡ Err Size) ↔ (limit < byte_len (replaced content told 0 matches)))
      → OnOk result (GetsTooLongListedIn limit text pattern from to template → ⊥)
  fits-listed one limit (Ok new) size = λ gets.
      let same = listed-one one text pattern from to gets.lists enough.lists gets.are enough.are in
      let long : limit < byte_len (replaced content told 0 matches) =
      omega (arith, gets.long, ap (λ ls. byte_len (replaced content template 0 (joined ls))) same, ap byte_len text-alike) in
      absurd (let e = size.1 long in cc)
  fits-listed one limit (Err fault) size = tt

  pub rows-listed : HasOneListOfGroups → (n : ℕ) → RowsOfListedIn text pattern from to template n
      → n ≡ lines_for_groups told enough.lists + searched content told matches
  rows-listed one n rows =
      let same = listed-one one text pattern from to rows.lists enough.lists rows.are enough.are in
      rows.rows
      ∙ ap (λ ls. lines_for_groups template ls + searched content template (joined ls)) same
      ∙ ap (λ t. lines_for_groups t enough.lists + searched content t all) (sym given)
      ∙ ap (λ m. lines_for_groups told enough.lists + m) (sym enough.alike.lines)

-- ---- of a buffer

module _ (b : BufferState) (pattern text : List ℕ) (is : b.pattern ≡ Some pattern) (here : text ≡ current_text b) (from to : ℕ) where
  pub listed-here : (lists : List (List Groups)) → AreListedIn text pattern from to lists → AreListed b from to lists
  listed-here lists are = record { pattern = pattern; is_pattern = is; are = subst (λ t. AreListedIn t pattern from to lists) here are }

  listed-there : (lists : List (List Groups)) → AreListed b from to lists → AreListedIn text pattern from to lists
  listed-there lists all =
      let both : Some all.pattern ≡ Some pattern = sym all.is_pattern ∙ is in
      let same : all.pattern ≡ pattern = cc in
      subst (λ t. AreListedIn t pattern from to lists) (sym here) (subst (λ p. AreListedIn (current_text b) p from to lists) same all.are)

  pub long-here : (limit : ℕ) (template : List ℕ) → GetsTooLongListedIn limit text pattern from to template → GetsTooLongListed limit b from to template
  long-here limit template gets = record {
    lists = gets.lists;
    are = listed-here gets.lists gets.are;
    long = subst (λ t. limit < byte_len (replaced (bytes_of t) template 0 (joined gets.lists))) here gets.long;
  }

  pub long-there : (limit : ℕ) (template : List ℕ) → GetsTooLongListed limit b from to template → GetsTooLongListedIn limit text pattern from to template
  long-there limit template gets = record {
    lists = gets.lists;
    are = listed-there gets.lists gets.are;
    long = subst (λ t. limit < byte_len (replaced (bytes_of t) template 0 (joined gets.lists))) (sym here) gets.long;
  }

  pub rows-there : (template : List ℕ) (n : ℕ) → RowsOfListed b from to template n → RowsOfListedIn text pattern from to template n
  rows-there template n rows = record {
    lists = rows.lists;
    are = listed-there rows.lists rows.are;
    rows = rows.rows ∙ ap (λ t. lines_for_groups template rows.lists + searched (bytes_of t) template (joined rows.lists)) (sym here);
  }

-- ---- line by line

-- the spans of the lines from one up to another
pub record AreSpansSoFar (text pattern : List ℕ) (from end line : ℕ) (spans : List (ℕ × ℕ)) : Type 0 where
  pub lists : List (List Groups)
  pub are : AreGroupsOfLines text pattern from lists
  pub len : from + length lists ≡ line
  pub within : line ≤ max from end
  pub spans_are : spans ≡ map whole (joined lists)

pub spans-none : (text pattern : List ℕ) (from end : ℕ) (spans : List (ℕ × ℕ)) → spans ≡ [] → AreSpansSoFar text pattern from end from spans
spans-none text pattern from end spans none = record { lists = []; are = tt; len = omega arith; within = omega arith; spans_are = none }

pub spans-more : (text pattern : List ℕ) (from end line : ℕ) (row : List (ℕ × ℕ)) (spans spans' : List (ℕ × ℕ)) → line < end → IsListedRow text pattern line row
    → spans' ≡ spans ++ map (listed_span text line) row → AreSpansSoFar text pattern from end line spans → AreSpansSoFar text pattern from end (line + 1) spans'
spans-more text pattern from end line row spans spans' low own more so = record {
  lists = so.lists ++ own.groups ∷ [];
  are = lines-more text pattern from so.lists own.groups line (sym so.len) so.are own.are;
  len = omega (arith, so.len, length-append so.lists (own.groups ∷ []));
  within = omega (arith, low);
  spans_are = more ∙ ap (λ l. l ++ map (listed_span text line) row) so.spans_are ∙ ap (λ l. map whole (joined so.lists) ++ l) (sym own.spans)
      ∙ sym (map-append whole (joined so.lists) own.groups) ∙ ap (map whole) (sym (joined-more so.lists own.groups));
}

pub spans-all : (text pattern : List ℕ) (from to end line : ℕ) (spans : List (ℕ × ℕ)) → end ≡ min to (line_count text) → end ≤ line → AreSpansSoFar text pattern from end line spans
    → AreListedSpans text pattern from to spans
spans-all text pattern from to end line spans end_is over so = record {
  lists = so.lists;
  are = record { are = so.are; all = omega (arith, end_is, over, so.len, so.within) };
  spans_are = so.spans_are;
}

-- and their groups
pub record AreGroupsSoFar (text pattern : List ℕ) (from end line : ℕ) (groups : List Groups) : Type 0 where
  pub lists : List (List Groups)
  pub are : AreGroupsOfLines text pattern from lists
  pub len : from + length lists ≡ line
  pub within : line ≤ max from end
  pub groups_are : groups ≡ joined lists
  pub spans : All (HasSpansIn (bytes_of text)) groups

pub groups-none : (text pattern : List ℕ) (from end : ℕ) (groups : List Groups) → groups ≡ [] → AreGroupsSoFar text pattern from end from groups
groups-none text pattern from end groups none = record {
  lists = [];
  are = tt;
  len = omega arith;
  within = omega arith;
  groups_are = none;
  spans = subst (All (HasSpansIn (bytes_of text))) (sym none) (λ k d low. absurd (omega (arith, low)));
}

pub groups-more : (text pattern : List ℕ) (from end line : ℕ) (groups groups' : List Groups) → line < end → AddsGroupsOfLine text pattern line groups groups'
    → AreGroupsSoFar text pattern from end line groups → AreGroupsSoFar text pattern from end (line + 1) groups'
groups-more text pattern from end line groups groups' low adds so = record {
  lists = so.lists ++ adds.groups ∷ [];
  are = lines-more text pattern from so.lists adds.groups line (sym so.len) so.are adds.are;
  len = omega (arith, so.len, length-append so.lists (adds.groups ∷ []));
  within = omega (arith, low);
  groups_are = adds.added ∙ ap (λ l. l ++ adds.groups) so.groups_are ∙ sym (joined-more so.lists adds.groups);
  spans = subst (All (HasSpansIn (bytes_of text))) (sym adds.added) (All-append (HasSpansIn (bytes_of text)) groups adds.groups so.spans adds.spans);
}

-- a line without a match
no-groups : (groups : List Groups) → one_if_any groups ≡ 0 → groups ≡ []
no-groups [] none = refl
no-groups (g ∷ groups) none = absurd (omega (arith, none))

pub groups-passed : (text pattern : List ℕ) (from end line : ℕ) (row : List (ℕ × ℕ)) (groups : List Groups) → line < end → IsListedRow text pattern line row → one_if_any row ≡ 0
    → AreGroupsSoFar text pattern from end line groups → AreGroupsSoFar text pattern from end (line + 1) groups
groups-passed text pattern from end line row groups low own none so =
    let nothing : own.groups ≡ [] = no-groups own.groups (own.any ∙ none) in
    record {
      lists = so.lists ++ own.groups ∷ [];
      are = lines-more text pattern from so.lists own.groups line (sym so.len) so.are own.are;
      len = omega (arith, so.len, length-append so.lists (own.groups ∷ []));
      within = omega (arith, low);
      groups_are = so.groups_are ∙ sym (append-nil (joined so.lists)) ∙ ap (λ l. joined so.lists ++ l) (sym nothing) ∙ sym (joined-more so.lists own.groups);
      spans = so.spans;
    }

pub groups-all : (text pattern : List ℕ) (from to end line : ℕ) (groups : List Groups) → end ≡ min to (line_count text) → end ≤ line → AreGroupsSoFar text pattern from end line groups
    → AreListedGroups text pattern from to groups
groups-all text pattern from to end line groups end_is over so = record {
  lists = so.lists;
  are = record { are = so.are; all = omega (arith, end_is, over, so.len, so.within) };
  groups_are = so.groups_are;
  spans = so.spans;
}

-- how many of the lines that are left have a match
abbrev pub lines_left : List (List (ℕ × ℕ)) → ℕ → ℕ → ℕ
lines_left rows line end = sum_by one_if_any (take (end - line) (drop line rows))

pub left-more : (rows : List (List (ℕ × ℕ))) (line end : ℕ) → line < end → end ≤ length rows
    → lines_left rows line end ≡ one_if_any (slice_index_or rows line []) + lines_left rows (line + 1) end
left-more rows line end low within =
    let row = slice_index_or rows line [] in
    let rest = drop (line + 1) rows in
    let count : end - line ≡ suc (end - (line + 1)) = omega (arith, low) in
    ap (λ l. sum_by one_if_any (take (end - line) l)) (drop_more rows line [] (omega (arith, low, within)))
    ∙ ap (λ n. sum_by one_if_any (take n (row ∷ rest))) count
    ∙ sum_by-cons one_if_any row (take (end - (line + 1)) rest)

-- those of all lines, by the lists of their matches
pub rows-of-lists : HasOneListOfGroups → GroupsFollowEachOther → HasARowALine → (text pattern : List ℕ) → IsText text → (rows : List (List (ℕ × ℕ))) → IsReport text pattern rows
    → (from to : ℕ) (lists : List (List Groups)) → AreListedIn text pattern from to lists
    → lines_left rows from (min to (length rows)) ≡ sum_by one_if_any lists
rows-of-lists one law count text pattern scalars rows report from to lists are =
    let n : length rows ≡ line_count text = count text pattern rows report in
    let len : length lists ≡ min to (length rows) - from = omega (arith, are.all, n) in
    ap (λ k. sum_by one_if_any (take k (drop from rows))) (sym len)
    ∙ any-in-rows one law count text pattern scalars rows report from lists (within len lists refl) are.are
  where
    within : length lists ≡ min to (length rows) - from → (ls : List (List Groups)) → lists ≡ ls → (from + length lists ≤ length rows) ⊎ (lists ≡ [])
    within len [] none = inr none
    within len (l ∷ ls) some = inl (omega (arith, len, ap length some))

-- what a template asks for
pub asked-lines : (template : List ℕ) (lists : List (List Groups)) → names_explicit_groups template ≡ true → lines_for_groups template lists ≡ sum_by one_if_any lists
asked-lines template lists named = ap (λ b. if b then sum_by one_if_any lists else 0) named
