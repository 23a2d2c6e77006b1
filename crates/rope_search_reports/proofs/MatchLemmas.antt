-- A search for a pattern: it has one result, and where that is.
use Rattle.std.proofs.Common.{◌≡◌, ℕ, ◌+◌, ◌-◌, ◌<◌, ◌≤◌, inl, inr, List, [], ◌∷◌, ◌++◌, Option, None, Some, length, map, refl, sym, ap, subst, ◌∙◌, arith}
use Rattle.std.specs.Prelude.{option_map}
use Rattle.std.specs.List.{last_or}
use Rattle.std.specs.Str.{IsUtf8, IsCharBoundary}
use Rattle.std.proofs.lemmas.Bool.{cases_lt}
use Rattle.std.proofs.lemmas.List.{map-append}
use Rattle.regex_cursor.specs.Patterns as patterns
use Rattle.regex_cursor.specs.Patterns.{Tree, FoundMatch, TreeFinds, TreeFindsIn, TreeMatches, FirstTreeMatches, ComesBehind, BehindLast, finds_on, search_from, pattern_weight, start_of, end_of}
use Rattle.regex_cursor.specs.PatternLaws.{HasFinds, HasNotedGroups, SpellsOneTree, SpellsTreeOrNone}
use Rattle.rope_search_reports.specs.Pattern.{IsPattern, FindsMatch, FindsSpan, span_of, weight_limit}
use Rattle.regex_cursor.specs.NextMatches.{TreeFindsNext, nothing, at_once, passed}
use Rattle.rope_search_reports.specs.Finders.{start_behind}
use Rattle.rope_search_reports.specs.Text.{IsText, bytes_of}
use Rattle.rope_search_reports.specs.Laws.{IsPatternOrNot, IsOneOfThree, IsInText, FindsAreInText}

abbrev pub AllHaveFinds : Type 0
AllHaveFinds = (tree : Tree) → HasFinds tree

-- each match of a tree has noted its groups
abbrev pub AllNote : Tree → List ℕ → Type 0
AllNote tree content = (from : ℕ) (t : FoundMatch) → TreeFinds tree content from (Some t) → HasNotedGroups t

-- ---- which texts are patterns

pub pattern-or-not : SpellsTreeOrNone → IsPatternOrNot
pattern-or-not law text = elim (law text) [
  | inl some ↦ elim (cases_lt weight_limit (pattern_weight some.0)) [
    | inl heavy ↦ inr (inl (record { tree = some.0; spells = some.1; heavy = heavy }))
    | inr light ↦ inl (some.0, record { spells = some.1; light = omega (arith, light) })
  ]
  | inr none ↦ inr (inr none)
]

pub one-of-three : SpellsOneTree → IsOneOfThree
one-of-three law = record {
  not_heavy = λ text is heavy.
      let same = ap (λ tree. pattern_weight tree) (law text is.0 heavy.tree is.1.spells heavy.spells) in
      let light = is.1.light in
      let above = heavy.heavy in
      omega (arith, same, light, above);
  some = λ text is none. none is.0 is.1.spells;
  heavy_some = λ text heavy none. none heavy.tree heavy.spells;
}

-- ---- what a search finds

pub match-one : SpellsOneTree → AllHaveFinds → (pattern content : List ℕ) (from : ℕ) (a b : Option FoundMatch) → FindsMatch pattern content from a → FindsMatch pattern content from b → a ≡ b
match-one trees finds pattern content from a b one other =
    let same = trees pattern other.tree one.tree other.spells one.spells in
    let moved_to : TreeFinds one.tree content from b = subst (λ tree. TreeFinds tree content from b) same other.finds in
    (finds one.tree).one_find (search_from content from) a b one.finds moved_to

pub find-one : SpellsOneTree → AllHaveFinds → (pattern content : List ℕ) (from : ℕ) (a b : Option (ℕ × ℕ)) → FindsSpan pattern content from a → FindsSpan pattern content from b → a ≡ b
find-one trees finds pattern content from a b one other =
    one.span_is ∙ ap (option_map span_of) (match-one trees finds pattern content from one.found other.found one.is other.is) ∙ sym other.span_is

pub has-find : AllHaveFinds → (pattern content : List ℕ) (from : ℕ) → IsPattern pattern → (span : Option (ℕ × ℕ)) × FindsSpan pattern content from span
has-find finds pattern content from is =
    let found = (finds is.0).has_find (search_from content from) in (
      option_map span_of found.0,
      record { found = found.0; is = record { tree = is.0; spells = is.1.spells; finds = found.1 }; span_is = refl },
    )

-- a match of a tree is in the haystack, after the start of the search
pub record LiesBehind (content : List ℕ) (from : ℕ) (t : FoundMatch) : Type 0 where
  pub behind : from ≤ start_of t
  pub ordered : start_of t ≤ end_of t
  pub inside : end_of t ≤ length content

pub lies-behind : (tree : Tree) (content : List ℕ) (from : ℕ) (t : FoundMatch) → HasFinds tree → TreeFinds tree content from (Some t) → LiesBehind content from t
lies-behind tree content from t has finds =
    let h = (has.inside (search_from content from) t finds).found in
    record { behind = h.possible.0.2; ordered = h.ordered; inside = h.inside.4 }

pub stands : (tree : Tree) (content : List ℕ) (from : ℕ) (t : FoundMatch) → HasFinds tree → IsUtf8 content → TreeFinds tree content from (Some t)
    → IsCharBoundary content (start_of t) × IsCharBoundary content (end_of t)
stands tree content from t has utf8 finds =
    let h = has.at_boundaries (search_from content from) t utf8 refl finds in
    (h.start, h.end)

-- ---- the next match

-- it is found from some offset on, after the last match
pub comes-from : (tree : Tree) (content : List ℕ) (last : Option ℕ) (t : FoundMatch) → TreeFindsNext tree content last (Some t) → (from : ℕ) × TreeFinds tree content from (Some t)
comes-from tree content last t (at_once finds other) = (start_behind last, finds)
comes-from tree content last t (passed found empty later) = (start_behind last + 1, later)

-- how far a search for the next match may go: less with each match
abbrev pub room_behind : ℕ → Option ℕ → ℕ
room_behind len None = len + 1
room_behind len (Some end) = len - end

pub comes-further : (tree : Tree) (content : List ℕ) (last : Option ℕ) (t : FoundMatch) → HasFinds tree → TreeFindsNext tree content last (Some t)
    → room_behind (length content) (Some (end_of t)) < room_behind (length content) last
comes-further tree content None t has next = omega arith
comes-further tree content (Some end) t has (at_once finds other) =
    let h = lies-behind tree content end t has finds in
    let behind = h.behind in
    let ordered = h.ordered in
    let inside = h.inside in
    elim (cases_lt end (end_of t)) [
      | inl further ↦ omega (arith, further, inside)
      | inr there ↦ absurd (other (omega (arith, there, behind, ordered), ap Some (omega (arith, there, behind, ordered))))
    ]
comes-further tree content (Some end) t has (passed found empty later) =
    let h = lies-behind tree content (end + 1) t has later in
    let behind = h.behind in
    let ordered = h.ordered in
    let inside = h.inside in
    omega (arith, behind, ordered, inside)

some-same : {A : Type 0} (a b : A) → Some a ≡ Some b → a ≡ b
some-same a b e = cc

-- as the list of matches defines it
pub comes-behind : (tree : Tree) (content : List ℕ) (last : Option FoundMatch) (out : Option FoundMatch) → TreeFindsNext tree content (option_map end_of last) out
    → BehindLast (finds_on (TreeFindsIn tree) (search_from content 0)) 0 last out
comes-behind tree content None None (nothing finds) = finds
comes-behind tree content None (Some t) (at_once finds other) = finds
comes-behind tree content None out (passed found empty later) = absurd (cc (empty.1))
comes-behind tree content (Some a) None (nothing finds) = patterns.no_more finds
comes-behind tree content (Some a) (Some t) (at_once finds other) = patterns.at_once finds (λ starts ends. other (starts ∙ sym ends, ap Some (sym ends)))
comes-behind tree content (Some a) out (passed found empty later) =
    let at = some-same _ _ (sym empty.1) in
    patterns.moved found (empty.0 ∙ at) at later

-- ---- the matches so far

-- these are the first ones, the last of them ends there, and this is shown of each
pub record Searched {A : Type 0} (shows : FoundMatch → A) (tree : Tree) (content : List ℕ) (last : Option ℕ) (items : List A) : Type 0 where
  pub matches : List FoundMatch
  pub first : FirstTreeMatches tree content matches
  pub last_is : last ≡ option_map end_of (last_or None matches)
  pub shown : items ≡ map shows matches

pub Searched-start : {A : Type 0} (shows : FoundMatch → A) (tree : Tree) (content : List ℕ) → HasFinds tree → Searched shows tree content None []
Searched-start shows tree content has = record {
  matches = [];
  first = (has.first (search_from content 0)).none;
  last_is = refl;
  shown = refl;
}

next-is : {A : Type 0} (shows : FoundMatch → A) (tree : Tree) (content : List ℕ) (last : Option ℕ) (items : List A) (out : Option FoundMatch)
    → (s : Searched shows tree content last items) → TreeFindsNext tree content last out → ComesBehind tree content s.matches out
next-is shows tree content last items out s comes =
    comes-behind tree content (last_or None s.matches) out (subst (λ l. TreeFindsNext tree content l out) s.last_is comes)

last-more : (o : Option FoundMatch) (ms : List FoundMatch) (t : FoundMatch) → last_or o (ms ++ t ∷ []) ≡ Some t
last-more o [] t = refl
last-more o (m ∷ ms) t = last-more (Some m) ms t

pub Searched-more : {A : Type 0} (shows : FoundMatch → A) (tree : Tree) (content : List ℕ) (last : Option ℕ) (items : List A) (t : FoundMatch) → HasFinds tree
    → Searched shows tree content last items → TreeFindsNext tree content last (Some t) → Searched shows tree content (Some (end_of t)) (items ++ shows t ∷ [])
Searched-more shows tree content last items t has s comes = record {
  matches = s.matches ++ t ∷ [];
  first = ((has.first (search_from content 0)).one_more s.matches t).0 (s.first, next-is shows tree content last items (Some t) s comes);
  last_is = ap (option_map end_of) (sym (last-more None s.matches t));
  shown = ap (λ r. r ++ shows t ∷ []) s.shown ∙ sym (map-append shows s.matches (t ∷ []));
}

pub Searched-end : {A : Type 0} (shows : FoundMatch → A) (tree : Tree) (content : List ℕ) (last : Option ℕ) (items : List A) → HasFinds tree
    → (s : Searched shows tree content last items) → TreeFindsNext tree content last None → TreeMatches tree content s.matches
Searched-end shows tree content last items has s comes =
    ((has.first (search_from content 0)).all s.matches).0 (s.first, next-is shows tree content last items None s comes)

-- ---- in a text

in-text : AllHaveFinds → (text : List ℕ) (from : ℕ) (tree : Tree) (found : Option FoundMatch) (span : ℕ × ℕ) → IsText text → TreeFinds tree (bytes_of text) from found
    → Some span ≡ option_map span_of found → IsInText text from span
in-text finds text from tree None span scalars is e = absurd (cc e)
in-text finds text from tree (Some t) span scalars is e =
    let h = lies-behind tree (bytes_of text) from t (finds tree) is in
    let at = stands tree (bytes_of text) from t (finds tree) (text, (scalars, refl)) is in
    subst (IsInText text from) (sym (some-same span (span_of t) e)) (record { behind = h.behind; ordered = h.ordered; starts = at.0; ends = at.1 })

pub finds-in-text : AllHaveFinds → FindsAreInText
finds-in-text finds text pattern from span scalars is = in-text finds text from is.is.tree is.found span scalars is.is.finds is.span_is
