-- All matches in a text, from the groups that a search returns, and those of a buffer.
use Rattle.std.proofs.Common.{◌≡◌, ◌↔◌, ℕ, ◌<◌, false, List, [], ◌∷◌, length, map, refl, sym, ap, ◌∙◌, subst, arith}
use Rattle.std.specs.Prelude.{Some}
use Rattle.std.proofs.lemmas.List.{length-map}
use Rattle.str_indices.specs.Text.{byte_len}
use Rattle.rope_search_reports.specs.Laws.{HasOneListOfGroups}
use Rattle.rope_search_reports.specs.Matches.{AreFirstGroups, AreGroups, IsMatches, groups_of}
use Rattle.rope_search_reports.specs.Pattern.{span_of}
use Rattle.rope_search_reports.specs.Changes.{AreChanges}
use Rattle.rope_search_changes.specs.declared.Change.{Change}
use Rattle.rope_search_reports.specs.Replacement.{Groups, AreMatchesIn, ReplacementsAreChanges, alone, whole, changes_of, replaced, searched}
use Rattle.rope_search_reports.specs.Text.{IsText, bytes_of}
use Rattle.rope_search_changes.specs.FirstGroups.{first_groups}
use Rattle.rope_search_templates.specs.Laws.{FirstGroupsAreEnough, ReplaceAlike, SpansAreEnough}
use Rattle.rope_search_templates.specs.Templates.{NeedsGroups, names_explicit_groups}
use Rattle.rope_search.specs.Session.{BufferState, current_text}
use Rattle.rope_search.specs.Histories.{AreReplacements}
use Rattle.rope_search.specs.Replacing.{AreMatchesOfBuffer, AreEnough, GetsTooLongWith, RowsOfReplacement, GetsTooLongIn, RowsOfReplacementIn}

-- ---- everything is known of these matches

-- the text with them replaced is too long, or none is
pub long_in : HasOneListOfGroups → (limit : ℕ) (text pattern template : List ℕ) (matches : List Groups) → AreGroups pattern (bytes_of text) matches
    → limit < byte_len (replaced (bytes_of text) template 0 matches) ↔ GetsTooLongIn limit text pattern template
long_in one limit text pattern template matches are = (
  λ long. record { matches = matches; are = are; long = long },
  λ gets.
      let same = ap (λ ms. byte_len (replaced (bytes_of text) template 0 ms)) (one pattern (bytes_of text) gets.matches matches gets.are are) in
      omega (arith, gets.long, same),
)

-- this number of rows and no other
pub rows_in : HasOneListOfGroups → (text pattern template : List ℕ) (matches : List Groups) (n : ℕ) → AreGroups pattern (bytes_of text) matches
    → RowsOfReplacementIn text pattern template n → searched (bytes_of text) template matches ≡ n
rows_in one text pattern template matches n are rows =
    sym (rows.rows ∙ ap (searched (bytes_of text) template) (one pattern (bytes_of text) rows.matches matches rows.are are))

-- ---- sufficient matches

-- the result with them is that with all matches
replaced_alike : (text pattern template told : List ℕ) (shown : List Groups) → told ≡ template → (enough : AreEnough text pattern told shown)
    → replaced (bytes_of text) told 0 shown ≡ replaced (bytes_of text) template 0 enough.groups
replaced_alike text pattern template told shown same enough =
    enough.alike.text ∙ ap (λ t. replaced (bytes_of text) t 0 enough.groups) same

-- a text that is known to be within the limit isn't too long
pub not_over : HasOneListOfGroups → (limit : ℕ) (text pattern template told : List ℕ) (shown : List Groups) → AreEnough text pattern told shown
    → told ≡ template → (limit < byte_len (replaced (bytes_of text) told 0 shown) → ⊥) → GetsTooLongIn limit text pattern template → ⊥
not_over one limit text pattern template told shown enough same fits gets =
    let long = (long_in one limit text pattern template enough.groups enough.are).1 gets in
    fits (omega (arith, long, ap byte_len (replaced_alike text pattern template told shown same enough)))

-- their replacement is changes
pub changed_by : ReplacementsAreChanges → (text pattern template told new : List ℕ) (shown : List Groups) (changes : List Change) → IsText text
    → (enough : AreEnough text pattern told shown) → told ≡ template → changes ≡ changes_of (bytes_of text) told 0 0 shown
    → new ≡ replaced (bytes_of text) told 0 shown → AreChanges changes 0 0 text new (searched (bytes_of text) template enough.groups)
changed_by law text pattern template told new shown changes is_text enough same changes_are new_is =
    let content = bytes_of text in
    subst (λ n. AreChanges changes 0 0 text new n) (enough.alike.lines ∙ ap (λ t. searched content t enough.groups) same)
    (subst (λ cs. AreChanges cs 0 0 text new (searched content told shown)) (sym changes_are)
    (subst (λ t. AreChanges (changes_of content told 0 0 shown) 0 0 text t (searched content told shown)) (sym new_is) (law text told shown is_text enough.stand.follow)))

-- and these are reported
pub replacements_in : (text pattern template told : List ℕ) (shown : List Groups) (changes : List Change) → AreEnough text pattern told shown
    → told ≡ template → changes ≡ changes_of (bytes_of text) told 0 0 shown → AreReplacements text pattern template changes
replacements_in text pattern template told shown changes enough same changes_are = record {
  matches = enough.groups;
  are = enough.are;
  told = changes_are ∙ enough.alike.changes ∙ ap (λ t. changes_of (bytes_of text) t 0 0 enough.groups) same;
}

-- the spans of all matches are sufficient for a template that names no group
map-whole : {A : Type 0} (groups_of : A → Groups) (span_of : A → ℕ × ℕ) → ((a : A) → whole (groups_of a) ≡ span_of a) → (ms : List A)
    → map whole (map groups_of ms) ≡ map span_of ms
map-whole groups_of span_of same [] = refl
map-whole groups_of span_of same (m ∷ ms) =
    ap (λ s. s ∷ map whole (map groups_of ms)) (same m) ∙ ap (λ l. span_of m ∷ l) (map-whole groups_of span_of same ms)

pub enough_spans : SpansAreEnough → (text pattern template : List ℕ) (spans : List (ℕ × ℕ)) → names_explicit_groups template ≡ false
    → IsMatches pattern (bytes_of text) spans → AreMatchesIn (bytes_of text) (map alone spans) → AreEnough text pattern template (map alone spans)
enough_spans law text pattern template spans none are stand =
    let groups = map groups_of are.matches in
    let same : map whole groups ≡ spans = map-whole groups_of span_of (λ m. refl) are.matches ∙ sym are.spans_are in
    record {
      groups = groups;
      are = record { matches = are.matches; are = are.are; groups_are = refl };
      counted = length-map spans alone ∙ ap length are.spans_are ∙ length-map are.matches span_of ∙ sym (length-map are.matches groups_of);
      stand = stand;
      alike = subst (λ ss. ReplaceAlike (bytes_of text) template (map alone ss) groups) same (law (bytes_of text) template groups none);
    }

-- and the groups up to the last one that it names are
pub enough_groups : FirstGroupsAreEnough → (text pattern template : List ℕ) (count : ℕ) (groups : List Groups) → NeedsGroups template count
    → AreFirstGroups count pattern (bytes_of text) groups → AreMatchesIn (bytes_of text) groups → AreEnough text pattern template groups
enough_groups law text pattern template count groups needs are stand = record {
  groups = are.all;
  are = are.are;
  counted = ap length are.first ∙ length-map are.all (first_groups count);
  stand = stand;
  alike = subst (λ gs. ReplaceAlike (bytes_of text) template gs are.all) (sym are.first) (law (bytes_of text) template count are.all needs);
}

-- ---- the buffer's text, and its pattern

-- they are the matches of the buffer's pattern
pub in_buffer : (b : BufferState) (pattern text : List ℕ) (matches : List Groups) → b.pattern ≡ Some pattern → text ≡ current_text b
    → AreGroups pattern (bytes_of text) matches → AreMatchesOfBuffer b matches
in_buffer b pattern text matches is here are = record {
  pattern = pattern;
  is_pattern = is;
  are = subst (λ t. AreGroups pattern (bytes_of t) matches) here are;
}

-- and these are all
in_text : (b : BufferState) (pattern text : List ℕ) (matches : List Groups) → b.pattern ≡ Some pattern → text ≡ current_text b
    → AreMatchesOfBuffer b matches → AreGroups pattern (bytes_of text) matches
in_text b pattern text matches is here all =
    let both : Some all.pattern ≡ Some pattern = sym all.is_pattern ∙ is in
    let same : all.pattern ≡ pattern = cc in
    subst (λ t. AreGroups pattern (bytes_of t) matches) (sym here) (subst (λ p. AreGroups p (bytes_of (current_text b)) matches) same all.are)

pub long_with : (limit : ℕ) (b : BufferState) (pattern text template : List ℕ) → b.pattern ≡ Some pattern → text ≡ current_text b
    → GetsTooLongIn limit text pattern template ↔ GetsTooLongWith limit b template
long_with limit b pattern text template is here = (
  λ gets. record {
    matches = gets.matches;
    are = in_buffer b pattern text gets.matches is here gets.are;
    long = subst (λ t. limit < byte_len (replaced (bytes_of t) template 0 gets.matches)) here gets.long;
  },
  λ gets. record {
    matches = gets.matches;
    are = in_text b pattern text gets.matches is here gets.are;
    long = subst (λ t. limit < byte_len (replaced (bytes_of t) template 0 gets.matches)) (sym here) gets.long;
  },
)

pub rows_of : (b : BufferState) (pattern text template : List ℕ) (n : ℕ) → b.pattern ≡ Some pattern → text ≡ current_text b
    → RowsOfReplacement b template n → RowsOfReplacementIn text pattern template n
rows_of b pattern text template n is here rows = record {
  matches = rows.matches;
  are = in_text b pattern text rows.matches is here rows.are;
  rows = rows.rows ∙ ap (λ t. searched (bytes_of t) template rows.matches) (sym here);
}
