-- A step of a search that continues: the next match, and the state after it.
use Rattle.std.proofs.Common.{◌≡◌, ℕ, ◌≤◌, Bool, true, false, List, Option, None, Some, length, refl, sym, ap, subst, ◌∙◌}
use Rattle.std.specs.Prelude.{option_map, IfNone, IfOk, IfSome, Result, Ok}
use Rattle.regex_cursor.specs.Linear.{GivesSlots, IsLeftBehind, LinearState, left_of}
use Rattle.regex_cursor.specs.Patterns.{Tree, Asked, AsksFrom, FoundMatch, answer_slots, end_of}
use Rattle.regex_cursor.specs.PatternLaws.{HasFinds}
use Rattle.regex_cursor.specs.Regexes.{EngineFinds, IsRegexOf, RegexView}
use Rattle.regex_cursor.specs.NextMatches.{TreeFindsNext}
use Rattle.regex_cursor.proofs.TreeLaws.{finds_of_trees, next_of_trees, regexes_have_trees}
use Rattle.rope_search_reports.specs.Finders.{FinderTells, PassState, group_told, start_behind}
use Rattle.rope_search_reports.specs.Pattern.{span_of}
use Rattle.rope_search_reports.proofs.FinderLemmas.{whole-told}
use Rattle.rope_search_reports.proofs.MatchLemmas.{comes-from, lies-behind}
use Rattle.rope_search_reports.proofs.NextLemmas.{asks-moved}

-- the result of a step: a match or none if the search isn't over, otherwise none
pub record Step (re : RegexView) (m n : LinearState) (pattern : Option ℕ) (slots : List (Option ℕ)) : Type 0 where
  pub next : m.is_over ≡ false → GivesSlots (EngineFinds re.engine) (left_of re.engine m) pattern slots (left_of re.engine n)
  pub over : m.is_over ≡ true → pattern ≡ None
  pub stays_over : m.is_over ≡ true → n.is_over ≡ true

pub step-of : {E : Type 0} (re : RegexView) (m n : LinearState) (result : Result (Option ℕ) E) (pattern : Option ℕ) (slots : List (Option ℕ)) → result ≡ Ok pattern
    → (m.is_over ≡ false → IfOk result (λ p. GivesSlots (EngineFinds re.engine) (left_of re.engine m) p slots (left_of re.engine n)))
    → (m.is_over ≡ true → IfOk result (λ p. p ≡ None)) → (m.is_over ≡ true → n.is_over ≡ true) → Step re m n pattern slots
step-of re m n result pattern slots is next over stays_over = record {
  next = λ on. subst (λ r. IfOk r (λ p. GivesSlots (EngineFinds re.engine) (left_of re.engine m) p slots (left_of re.engine n))) is (next on);
  over = λ off. subst (λ r. IfOk r (λ p. p ≡ None)) is (over off);
  stays_over = stays_over;
}

-- the state after the match
abbrev pub IsLeft : Option FoundMatch → LinearState → Type 0
IsLeft None n = n.is_over ≡ true
IsLeft (Some t) n = (n.last_end ≡ Some (end_of t)) × (n.is_over ≡ false) × (n.input.asked.span.start ≡ end_of t)

left-is : (re : RegexView) (m n : LinearState) (out : Option FoundMatch) → IsLeftBehind (left_of re.engine m) out (left_of re.engine n) → IsLeft out n
left-is re m n None is = is
left-is re m n (Some t) is = (ap (λ l. l.last_end) is, ap (λ l. l.is_over) is, ap (λ l. l.search.start) is)

-- the match, by the tree
pub record Came (tree : Tree) (content : List ℕ) (m n : LinearState) (pattern : Option ℕ) (slots : List (Option ℕ)) : Type 0 where
  pub out : Option FoundMatch
  pub comes : TreeFindsNext tree content m.last_end out
  pub pattern_is : pattern ≡ option_map (λ t. t.pattern) out
  pub slots_are : slots ≡ answer_slots (length slots) out
  pub whole : group_told slots 0 ≡ option_map span_of out
  pub left : IsLeft out n

pub came-of : (text : List ℕ) (re : RegexView) → (built : IsRegexOf text re) → (content : List ℕ) (m n : LinearState) (pattern : Option ℕ) (slots : List (Option ℕ)) → Step re m n pattern slots
    → m.is_over ≡ false → AsksFrom content (start_behind m.last_end) m.input → 2 ≤ length slots → Came built.tree content m n pattern slots
came-of text re built content m n pattern slots step on asks two =
    let gives = step.next on in
    let comes = next_of_trees text re built content m.last_end m.input gives.out asks gives.comes in
    record {
      out = gives.out;
      comes = comes;
      pattern_is = gives.pattern_is;
      slots_are = gives.slots_are;
      whole =
          whole-told slots gives.out two gives.slots_are
          (λ t is.
          let from = comes-from built.tree content m.last_end t (subst (TreeFindsNext built.tree content m.last_end) is comes) in
          regexes_have_trees.noted text re built content from.0 t from.1);
      left = left-is re m n gives.out gives.left_is;
    }

-- ---- its result

pub came-told : (tree : Tree) (content : List ℕ) (m n : LinearState) (pattern : Option ℕ) (slots : List (Option ℕ)) → Came tree content m n pattern slots
    → FinderTells (TreeFindsNext tree content m.last_end) (group_told slots 0) slots
came-told tree content m n pattern slots came = record { out = came.out; is = came.comes; span_is = came.whole; slots_are = came.slots_are }

-- ---- the state after it

pub came-on : (tree : Tree) (content : List ℕ) (m n : LinearState) (pattern : Option ℕ) (slots : List (Option ℕ)) (span : ℕ × ℕ) → Came tree content m n pattern slots → group_told slots 0 ≡ Some span
    → (n.last_end ≡ Some span.1) × (n.is_over ≡ false)
came-on tree content m n pattern slots span came is = by came.out (sym is ∙ came.whole) came.left
  where
    by : (out : Option FoundMatch) → Some span ≡ option_map span_of out → IsLeft out n → (n.last_end ≡ Some span.1) × (n.is_over ≡ false)
    by None e left = absurd (cc e)
    by (Some t) e left =
        let same : span ≡ span_of t = cc e in
        (left.0 ∙ ap (λ (s : ℕ × ℕ). Some s.1) (sym same), left.1)

pub came-ends : (tree : Tree) (content : List ℕ) (m n : LinearState) (pattern : Option ℕ) (slots : List (Option ℕ)) → Came tree content m n pattern slots → group_told slots 0 ≡ None → n.is_over ≡ true
came-ends tree content m n pattern slots came is = by came.out (sym is ∙ came.whole) came.left
  where
    by : (out : Option FoundMatch) → None ≡ option_map span_of out → IsLeft out n → n.is_over ≡ true
    by None e left = left
    by (Some t) e left = absurd (cc e)

-- it searches after the last match, in the haystack
abbrev pub AsksBehind : LinearState → Type 0
AsksBehind m = AsksFrom m.input.cursor.content (start_behind m.last_end) m.input × (start_behind m.last_end ≤ length m.input.cursor.content)

asks-behind : (n : LinearState) (content : List ℕ) (start end : ℕ) → n.last_end ≡ Some end → start ≡ end → n.input.cursor.content ≡ content → AsksFrom content start n.input → end ≤ length content
    → AsksBehind n
asks-behind n content start end last at same asks inside =
    let asks' : AsksFrom content end n.input = subst (λ s. AsksFrom content s n.input) at asks in
    let Asks : List ℕ → Option ℕ → Type 0 = λ cs l. AsksFrom cs (start_behind l) n.input × (start_behind l ≤ length cs) in
    subst (λ cs. Asks cs n.last_end) (sym same) (subst (λ l. Asks content l) (sym last) (asks', inside))

-- the end of the next match is in the haystack
ends-inside : (tree : Tree) (content : List ℕ) (last : Option ℕ) (t : FoundMatch) → HasFinds tree → TreeFindsNext tree content last (Some t) → end_of t ≤ length content
ends-inside tree content last t has comes =
    let from = comes-from tree content last t comes in
    (lies-behind tree content from.0 t has from.1).inside

came-behind : (tree : Tree) (m n : LinearState) (pattern : Option ℕ) (slots : List (Option ℕ)) (start : ℕ) → HasFinds tree → Came tree m.input.cursor.content m n pattern slots → AsksBehind m
    → n.input.cursor.content ≡ m.input.cursor.content → n.input.asked ≡ record m.input.asked { span = record m.input.asked.span { start = start } } → n.is_over ≡ false → AsksBehind n
came-behind tree m n pattern slots start has came asks same asked on = by came.out came.comes came.left
  where
    by : (out : Option FoundMatch) → TreeFindsNext tree m.input.cursor.content m.last_end out → IsLeft out n → AsksBehind n
    by None comes left = absurd (let both : true ≡ false = sym left ∙ on in cc both)
    by (Some t) comes left =
        let starts : n.input.asked.span.start ≡ start = ap (λ (a : Asked). a.span.start) asked in
        let moved = asks-moved m.input.cursor.content (start_behind m.last_end) start m.input n.input asks.0 same asked in
        asks-behind n m.input.cursor.content start (end_of t) left.0 (sym starts ∙ left.2) same moved (ends-inside tree m.input.cursor.content m.last_end t has comes)

-- so it does after a step, if it continues
pub step-behind : (text : List ℕ) (re : RegexView) → IsRegexOf text re → (m n : LinearState) (pattern : Option ℕ) (slots : List (Option ℕ)) (start : ℕ) → Step re m n pattern slots
    → (m.is_over ≡ false → AsksBehind m) → 2 ≤ length slots → n.input.cursor.content ≡ m.input.cursor.content
    → n.input.asked ≡ record m.input.asked { span = record m.input.asked.span { start = start } } → n.is_over ≡ false → AsksBehind n
step-behind text re built m n pattern slots start step asks two same asked on = by m.is_over refl
  where
    by : (is_over : Bool) → m.is_over ≡ is_over → AsksBehind n
    by true is = absurd (let both : true ≡ false = sym (step.stays_over is) ∙ on in cc both)
    by false is =
        let came = came-of text re built m.input.cursor.content m n pattern slots step is (asks is).0 two in
        came-behind built.tree m n pattern slots start (finds_of_trees built.tree) came (asks is) same asked on

-- it wasn't over if a match is returned
pub on-of : (re : RegexView) (m n : LinearState) (pattern : Option ℕ) (k : ℕ) (slots : List (Option ℕ)) → Step re m n pattern slots → pattern ≡ Some k → m.is_over ≡ false
on-of re m n pattern k slots step is = by m.is_over refl
  where
    by : (is_over : Bool) → m.is_over ≡ is_over → is_over ≡ false
    by true off = absurd (let both : Some k ≡ None = sym is ∙ step.over off in cc both)
    by false off = refl

abbrev pub pass_state : LinearState → RegexView → PassState
pass_state m re = record { content = m.input.cursor.content; last = m.last_end; is_over = m.is_over; by = re }

abbrev pub gone_on : PassState → ℕ → PassState
gone_on p end = record { content = p.content; last = Some end; is_over = false; by = p.by }

-- the view of the search then
pub goes-on : (tree : Tree) (m n : LinearState) (pattern : Option ℕ) (slots : List (Option ℕ)) (told : Option (ℕ × ℕ)) (re : RegexView) (p : PassState) → Came tree m.input.cursor.content m n pattern slots
    → told ≡ group_told slots 0 → n.input.cursor.content ≡ m.input.cursor.content
    → pass_state m re ≡ p
    → IfSome told (λ span. pass_state n re ≡ gone_on p span.1)
goes-on tree m n pattern slots None re p came is same seen = tt
goes-on tree m n pattern slots (Some span) re p came is same seen =
    let on = came-on tree m.input.cursor.content m n pattern slots span came (sym is) in
    let state : List ℕ → Option ℕ → Bool → RegexView → PassState = λ content last is_over by. record { content = content; last = last; is_over = is_over; by = by } in
    ap (λ content. state content n.last_end n.is_over re) (same ∙ ap (λ q. q.content) seen)
    ∙ ap (λ last. state p.content last n.is_over re) on.0
    ∙ ap (λ is_over. state p.content (Some span.1) is_over re) on.1
    ∙ ap (λ by. state p.content (Some span.1) false by) (ap (λ q. q.by) seen)

pub ends-then : (tree : Tree) (m n : LinearState) (pattern : Option ℕ) (slots : List (Option ℕ)) (told : Option (ℕ × ℕ)) → Came tree m.input.cursor.content m n pattern slots → told ≡ group_told slots 0
    → IfNone told (n.is_over ≡ true)
ends-then tree m n pattern slots None came is = came-ends tree m.input.cursor.content m n pattern slots came (sym is)
ends-then tree m n pattern slots (Some span) came is = tt
