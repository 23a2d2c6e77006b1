-- The matches of the program of several patterns have noted their start and end.
use Rattle.std.proofs.Common.{◌≡◌, ℕ, zero, suc, ◌+◌, ◌-◌, ◌*◌, ◌<◌, ◌≤◌, Bool, List, [], ◌∷◌, length, Option, Some, None, slice_get, refl, sym, ap, subst, ◌∙◌, arith}
use Rattle.std.specs.List.{All}
use Rattle.std.proofs.lemmas.List.Elements.{All-head, All-tail}
use Rattle.std.proofs.lemmas.Option.{slice_get_within}
use Rattle.rx_sets.specs.Sets.{Range}
use Rattle.rx_utf8.specs.Automata.{is_in}
use Rattle.rx_grammar.specs.Trees.{Tree, numbers_of}
use Rattle.rx_grammar.specs.Subtrees.{IsWellFormed}
use Rattle.rx_grammar.specs.Weights.{size_of}
use Rattle.rx_walks.specs.Looks as walks
use Rattle.rx_walks.specs.Machines.{Outcome}
use Rattle.rx_walks.specs.Walks.{Walk, ended, went, took}
use Rattle.rx_walks.specs.Finds.{Anchoring, unanchored, anchored, anchored_pattern, Search, IsFind, is_found}
use Rattle.rx_walks.specs.Programs.{pass, Program, Haystack, over_characters, Notes, fresh_notes, put_note, slot_of}
use Rattle.rx_walks.specs.ProgramFinds.{first_by, holds_in, haystack_of, machine_of, start_node, IfStarts, ProgramFinds, start_of}
use Rattle.rx_program.specs.Code.{Code, pattern_code, patterns_code, pattern_starts, program_of}
use Rattle.rx_program.specs.Laws.{HasNotedOwn, IsOfPattern, NotesOwnPlaces, ProgramsNoteTheirPlaces}
use Rattle.rx_program.proofs.ClosedLaws.{several, code_length, pattern_length}
use Rattle.rx_program.proofs.NoteLaws.{same_edges, ends_by, goes_by, reads_by, from_one, first_start, HasPattern, Noted, pattern_stands, stands_alone, from_start, start_kept}
use Rattle.rx_program.proofs.GroupLaws.{Stands, stands_left, stands_right}

-- the pattern with number p + c is among the nodes, from q on
record HasStart (nodes : Code) (p c q : ℕ) : Type 0 where
  number : ℕ
  last : ℕ
  number_is : number ≡ p + c
  stands : HasPattern nodes number q last

first_of_row : {X : Type 0} {x y : X} → Some x ≡ Some y → x ≡ y
first_of_row e = cc e

pattern_at : (nodes : Code) (trees : List Tree) (slots p at c q : ℕ) → 2 * p + 2 * length trees ≤ slots + 2 → All IsWellFormed trees → Stands nodes at (patterns_code slots p trees at) → slice_get (pattern_starts trees at) c ≡ Some q → HasStart nodes p c q
pattern_at nodes [] slots p at c q low well stands e = absurd (cc e)
pattern_at nodes (tree ∷ trees) slots p at zero q low well stands e =
    let code = pattern_code slots p tree at in
    let others = patterns_code (slots + 2 * length (numbers_of tree)) (p + 1) trees (at + 3 + size_of tree) in
    let same : at ≡ q = first_of_row e in
    let front = stands_left nodes at code others stands in
    let pattern = pattern_stands nodes slots p tree at (omega (arith, low)) (from_one tree (All-head IsWellFormed tree trees well)) (code_length slots tree (at + 1) (at + 1 + size_of tree))
    (λ d below. front d (omega (arith, below, pattern_length slots p tree at))) in
    record { number = p; last = at + 1 + size_of tree; number_is = omega arith; stands = subst (λ x. HasPattern nodes p x (at + 1 + size_of tree)) same pattern }
pattern_at nodes (tree ∷ trees) slots p at (suc c) q low well stands e =
    let s = size_of tree in
    let more = slots + 2 * length (numbers_of tree) in
    let code = pattern_code slots p tree at in
    let others = patterns_code more (p + 1) trees (at + 3 + s) in
    let same : at + (3 + s) ≡ at + 3 + s = omega arith in
    let behind_it = subst (λ a. Stands nodes a others) same (stands_right nodes at (3 + s) code others (pattern_length slots p tree at) stands) in
    let on = pattern_at nodes trees more (p + 1) (at + 3 + s) c q (omega (arith, low)) (All-tail IsWellFormed tree trees well) behind_it e in
    record { number = on.number; last = on.last; number_is = omega (arith, on.number_is); stands = on.stands }

own_noted : (k i : ℕ) (t : Outcome Notes) → Noted k i t → HasNotedOwn i t
own_noted k i t noted = record {
  start = ap (λ x. slot_of t.notes (2 * x)) noted.pattern ∙ noted.start;
  end = ap (λ x. slot_of t.notes (2 * x + 1)) noted.pattern ∙ noted.end;
}

-- a match of the pattern with this number
record NotesPattern (c i : ℕ) (t : Outcome Notes) : Type 0 where
  noted : HasNotedOwn i t
  pattern : t.pattern ≡ c

-- a match of one of the patterns, of the one to which the search is anchored
record NotesOne (count : ℕ) (anchoring : Anchoring) (i : ℕ) (t : Outcome Notes) : Type 0 where
  noted : HasNotedOwn i t
  known : t.pattern < count
  anchored : (k : ℕ) → anchoring ≡ anchored_pattern k → t.pattern ≡ k

module _ (first : List Range → List ℕ → Option ℕ) (h : Haystack walks.Look) (trees : List Tree) (terminator : ℕ) (well : All IsWellFormed trees) where
  abbrev Walked : List ℕ → Notes → ℕ → ℕ → List ℕ → Outcome Notes → Type 0
  Walked seen n q i cs t = Walk (over_characters put_note first (several trees terminator).nodes h) seen n q i cs t

  stand : Stands (several trees terminator).nodes 1 (patterns_code (2 * length trees - 2) 0 trees 1)
  stand c below = let same : 1 + c ≡ suc c = omega arith in ap (slice_get (several trees terminator).nodes) same

  from_pattern : {seen : List ℕ} {n : Notes} {q i : ℕ} {cs : List ℕ} {t : Outcome Notes} (c : ℕ) → slice_get (pattern_starts trees 1) c ≡ Some q → Walked seen n q i cs t → NotesPattern c i t
  from_pattern {q = q} {i = i} {t = t} c at w =
      let has = pattern_at (several trees terminator).nodes trees (2 * length trees - 2) 0 1 c q (omega arith) well stand at in
      let noted = from_start first h (several trees terminator).nodes has.number q has.last has.stands refl w in
      record { noted = own_noted has.number i t noted; pattern = omega (arith, noted.pattern, has.number_is) }

  is_known : (c q : ℕ) → slice_get (pattern_starts trees 1) c ≡ Some q → c < length (pattern_starts trees 1)
  is_known c q at = slice_get_within (pattern_starts trees 1) c q at

  -- from the node above all patterns
  from_above : {seen : List ℕ} {n : Notes} {q i : ℕ} {cs : List ℕ} {t : Outcome Notes} (anchoring : Anchoring) → ((k : ℕ) → anchoring ≡ anchored_pattern k → ⊥) → q ≡ 0 → Walked seen n q i cs t → NotesOne (length (pattern_starts trees 1)) anchoring i t
  from_above anchoring free e (ended {q = q} {i = j} {p = p} new is) =
      absurd (cc (ends_by first h (several trees terminator).nodes q j p (Some (pass (pattern_starts trees 1))) (ap (slice_get (several trees terminator).nodes) e) is))
  from_above anchoring free e (went {q = q} {i = j} {k = c} rs r new is on w) =
      let same = goes_by first h (several trees terminator).nodes q j rs c r (Some (pass (pattern_starts trees 1))) (ap (slice_get (several trees terminator).nodes) e) is on in
      let at : slice_get (pattern_starts trees 1) c ≡ Some r = ap (λ xs. slice_get xs c) (same_edges (pattern_starts trees 1) rs same) ∙ on in
      let one = from_pattern c at w in
      record { noted = one.noted; known = omega (arith, one.pattern, is_known c r at); anchored = λ k is. absurd (free k is) }
  from_above anchoring free e (took {q = q} {i = j} r j' new is w) =
      absurd (cc (reads_by first h (several trees terminator).nodes q j r j' (Some (pass (pattern_starts trees 1))) (ap (slice_get (several trees terminator).nodes) e) is))

  several_note : {i : ℕ} {cs : List ℕ} {t : Outcome Notes} (anchoring : Anchoring) (q : ℕ) → start_node (several trees terminator) anchoring ≡ Some q → Walked [] (fresh_notes i) q i cs t → NotesOne (length (pattern_starts trees 1)) anchoring i t
  several_note unanchored q e w = from_above unanchored (λ k is. cc is) (cc e) w
  several_note anchored q e w = from_above anchored (λ k is. cc is) (cc e) w
  several_note (anchored_pattern c) q e w =
      let one = from_pattern c e w in
      record { noted = one.noted; known = omega (arith, one.pattern, is_known c q e); anchored = λ k is. (let same : c ≡ k = cc is in one.pattern ∙ same) }

-- one pattern
only_first : (c q : ℕ) → slice_get (0 ∷ []) c ≡ Some q → c ≡ 0
only_first zero q e = refl
only_first (suc c) q e = absurd (cc e)

anchored_first : (tree : Tree) (terminator q : ℕ) (anchoring : Anchoring) → start_node (program_of (tree ∷ []) terminator) anchoring ≡ Some q → (k : ℕ) → anchoring ≡ anchored_pattern k → k ≡ 0
anchored_first tree terminator q unanchored e k is = absurd (cc is)
anchored_first tree terminator q anchored e k is = absurd (cc is)
anchored_first tree terminator q (anchored_pattern c) e k is = let same : c ≡ k = cc is in sym same ∙ only_first c q e

module _ (first : List Range → List ℕ → Option ℕ) (h : Haystack walks.Look) where
  abbrev NotesOwn : Program walks.Look (List Range) → Type 0
  NotesOwn p = (i : ℕ) (cs : List ℕ) (t : Outcome Notes) (anchoring : Anchoring) (q : ℕ) → start_node p anchoring ≡ Some q → Walk (over_characters put_note first p.nodes h) [] (fresh_notes i) q i cs t → NotesOne (length p.patterns) anchoring i t

  one_notes : (tree : Tree) (terminator : ℕ) → IsWellFormed tree → NotesOwn (program_of (tree ∷ []) terminator)
  one_notes tree terminator well i cs t anchoring q e w =
      let noted = from_start first h (pattern_code 0 0 tree 0) 0 0 (0 + 1 + size_of tree) (stands_alone tree well) (first_start tree terminator q anchoring e) w in
      record { noted = own_noted 0 i t noted; known = omega (arith, noted.pattern); anchored = λ k is. noted.pattern ∙ sym (anchored_first tree terminator q anchoring e k is) }

  all_note : (trees : List Tree) (terminator : ℕ) → All IsWellFormed trees → NotesOwn (program_of trees terminator)
  all_note [] terminator well i cs t anchoring q e w = several_note first h [] terminator well anchoring q e w
  all_note (tree ∷ []) terminator well i cs t anchoring q e w = one_notes tree terminator (All-head IsWellFormed tree [] well) i cs t anchoring q e w
  all_note (tree ∷ other ∷ trees) terminator well i cs t anchoring q e w = several_note first h (tree ∷ other ∷ trees) terminator well anchoring q e w

module _ (trees : List Tree) (terminator : ℕ) (well : All IsWellFormed trees) (is_word : ℕ → Bool) (s : Search) where
  abbrev NotesIt : ℕ → Outcome Notes → Type 0
  NotesIt i t = HasNotedOwn i t × IsOfPattern (program_of trees terminator) s.anchoring t

  walks_note : (q i : ℕ) (cs : List ℕ) (t : Outcome Notes) → start_node (program_of trees terminator) s.anchoring ≡ Some q → Walk (machine_of is_in is_word (program_of trees terminator) s) [] (fresh_notes i) q i cs t → NotesIt i t
  walks_note q i cs t e w =
      let one = all_note (first_by is_in) (haystack_of (holds_in is_word (program_of trees terminator).line_terminator s) s) trees terminator well i cs t s.anchoring q e w in
      (one.noted, record { known = one.known; anchored = one.anchored })

  found_notes : (q : ℕ) (t : Outcome Notes) → start_node (program_of trees terminator) s.anchoring ≡ Some q → IsFind (machine_of is_in is_word (program_of trees terminator) s) fresh_notes s q (Some t) → NotesIt (start_of t) t
  found_notes q t e (is_found {i = i} counts before_it) =
      let kept : t.notes.start ≡ i = start_kept (first_by is_in) (haystack_of (holds_in is_word (program_of trees terminator).line_terminator s) s) (program_of trees terminator).nodes counts.least.walk in
      subst (λ x. NotesIt x t) (sym kept) (walks_note q i counts.least.choices t e counts.least.walk)

  finds_note : (t : Outcome Notes) → ProgramFinds is_in is_word (program_of trees terminator) s (Some t) → NotesIt (start_of t) t
  finds_note t finds = by_start (start_node (program_of trees terminator) s.anchoring) refl finds
    where
      by_start : (o : Option ℕ) → start_node (program_of trees terminator) s.anchoring ≡ o → IfStarts o (IsFind (machine_of is_in is_word (program_of trees terminator) s) fresh_notes s) (Some t) → NotesIt (start_of t) t
      by_start None e none = absurd (cc none)
      by_start (Some q) e found = found_notes q t e found

  notes_own_places : NotesOwnPlaces is_word (program_of trees terminator) s
  notes_own_places = record { walks = walks_note; finds = finds_note }

pub programs_note_their_places : ProgramsNoteTheirPlaces
programs_note_their_places trees terminator well is_word p s e = subst (λ x. NotesOwnPlaces is_word x s) (sym e) (notes_own_places trees terminator well is_word s)
