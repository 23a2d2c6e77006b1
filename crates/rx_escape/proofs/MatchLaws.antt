-- The matches of an escaped text.
use Rattle.std.proofs.Common.{◌≡◌, ℕ, zero, suc, ◌+◌, ◌≤◌, Bool, true, List, [], ◌∷◌, ◌++◌, map, append-nil, append_assoc, length, length-append, encode_utf8_all, take, Option, Some, slice_get, refl, sym, ap, subst, ◌∙◌, arith, inl}
use Rattle.std.specs.Char.{encode_utf8}
use Rattle.std.specs.Str.{all_scalars}
use Rattle.std.proofs.Math.Utf8.{scalar}
use Rattle.std.proofs.lemmas.Bool.{and_parts, cases_eq}
use Rattle.std.proofs.lemmas.Bool.Decides.{nat_tests}
use Rattle.std.proofs.lemmas.List.{length-take}
use Rattle.memchr.specs.Find.{OccursAt}
use Rattle.rx_sets.specs.Sets.{Range, ordinal}
use Rattle.rx_sets.proofs.FoldLemmas.{ordinal-unique}
use Rattle.rx_utf8.specs.Automata.{is_in}
use Rattle.rx_walks.specs.Looks.{Look}
use Rattle.rx_walks.specs.Machines.{Machine, Move, Outcome, goes, ends}
use Rattle.rx_walks.specs.Paths.{Path, at_end, by_edge}
use Rattle.rx_walks.specs.Walks.{Walk, ended, went, took, IsLeast, Reaches}
use Rattle.rx_walks.specs.Finds.{Search, IsInside}
use Rattle.rx_walks.specs.Programs.{Node, match, pass, note, set, Program, Haystack, Notes, fresh_notes, put_note, note_at, only_if, is_within, by_character}
use Rattle.rx_walks.specs.ProgramFinds.{first_by, haystack_of, holds_in, highest, lowest, machine_of}
use Rattle.rx_walks.proofs.PathLaws.{path_has_walk}
use Rattle.rx_grammar.specs.Settings.{default_settings}
use Rattle.rx_grammar.specs.Trees.{in_a_row}
use Rattle.rx_grammar.specs.Weights.{size_of, all_sizes_of}
use Rattle.rx_grammar.proofs.GrammarLaws.{Spells-unique}
use Rattle.rx_program.specs.Code.{Code, code_of, row_code, program_of}
use Rattle.rx_program.proofs.NoteLaws.{behind, only_edge, same_edges, ends_by, goes_by, reads_by}
use Rattle.rx_literals.specs.Literals.{MatchesOnly, literal_match}
use Rattle.rx_literals.specs.Spellings.{IsOnlyMember, ReadsOnly, SpellsLiteral, NotesEnd}
use Rattle.rx_literals.proofs.SpellingLaws.{spells_first, spells_on, matches_only}
use Rattle.rx_escape.specs.Escaped.{escaped, character_tree, text_tree}
use Rattle.rx_escape.specs.Laws.{MatchesItsText}
use Rattle.rx_escape.proofs.EscapedLaws.{single, scalar_value, only_ordinal, own_ordinal, spells_its_text}

-- ---- the program of a text

-- nodes that read the text, numbered from `at` on
abbrev pub reading : List ℕ → ℕ → Code
reading [] at = []
reading (c ∷ text) at = set (single c) (at + 1) ∷ reading text (at + 1)

reading_length : (text : List ℕ) (at : ℕ) → length (reading text at) ≡ length text
reading_length [] at = refl
reading_length (c ∷ text) at = omega (arith, reading_length text (at + 1))

row_size : (c d : ℕ) (text : List ℕ) → all_sizes_of (in_a_row (character_tree c) (character_tree d) (map character_tree text)) ≡ length (c ∷ d ∷ text)
row_size c d [] = refl
row_size c d (e ∷ text) = omega (arith, row_size d e text)

text_size : (c : ℕ) (text : List ℕ) → size_of (text_tree (c ∷ text)) ≡ length (c ∷ text)
text_size c [] = refl
text_size c (d ∷ text) = row_size c d text

row_reads : (c d : ℕ) (text : List ℕ) (at next : ℕ) → next ≡ at + length (c ∷ d ∷ text) → row_code 0 (in_a_row (character_tree c) (character_tree d) (map character_tree text)) at next ≡ reading (c ∷ d ∷ text) at
row_reads c d [] at next is =
    let last : next ≡ at + 1 + 1 = omega (arith, is) in
    ap (λ n. set (single c) (at + 1) ∷ set (single d) n ∷ []) last
row_reads c d (e ∷ text) at next is =
    ap (λ nodes. set (single c) (at + 1) ∷ nodes) (row_reads d e text (at + 1) next (omega (arith, is)))

text_reads : (c : ℕ) (text : List ℕ) (at next : ℕ) → next ≡ at + length (c ∷ text) → code_of 0 (text_tree (c ∷ text)) at next ≡ reading (c ∷ text) at
text_reads c [] at next is =
    let last : next ≡ at + 1 = omega (arith, is) in
    ap (λ n. set (single c) n ∷ []) last
text_reads c (d ∷ text) at next is = row_reads c d text at next is

-- ---- a text with characters

only_member : (c : ℕ) → scalar c ≡ true → IsOnlyMember (single c) c
only_member c is = record {
  scalar = is;
  member = own_ordinal (ordinal c) (ordinal c) refl;
  only = λ d other member. ordinal-unique d c (scalar_value d other) (scalar_value c is) (only_ordinal (ordinal c) (ordinal d) member);
}

module _ (p : Program Look (List Range)) where
  reads_on : (text : List ℕ) (before after : Code) (literal : List ℕ) (at : ℕ) → all_scalars text ≡ true → p.nodes ≡ before ++ (reading text at ++ after) → at ≡ length before
      → SpellsLiteral p literal at → SpellsLiteral p (literal ++ encode_utf8_all text) (at + length text)
  reads_on [] before after literal at all nodes is spells =
      let there : at ≡ at + 0 = omega arith in
      subst (λ n. SpellsLiteral p (literal ++ []) n) there (subst (λ bytes. SpellsLiteral p bytes at) (sym (append-nil literal)) spells)
  reads_on (c ∷ text) before after literal at all nodes is spells =
      let parts : (scalar c ≡ true) × (all_scalars text ≡ true) = and_parts _ _ all in
      let place : at ≡ length before + 0 = omega (arith, is) in
      let here : slice_get p.nodes at ≡ Some (set (single c) (at + 1)) =
      ap (λ n. slice_get n at) nodes ∙ ap (slice_get (before ++ (reading (c ∷ text) at ++ after))) place ∙ behind before (reading (c ∷ text) at ++ after) 0 in
      let over : ReadsOnly (slice_get p.nodes at) c (at + 1) = record { ranges = single c; here_is = here; only = only_member c parts.0 } in
      let next = spells_on p literal (literal ++ encode_utf8 c) at c (at + 1) over refl spells in
      let nodes' : p.nodes ≡ (before ++ set (single c) (at + 1) ∷ []) ++ (reading text (at + 1) ++ after) =
      nodes ∙ sym (append_assoc before (set (single c) (at + 1) ∷ []) (reading text (at + 1) ++ after)) in
      let more = reads_on text (before ++ set (single c) (at + 1) ∷ []) after (literal ++ encode_utf8 c) (at + 1) parts.1 nodes' (omega (arith, is, length-append before (set (single c) (at + 1) ∷ []))) next in
      let far : at + 1 + length text ≡ at + length (c ∷ text) = omega arith in
      subst (λ n. SpellsLiteral p (literal ++ encode_utf8_all (c ∷ text)) n) far
      (subst (λ bytes. SpellsLiteral p bytes (at + 1 + length text)) (append_assoc literal (encode_utf8 c) (encode_utf8_all text)) more)

module _ (c : ℕ) (text : List ℕ) (terminator : ℕ) where
  abbrev size : ℕ
  size = size_of (text_tree (c ∷ text))

  abbrev program : Program Look (List Range)
  program = program_of (text_tree (c ∷ text) ∷ []) terminator

  abbrev last : Code
  last = note 1 (0 + 2 + size) ∷ match 0 ∷ []

  abbrev front : Code
  front = note 0 1 ∷ reading (c ∷ text) 1

  nodes : program.nodes ≡ front ++ last
  nodes = ap (λ inner. note 0 1 ∷ (inner ++ last)) (text_reads c text 1 (0 + 1 + size) (omega (arith, text_size c text)))

  at_last : (k : ℕ) → slice_get program.nodes (1 + length (c ∷ text) + k) ≡ slice_get last k
  at_last k =
      let place : 1 + length (c ∷ text) + k ≡ length front + k = omega (arith, reading_length (c ∷ text) 1) in
      ap (λ n. slice_get n (1 + length (c ∷ text) + k)) nodes ∙ ap (slice_get (front ++ last)) place ∙ behind front last k

  ending : NotesEnd program (1 + length (c ∷ text))
  ending =
      let first : 1 + length (c ∷ text) ≡ 1 + length (c ∷ text) + 0 = omega arith in
      let second : 0 + 2 + size ≡ 1 + length (c ∷ text) + 1 = omega (arith, text_size c text) in
      record {
        last = 0 + 2 + size;
        note_is = ap (slice_get program.nodes) first ∙ at_last 0;
        match_is = ap (slice_get program.nodes) second ∙ at_last 1;
      }

  some_matches : all_scalars (c ∷ text) ≡ true → MatchesOnly (encode_utf8_all (c ∷ text)) program
  some_matches all =
      matches_only program (encode_utf8_all (c ∷ text)) (1 + length (c ∷ text))
      (reads_on program (c ∷ text) (note 0 1 ∷ []) last [] 1 all nodes refl (spells_first program 1 refl)) ending

-- ---- the empty text

only_first : (r c to : ℕ) → slice_get (r ∷ []) c ≡ Some to → c ≡ 0
only_first r zero to e = refl
only_first r (suc c) to e = absurd (cc e)

within_both : (low high i : ℕ) → low ≤ i → i ≤ high → is_within low high i ≡ true
within_both low high i from to = grind (arith, nat_tests)

module _ (is_word : ℕ → Bool) (p : Program Look (List Range)) (s : Search) where
  abbrev M : Machine ℕ Notes
  M = machine_of is_in is_word p s

  abbrev H : Haystack Look
  H = haystack_of (holds_in is_word p.line_terminator s) s

  abbrev At : ℕ → Option (Node Look (List Range)) → Move ℕ
  At i here = by_character (first_by is_in) H i here

  -- a walk from a node with one edge
  pub record Following (seen : List ℕ) (n : Notes) (here : Node Look (List Range)) (q r i : ℕ) (choices : List ℕ) (t : Outcome Notes) : Type 0 where
    pub others : List ℕ
    pub choices_are : choices ≡ 0 ∷ others
    pub walk : Walk M (q ∷ seen) (note_at put_note i (Some here) n) r i others t

  follow : {seen : List ℕ} {n : Notes} {q i : ℕ} {choices : List ℕ} {t : Outcome Notes} (here : Node Look (List Range)) (r : ℕ) → slice_get p.nodes q ≡ Some here → At i (Some here) ≡ goes (r ∷ [])
      → Walk M seen n q i choices t → Following seen n here q r i choices t
  follow here r at edge (ended {q = q} {i = i} {p = k} new is) = absurd (cc (sym edge ∙ ends_by (first_by is_in) H p.nodes q i k (Some here) at is))
  follow here r at edge (went {seen = seen} {n = n} {q = q} {i = i} {k = c} {cs = cs} {t = t} rs to new is on w) =
      let by : goes (r ∷ []) ≡ goes rs = sym edge ∙ goes_by (first_by is_in) H p.nodes q i rs c to (Some here) at is on in
      let same : to ≡ r = only_edge rs c to r by on in
      let first : c ≡ 0 = only_first r c to (subst (λ xs. slice_get xs c ≡ Some to) (sym (same_edges (r ∷ []) rs by)) on) in
      let noted : M.note i q n ≡ note_at put_note i (Some here) n = ap (λ z. note_at put_note i z n) at in
      record {
        others = cs;
        choices_are = ap (λ k. k ∷ cs) first;
        walk = subst (λ x. Walk M (q ∷ seen) (note_at put_note i (Some here) n) x i cs t) same (subst (λ x. Walk M (q ∷ seen) x to i cs t) noted w);
      }
  follow here r at edge (took {q = q} {i = i} to j new is w) = absurd (cc (sym edge ∙ reads_by (first_by is_in) H p.nodes q i to j (Some here) at is))

  follow_path : (here : Node Look (List Range)) (q r i pattern e : ℕ) → slice_get p.nodes q ≡ Some here → At i (Some here) ≡ goes (r ∷ []) → lowest s ≤ i → i ≤ highest s
      → Path M r i pattern e → Path M q i pattern e
  follow_path here q r i pattern e at edge low high path =
      let move : M.move i q ≡ goes (r ∷ []) =
      ap (λ z. only_if (is_within (lowest s) (highest s) i) (At i z)) at
      ∙ ap (λ m. only_if (is_within (lowest s) (highest s) i) m) edge
      ∙ ap (λ b. only_if b (goes (r ∷ []))) (within_both (lowest s) (highest s) i low high) in
      by_edge (r ∷ []) r 0 move refl path

  match_walk : {seen : List ℕ} {n : Notes} {q i : ℕ} {choices : List ℕ} {t : Outcome Notes} → slice_get p.nodes q ≡ Some (match 0) → Walk M seen n q i choices t
      → (choices ≡ []) × (t ≡ record { pattern = 0; end = i; notes = n })
  match_walk at (ended {n = n} {q = q} {i = i} {p = k} new is) =
      let same : k ≡ 0 = cc (ends_by (first_by is_in) H p.nodes q i k (Some (match 0)) at is) in
      (refl, ap (λ x. record { pattern = x; end = i; notes = n }) same)
  match_walk at (went {q = q} {i = i} {k = k} rs to new is on w) = absurd (cc (goes_by (first_by is_in) H p.nodes q i rs k to (Some (match 0)) at is on))
  match_walk at (took {q = q} {i = i} to j new is w) = absurd (cc (reads_by (first_by is_in) H p.nodes q i to j (Some (match 0)) at is))

  match_path : (q i : ℕ) → slice_get p.nodes q ≡ Some (match 0) → lowest s ≤ i → i ≤ highest s → Path M q i 0 i
  match_path q i at low high =
      at_end (
      ap (λ z. only_if (is_within (lowest s) (highest s) i) (At i z)) at
      ∙ ap (λ b. only_if b (ends 0)) (within_both (lowest s) (highest s) i low high)
      )

module _ (terminator : ℕ) where
  abbrev none : Program Look (List Range)
  none = program_of (text_tree [] ∷ []) terminator

  module _ (is_word : ℕ → Bool) (s : Search) (i : ℕ) (inside : IsInside s i) where
    abbrev Here : Outcome Notes
    Here = literal_match (record { start = i; end = i + 0 })

    low : lowest s ≤ i
    low = omega (arith, inside.0, inside.2)

    high : i ≤ highest s
    high = omega (arith, inside.1, inside.3, inside.4)

    nothing_there : OccursAt (take (highest s) s.content) [] i
    nothing_there = record { fits = omega (arith, length-take (highest s) s.content, inside.1, inside.3, inside.4); reads = λ j below. absurd (omega (arith, below)) }

    is_it : (choices : List ℕ) (t : Outcome Notes) → Walk (machine_of is_in is_word none s) [] (fresh_notes i) 0 i choices t → (choices ≡ 0 ∷ 0 ∷ 0 ∷ []) × (t ≡ Here)
    is_it choices t w =
        let a = follow is_word none s (note 0 1) 1 refl refl w in
        let b = follow is_word none s (pass (2 ∷ [])) 2 refl refl a.walk in
        let c = follow is_word none s (note 1 3) 3 refl refl b.walk in
        let d = match_walk is_word none s refl c.walk in
        let there : i ≡ i + 0 = omega arith in (
          a.choices_are ∙ ap (λ cs. 0 ∷ cs) (b.choices_are ∙ ap (λ cs. 0 ∷ cs) (c.choices_are ∙ ap (λ cs. 0 ∷ cs) d.0)),
          d.1 ∙ ap (λ e. literal_match (record { start = i; end = e })) there,
        )

    path : Path (machine_of is_in is_word none s) 0 i 0 i
    path =
        follow_path is_word none s (note 0 1) 0 1 i 0 i refl refl low high
        (follow_path is_word none s (pass (2 ∷ [])) 1 2 i 0 i refl refl low high
        (follow_path is_word none s (note 1 3) 2 3 i 0 i refl refl low high (match_path is_word none s 3 i refl low high)))

    least_there : (t : Outcome Notes) → t ≡ Here → IsLeast (machine_of is_in is_word none s) [] (fresh_notes i) 0 i t
    least_there t is =
        let reached : Reaches (machine_of is_in is_word none s) [] (fresh_notes i) 0 i 0 i = path_has_walk cases_eq path (fresh_notes i) in
        let it = is_it reached.choices reached.outcome reached.walk in
        record {
          choices = reached.choices;
          walk = subst (λ x. Walk (machine_of is_in is_word none s) [] (fresh_notes i) 0 i reached.choices x) (it.1 ∙ sym is) reached.walk;
          least = λ ds u w. inl ((is_it ds u w).0 ∙ sym it.0);
        }

  none_matches : MatchesOnly [] none
  none_matches is_word s i t inside = (
    λ least. (nothing_there is_word s i inside, (is_it is_word s i inside least.choices t least.walk).1),
    λ told. least_there is_word s i inside t told.1,
  )

pub matches_its_text : (text : List ℕ) → MatchesItsText text
matches_its_text text tree terminator all spells =
    let same : text_tree text ≡ tree = Spells-unique (escaped text) default_settings (text_tree text) tree (spells_its_text text default_settings all refl spells.size) spells in
    subst (λ t. MatchesOnly (encode_utf8_all text) (program_of (t ∷ []) terminator)) same (matches text all)
  where
    matches : (text : List ℕ) → all_scalars text ≡ true → MatchesOnly (encode_utf8_all text) (program_of (text_tree text ∷ []) terminator)
    matches [] all = none_matches terminator
    matches (c ∷ text) all = some_matches c text terminator all
