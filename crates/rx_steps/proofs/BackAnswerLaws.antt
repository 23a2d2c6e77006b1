-- The result of a backward search is what the program finds backward.
use Rattle.std.proofs.Common.{inl, inr, ◌≡◌, ℕ, ◌≤◌, ◌⊎◌, Bool, true, false, IsTrue, List, [], ◌∷◌, map, length, Option, Some, None, option_map, slice_get, refl, sym, ap, subst, ◌∙◌, arith}
use Rattle.std.specs.Prelude.{◌↔◌}
use Rattle.std.specs.Str.{IsCharBoundary}
use Rattle.std.proofs.lemmas.Bool.{cases_order}
use Rattle.std.proofs.lemmas.Option.{slice_get-map}
use Rattle.unicode.specs.Perl.{is_word_char}
use Rattle.rx_sets.specs.Sets.{Range}
use Rattle.rx_util.specs.Search.{HalfFound}
use Rattle.rx_utf8.specs.Automata.{is_in}
use Rattle.rx_walks.specs.Backward.{IsFindBack, none_back, FitsContent, ProgramFindsBack, IsToldBack, none_found, told, not_told, mirrored_search, turned_match, end_in_content}
use Rattle.rx_walks.specs.BackLaws.{ProgramIsSearchedBack, SearchesBack}
use Rattle.rx_walks.specs.Bytes.{Automaton, over_bytes, run}
use Rattle.rx_walks.specs.Finds.{Search, PatternMatch, IsInside}
use Rattle.rx_walks.specs.Laws.{MayBegin, ReadsMembers}
use Rattle.rx_walks.specs.Looks as walks
use Rattle.rx_walks.specs.Programs.{Node, set, Program, fresh_notes, put_note}
use Rattle.rx_walks.specs.ProgramFinds.{IfStarts, first_by, haystack_of, holds_in, machine_of, start_node}
use Rattle.rx_walks.specs.Reversed.{back_program, last_by, mirrored}
use Rattle.rx_walks.specs.StepsAll.{SearchesAll}
use Rattle.rx_walks.proofs.PathLaws.{walk_reaches}
use Rattle.rx_walks.proofs.TrailLaws.{path_trail, trail_within}
use Rattle.rx_program.specs.declared.reverse_states.ReverseState.{ReverseState}
use Rattle.rx_program.specs.declared.reverse_states.ReverseState.TheVariants as back
use Rattle.rx_program.specs.Programs.{ByteProgram, automata_of, automaton_of, character_program, node_of}
use Rattle.rx_program.specs.Reversed.{ReverseByteProgram, IsReverseByteProgram, back_automata_of, back_automaton_of, back_characters_of, back_node_of}
use Rattle.rx_steps.specs.Reversed.{IsHalfAnswerBack, IsReverseOf, byte_program_of, state_of}
use Rattle.rx_steps.specs.ComingBack.{IsHalfToldBack, IsOverBack, mirror_match, mirror_of}

abbrev pub SearchedBackLaw : Type 0
SearchedBackLaw = (member : List Range → ℕ → Bool) (is_word : ℕ → Bool) (p : Program walks.Look (List Range)) (step : ℕ → Automaton) → ProgramIsSearchedBack member is_word p step

-- ---- the reverse program, as a program over bytes

same_node : (x : ReverseState) → node_of (state_of x) ≡ back_node_of x
same_node (back.Ranges automaton next) = refl
same_node (back.Look asked next) = refl
same_node (back.Empty next) = refl
same_node (back.BinaryUnion first second) = refl
same_node (back.Union alternates) = refl
same_node (back.Match pattern) = refl

same_nodes : (states : List ReverseState) → map node_of (map state_of states) ≡ map back_node_of states
same_nodes [] = refl
same_nodes (x ∷ states) = ap (λ y. y ∷ map node_of (map state_of states)) (same_node x) ∙ ap (λ ys. back_node_of x ∷ ys) (same_nodes states)

same_automaton : (o : Option ReverseState) → automaton_of (option_map state_of o) ≡ back_automaton_of o
same_automaton None = refl
same_automaton (Some (back.Ranges automaton next)) = refl
same_automaton (Some (back.Look asked next)) = refl
same_automaton (Some (back.Empty next)) = refl
same_automaton (Some (back.BinaryUnion first second)) = refl
same_automaton (Some (back.Union alternates)) = refl
same_automaton (Some (back.Match pattern)) = refl

same_automata : (p : ReverseByteProgram) (q : ℕ) → automata_of (byte_program_of p) q ≡ back_automata_of p q
same_automata p q = ap automaton_of (slice_get-map state_of p.states q) ∙ same_automaton (slice_get p.states q)

reads_back : (p : ReverseByteProgram) (nodes : List (Node walks.Look (List Range))) → (back_characters_of p).nodes ≡ nodes → IsReverseByteProgram p → ReadsMembers (last_by is_in) (automata_of (byte_program_of p)) nodes
reads_back p nodes e is = λ q r x at bs.
    ap (λ step. run step 0 bs) (same_automata p q) ∙ is.reads q r x (subst (λ ns. slice_get ns q ≡ Some (set x r)) (sym e) at) bs

-- ---- nothing is found

abbrev Finds : ByteProgram → Search → Option PatternMatch → Type 0
Finds p s out = ProgramFindsBack is_in is_word_char (character_program p) s out

-- if the end isn't inside, no match ends there
none_ends : (p : ByteProgram) (s : Search) (q : ℕ) → (IsInside s (end_in_content s) → ⊥) → IsFindBack (machine_of is_in is_word_char (character_program p) s) fresh_notes s q None
none_ends p s q never = none_back (λ a counts.
    let h = haystack_of (holds_in is_word_char (character_program p).line_terminator s) s in
    let on = trail_within (first_by is_in) (character_program p).nodes h (path_trail put_note (first_by is_in) (character_program p).nodes h (walk_reaches counts.reaches)) in
    let at = counts.at_end in
    never (omega (arith, on, at), omega (arith, on, at), omega (arith, on, at), omega arith, omega (arith, on, at)))

by_start : (p : ByteProgram) (s : Search) (out : Option PatternMatch) (o : Option ℕ) → start_node (character_program p) s.anchoring ≡ o → IfStarts o (IsFindBack (machine_of is_in is_word_char (character_program p) s) fresh_notes s) out → Finds p s out
by_start p s out o e finds = subst (λ z. IfStarts z (IsFindBack (machine_of is_in is_word_char (character_program p) s) fresh_notes s) out) (sym e) finds

half_none : (p : ByteProgram) (s : Search) → Finds p s None → IsHalfAnswerBack p s None
half_none p s finds = record { found = None; finds = finds; met_is = refl }

pub outside_answers : (p : ByteProgram) (s : Search) → (IsInside s (end_in_content s) → ⊥) → IsHalfAnswerBack p s None
outside_answers p s never = half_none p s (by (start_node (character_program p) s.anchoring) refl)
  where
    by : (o : Option ℕ) → start_node (character_program p) s.anchoring ≡ o → Finds p s None
    by None e = by_start p s None None e refl
    by (Some q) e = by_start p s None (Some q) e (none_ends p s q never)

-- ---- what is found

fits : (s : Search) → IsInside s (end_in_content s) → FitsContent s
fits s inside = record { slice_start = omega (arith, inside.0, inside.4); start = omega (arith, inside.2, inside.4) }

module _ (p : ByteProgram) (turned : ReverseByteProgram) (s : Search) (is : IsReverseOf p turned) (reads : IsReverseByteProgram turned) (law : SearchedBackLaw) (last : IsInside s (end_in_content s)) where
  nodes : (back_characters_of turned).nodes ≡ (back_program (character_program p)).nodes
  nodes = ap (λ c. c.nodes) is.characters

  searched : SearchesBack is_in is_word_char (character_program p) (automata_of (byte_program_of turned)) s
  searched = law is_in is_word_char (character_program p) (automata_of (byte_program_of turned)) is.above (reads_back turned (back_program (character_program p)).nodes nodes reads) s (fits s last) (is.keeps s)

  pub unknown_answers : start_node (back_characters_of turned) s.anchoring ≡ None → IsHalfAnswerBack p s None
  unknown_answers none = half_none p s (searched.unknown (ap (λ c. start_node c s.anchoring) (sym is.characters) ∙ none))

  pub over_answers_back : (q : ℕ) (best answer : Option HalfFound) → start_node (back_characters_of turned) s.anchoring ≡ Some q → IsOverBack (byte_program_of turned) s q best → IsHalfToldBack s best answer → IsHalfAnswerBack p s answer
  over_answers_back q best answer starts way is_told =
      let same : (character_program (byte_program_of turned)).nodes ≡ (back_program (character_program p)).nodes = same_nodes turned.states ∙ nodes in
      let terminator : turned.line_terminator ≡ p.line_terminator = ap (λ c. c.line_terminator) is.characters in
      let there : SearchesAll (over_bytes put_note (automata_of (byte_program_of turned)) (back_program (character_program p)).nodes (mirrored (haystack_of (holds_in is_word_char p.line_terminator s) s))) (MayBegin (mirrored_search s)) (q, 0) (mirror_of s s.end) [] None (option_map (mirror_match s) best) =
      subst (λ t. SearchesAll (over_bytes put_note (automata_of (byte_program_of turned)) (back_program (character_program p)).nodes (mirrored (haystack_of (holds_in is_word_char t s) s))) (MayBegin (mirrored_search s)) (q, 0) (mirror_of s s.end) [] None (option_map (mirror_match s) best)) terminator
      (subst (λ ns. SearchesAll (over_bytes put_note (automata_of (byte_program_of turned)) ns (mirrored (haystack_of (holds_in is_word_char turned.line_terminator s) s))) (MayBegin (mirrored_search s)) (q, 0) (mirror_of s s.end) [] None (option_map (mirror_match s) best)) same way) in
      record {
        found = is_told.found;
        finds = searched.searched q (option_map (mirror_match s) best) is_told.found (ap (λ c. start_node c s.anchoring) (sym is.characters) ∙ starts) there is_told.told;
        met_is = is_told.is;
      }

-- ---- what is reported

no_truth : (b : Bool) → IsTrue b → b ≡ false → ⊥
no_truth b is e = let told : b ≡ true = is in absurd (cc (sym told ∙ e))

abbrev MayBeEmpty : Search → ℕ → Type 0
MayBeEmpty s i = IsTrue s.utf8_empty → IsCharBoundary s.content i

-- whether an empty match may be at the end
abbrev pub Tells : Search → Bool → Type 0
Tells s may = IsTrue may ↔ MayBeEmpty s (end_in_content s)

pub told_none : (s : Search) (best answer : Option HalfFound) → best ≡ None → answer ≡ None → IsHalfToldBack s best answer
told_none s best answer e f = record {
  found = None;
  is = f;
  told = subst (λ o. IsToldBack s (option_map (mirror_match s) o) None) (sym e) none_found;
}

-- mirrored twice
start_is : (s : Search) (f : HalfFound) → f.offset ≤ length s.content → (turned_match s (mirror_match s f)).start ≡ f.offset
start_is s f le = omega (arith, le)

end_is : (s : Search) (f : HalfFound) → IsInside s (end_in_content s) → (turned_match s (mirror_match s f)).end ≡ end_in_content s
end_is s f inside = omega (arith, inside.4)

pub told_some : (s : Search) (best answer : Option HalfFound) (f : HalfFound) (may : Bool) → IsInside s (end_in_content s) → IsInside s f.offset → Tells s may → best ≡ Some f → answer ≡ Some f → (f.offset ≡ end_in_content s → may ≡ true) → IsHalfToldBack s best answer
told_some s best answer f may last inside tells e g so =
    let start = start_is s f inside.4 in
    record {
      found = Some (turned_match s (mirror_match s f));
      is = g ∙ ap (λ k. Some (record { pattern = f.pattern; offset = k })) (sym start);
      told = subst (λ o. IsToldBack s (option_map (mirror_match s) o) (Some (turned_match s (mirror_match s f)))) (sym e) (told (elim (same_or_not f.offset (end_in_content s)) [
        | inl here ↦ inr (subst (λ k. MayBeEmpty s k) (sym (start ∙ here)) (tells.0 (so here)))
        | inr other ↦ inl (λ back. other (sym start ∙ sym back ∙ end_is s f last))
      ]));
    }
  where
    same_or_not : (a b : ℕ) → (a ≡ b) ⊎ (a ≡ b → ⊥)
    same_or_not a b = elim (cases_order a b) [
      | inl e ↦ inl e
      | inr other ↦ inr (λ e. elim other [ inl below ↦ omega (arith, e, below) | inr above ↦ omega (arith, e, above) ])
    ]

pub told_not : (s : Search) (best answer : Option HalfFound) (f : HalfFound) (may : Bool) → IsInside s (end_in_content s) → IsInside s f.offset → Tells s may → best ≡ Some f → answer ≡ None → f.offset ≡ end_in_content s → may ≡ false → IsHalfToldBack s best answer
told_not s best answer f may last inside tells e g here not_may =
    let start = start_is s f inside.4 in
    record {
      found = None;
      is = g;
      told = subst (λ o. IsToldBack s (option_map (mirror_match s) o) None) (sym e) (not_told (λ ends. elim ends [
        | inl other ↦ other (end_is s f last ∙ sym here ∙ sym start)
        | inr may_stand ↦ no_truth may (tells.1 (subst (λ k. MayBeEmpty s k) (start ∙ here) may_stand)) not_may
      ]));
    }
