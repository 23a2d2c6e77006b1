-- Matches that are found backward from the slice's end, if all matches end there; and the part that
-- a match takes.
use Rattle.std.proofs.Common.{◌≡◌, ℕ, ◌<◌, ◌≤◌, true, IsTrue, List, length, min, Option, Some, None, option_map, refl, sym, ap, ap₂, subst, ◌∙◌, arith, inl, inr}
use Rattle.std.proofs.lemmas.Option.{same_Some}
use Rattle.std.specs.Str.{IsCharBoundary}
use Rattle.unicode.specs.Perl.{is_word_char}
use Rattle.rx_sets.specs.Sets.{Range}
use Rattle.rx_utf8.specs.Automata.{is_in}
use Rattle.rx_util.specs.declared.search.Span.{Span}
use Rattle.rx_util.specs.Search.{Found, HalfFound}
use Rattle.rx_walks.specs.Backward.{CountsBack, IsFindBack, ProgramFindsBack, anchored_as, back_from, least_back}
use Rattle.rx_walks.specs.Finds.{Counts, IsFind, PatternMatch, Search, from_place_on, is_anchored, is_found, unanchored, up_to_place}
use Rattle.rx_walks.specs.Laws.{MayBegin}
use Rattle.rx_walks.specs.Looks.{Look}
use Rattle.rx_walks.specs.Machines.{Outcome}
use Rattle.rx_walks.specs.Programs.{Notes, Program, fresh_notes, put_note}
use Rattle.rx_walks.specs.ProgramFinds.{IfStarts, end_of, haystack_of, holds_in, lowest, machine_of, start_node, start_of}
use Rattle.rx_walks.proofs.AllFindLaws.{path_read}
use Rattle.rx_walks.proofs.FindBackLaws.{finds_match_back, starts_first}
use Rattle.rx_walks.proofs.InsideLaws.{walk_keeps}
use Rattle.rx_walks.proofs.PathLaws.{walk_reaches}
use Rattle.rx_walks.proofs.WholeLaws.{reads_whole}
use Rattle.rx_program.specs.Programs.{ByteProgram, character_program}
use Rattle.rx_program.specs.Reversed.{ReverseByteProgram}
use Rattle.rx_steps.specs.Reversed.{IsHalfAnswerBack, IsReverseOf}
use Rattle.rx_literals.specs.Endings.{EndsWithSlice}
use Rattle.rx_literals.specs.Literals.{within}
use Rattle.rx_literals.proofs.LowLaws.{least_from}
use Rattle.rx_input.specs.Cursors.{IsSameContent}
use Rattle.rx_input.specs.Inputs.{Asked, InputState}
use Rattle.rx_steps.specs.Searching.{search_of}
use Rattle.rx_steps.specs.Threads.{Slots}
use Rattle.rx_engine.specs.Engines.{Engine}
use Rattle.rx_chunk.specs.Engines.{EngineFinds, Finds, IsFound, TellsSlots, match_of}
use Rattle.rx_chunk.specs.Searches as searches
use Rattle.rx_matches.specs.Halves.{whole_of}
use Rattle.regex_cursor.specs.declared.engines.meta.left.Part.{Part}
use Rattle.regex_cursor.specs.Strategies.{IsPart}
use Rattle.regex_cursor.proofs.StartLaws.{same_search}
use Rattle.regex_cursor.proofs.LowerLaws.{cut_law, exist_law, inside_law, one_law}

-- ---- the part that a match takes

module _ (p : ByteProgram) (s : Search) (t : Outcome Notes) where
  abbrev C : Program Look (List Range)
  C = character_program p

  abbrev On : Search
  On = from_place_on s (start_of t)

  -- the match found is found from its start on
  begun_from : (q i : ℕ) → start_of t ≡ i → Counts (machine_of is_in is_word_char C s) fresh_notes s q i t → IsFind (machine_of is_in is_word_char C On) fresh_notes On q (Some t)
  begun_from q i at counts =
      let inside = counts.possible.0 in
      let low : lowest s ≤ i = omega (arith, inside.0, inside.2) in
      let low_on : lowest On ≤ i = omega (arith, inside.0, at) in
      is_found (record {
        possible = ((inside.0, inside.1, omega (arith, at), inside.3, inside.4), λ told. sym at);
        least = least_from is_in C.nodes (haystack_of (holds_in is_word_char C.line_terminator s) s) 0 (lowest s) (lowest On) low low_on counts.least;
        may_end = counts.may_end;
      }) (λ j u below other. absurd (omega (arith, below, at, other.possible.0.2)))

  pub begun : Finds p s (Some t) → Finds p On (Some t)
  begun finds = by (start_node C s.anchoring) finds
    where
      by : (o : Option ℕ) → IfStarts o (IsFind (machine_of is_in is_word_char C s) fresh_notes s) (Some t) → IfStarts o (IsFind (machine_of is_in is_word_char C On) fresh_notes On) (Some t)
      by None e = absurd (cc e)
      by (Some q) (is_found {i = i} counts before) =
          let kept = walk_keeps is_in is_word_char C s counts.least.walk in
          begun_from q i kept.start counts

-- in it only that match is found
pub found_part : (p : ByteProgram) (s : Search) (t : Outcome Notes) → Finds p s (Some t) → IsPart p s (record { span = (match_of t).span; pattern = Some t.pattern })
found_part p s t finds =
    let lies = inside_law is_in is_word_char (character_program p) s t finds in
    let span : Span = (match_of t).span in
    let there : Finds p (within s span) (Some t) = begun p (up_to_place s (end_of t)) t (cut_law is_in is_word_char (character_program p) s t finds) in
    record {
      holds = record {
        behind = lies.found.possible.0.2;
        ordered = lies.found.ordered;
        before = lies.found.inside.3;
        finds = λ out found. subst (λ o. Finds p s o) (sym (one_law is_in is_word_char (character_program p) (within s span) out (Some t) found there)) finds;
      };
      match = record { found = t; finds = there; pattern_is = refl; end_is = refl };
    }

pub found_left : (p : ByteProgram) (s : Search) (found : Found) → IsFound (Finds p) s (Some found) → IsPart p s (record { span = found.span; pattern = Some found.pattern })
found_left p s found is = by is.0 is.1 is.2
  where
    by : (out : Option (Outcome Notes)) → Finds p s out → Some found ≡ option_map match_of out → IsPart p s (record { span = found.span; pattern = Some found.pattern })
    by None finds e = absurd (cc e)
    by (Some t) finds e = subst (λ (f : Found). IsPart p s (record { span = f.span; pattern = Some f.pattern })) (sym (same_Some found (match_of t) e)) (found_part p s t finds)

-- ---- matches that end with the slice

abbrev back_half : PatternMatch → HalfFound
back_half a = record { pattern = a.pattern; offset = a.start }

abbrev own_match : Outcome Notes → PatternMatch
own_match t = record { start = start_of t; pattern = t.pattern; end = t.end }

module _ (p : ByteProgram) (s : Search) (ends : EndsWithSlice (character_program p)) (free : s.anchoring ≡ unanchored) where
  ends_last : (t : Outcome Notes) → Finds p s (Some t) → t.end ≡ min s.slice_end (length s.content)
  ends_last t finds = ends is_word_char s t (ap (start_node (character_program p)) free) finds

  -- nothing is found in a span that ends before
  pub none_before : s.end < min s.slice_end (length s.content) → Finds p s None
  none_before before = let there = exist_law is_in is_word_char (character_program p) s in by there.0 there.1
    where
      by : (out : Option (Outcome Notes)) → Finds p s out → Finds p s None
      by None finds = finds
      by (Some t) finds =
          let lies = inside_law is_in is_word_char (character_program p) s t finds in
          absurd (omega (arith, lies.found.inside.3, ends_last t finds, before))

module _ (p : ByteProgram) (s : Search) (turned : ReverseByteProgram) (of : IsReverseOf p turned) (ends : EndsWithSlice (character_program p)) (free : s.anchoring ≡ unanchored) (last : s.end ≡ min s.slice_end (length s.content)) where
  abbrev P : Program Look (List Range)
  P = character_program p

  ends_there : (t : Outcome Notes) → Finds p s (Some t) → t.end ≡ s.end
  ends_there t finds = ends_last p s ends free t finds ∙ sym last

  -- the match found backward from there is the match found
  back_is : (t : Outcome Notes) (out : Option PatternMatch) → Finds p s (Some t) → ProgramFindsBack is_in is_word_char P (back_from s s.end) out → out ≡ Some (own_match t)
  back_is t out finds found =
      finds_match_back is_in is_word_char P s of.above (of.keeps s) t out finds
      (subst (λ e. ProgramFindsBack is_in is_word_char P (back_from s e) out) (sym (ends_there t finds)) found)

  not_anchored : IsTrue (is_anchored s.anchoring) → ⊥
  not_anchored is = let told : is_anchored s.anchoring ≡ true = is in absurd (cc (told, ap is_anchored free))

  begins_there : (a : PatternMatch) → CountsBack (machine_of is_in is_word_char P s) fresh_notes (back_from s s.end) P.start a → MayBegin s a.start
  begins_there a counts = ((counts.inside, λ is. absurd (not_anchored is)), λ on. at_boundary on)
    where
      at_boundary : IsTrue s.utf8_empty → IsCharBoundary s.content a.start
      at_boundary on = elim counts.may_end [
        | inl some ↦ elim (path_read s.content (reads_whole put_note is_in P.nodes (haystack_of (holds_in is_word_char P.line_terminator s) s)) (walk_reaches counts.reaches)) [
          | inl e ↦ absurd (some e)
          | inr boundary ↦ boundary
        ]
        | inr boundary ↦ boundary on
      ]

  no_back : (a : PatternMatch) → Finds p s None → ProgramFindsBack is_in is_word_char P (back_from s s.end) (Some a) → ⊥
  no_back a none found = by (subst (λ o. IfStarts o (IsFindBack (machine_of is_in is_word_char P s) fresh_notes (back_from s s.end)) (Some a)) (ap (λ x. start_node P (anchored_as x)) free) found)
    where
      by : IsFindBack (machine_of is_in is_word_char P s) fresh_notes (back_from s s.end) P.start (Some a) → ⊥
      by (least_back counts best) =
          (starts_first is_in is_word_char P s P.start (ap (start_node P) free)).not_found none a.start a.pattern a.end (begins_there a counts) (walk_reaches counts.reaches)

  -- there is none if none is found backward
  pub none_last : IsHalfAnswerBack p (back_from s s.end) None → Finds p s None
  none_last answer = let there = exist_law is_in is_word_char P s in by there.0 there.1
    where
      by : (out : Option (Outcome Notes)) → Finds p s out → Finds p s None
      by None finds = finds
      by (Some t) finds = absurd (cc (answer.met_is ∙ ap (option_map back_half) (back_is t answer.found finds answer.finds)))

  -- otherwise the match with that start
  pub some_last : (h : HalfFound) → IsHalfAnswerBack p (back_from s s.end) (Some h) → IsFound (Finds p) s (Some (whole_of (record { pattern = h.pattern; offset = s.end }) h.offset))
  some_last h answer = let there = exist_law is_in is_word_char P s in by there.0 there.1
    where
      none_back_there : (found : Option PatternMatch) → Finds p s None → ProgramFindsBack is_in is_word_char P (back_from s s.end) found → Some h ≡ option_map back_half found → ⊥
      none_back_there None none found e = cc e
      none_back_there (Some a) none found e = no_back a none found

      by : (out : Option (Outcome Notes)) → Finds p s out → IsFound (Finds p) s (Some (whole_of (record { pattern = h.pattern; offset = s.end }) h.offset))
      by None finds = absurd (none_back_there answer.found finds answer.finds answer.met_is)
      by (Some t) finds =
          let same : h ≡ back_half (own_match t) = same_Some h (back_half (own_match t)) (answer.met_is ∙ ap (option_map back_half) (back_is t answer.found finds answer.finds)) in
          (Some t, finds, ap₂ (λ (x : HalfFound) e. Some (whole_of (record { pattern = x.pattern; offset = e }) x.offset)) same (sym (ends_there t finds)))

-- ---- a part that is shortened

-- the match found in a part takes that part
pub part_of_found : (p : ByteProgram) (s inner : Search) (part : Part) (found : Found) → IsPart p s part → inner ≡ within s part.span → IsFound (Finds p) inner (Some found) → IsPart p s (record { span = found.span; pattern = Some found.pattern })
part_of_found p s inner part found is same there = found_left p s found (there.0, is.holds.finds there.0 (subst (λ x. Finds p x there.0) same there.1), there.2)

-- ---- an input that may be at another position

pub same_slots_told : (e : Engine) (i k : InputState) (pattern : Option ℕ) (slots : Slots) → IsSameContent i.cursor k.cursor → k.asked ≡ i.asked → searches.TellsSlots e k pattern slots → searches.TellsSlots e i pattern slots
same_slots_told e i k pattern slots same asked told =
    subst (λ (a : Asked). TellsSlots a.earliest (EngineFinds e) (search_of e.utf8_empty i) pattern slots) asked
    (subst (λ s. TellsSlots k.asked.earliest (EngineFinds e) s pattern slots) (same_search e.utf8_empty i k same asked) told)
