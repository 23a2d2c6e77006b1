-- In UTF-8 finds start and end at character boundaries, and so do their groups.
use Rattle.std.proofs.Common.{◌≡◌, ℕ, zero, suc, ◌+◌, ◌==◌, Bool, true, false, cond, List, [], ◌∷◌, ◌++◌, take, drop, Option, Some, None, slice_get, append_assoc, sym, ap, subst, ◌∙◌, inl, inr}
use Rattle.std.specs.Prelude.{IsTrue}
use Rattle.std.specs.Str.{IsUtf8, IsCharBoundary}
use Rattle.std.specs.List.{All}
use Rattle.std.specs.Char.{encode_utf8}
use Rattle.std.proofs.lemmas.Str.{IsUtf8-drop, IsCharBoundary-past_char}
use Rattle.rx_walks.specs.Machines.{reads, Outcome}
use Rattle.rx_walks.specs.Walks.{Walk, ended, went, took}
use Rattle.rx_walks.specs.Finds.{Search, from_place_on, IsFind, is_found, IsFindAll, greatest, PatternMatch}
use Rattle.rx_walks.specs.Looks.{Look}
use Rattle.rx_walks.specs.Programs.{Node, match, pass, note, look, set, Program, Haystack, left_from, over_characters, note_at, Notes, fresh_notes, put_note, last_noted}
use Rattle.rx_walks.specs.ProgramFinds.{first_by, haystack_of, holds_in, machine_of, start_node, IfStarts, ProgramFinds, ProgramFindsAll, ProgramMatches}
use Rattle.rx_walks.specs.Laws.{StandsAtBoundaries}
use Rattle.rx_walks.specs.MatchLaws.{IsFoundBehind}
use Rattle.rx_walks.proofs.FindLaws.{begins, has_read}
use Rattle.rx_walks.proofs.WholeLaws.{reads_whole}
use Rattle.rx_walks.proofs.ProgramLaws.{read_is}
use Rattle.rx_walks.proofs.CharacterLaws.{take_drop, member_stands, first_byte}
use Rattle.rx_walks.proofs.InsideLaws.{walk_keeps}
use Rattle.rx_walks.proofs.MatchLaws.{program_matches_found}
use Rattle.std.proofs.lemmas.List.Elements.{All-weaker}

-- what a prefix of the bytes starts with, the bytes start with
in_all : (i high b : ℕ) (xs bs : List ℕ) → drop i (take high xs) ≡ b ∷ bs → (others : List ℕ) × (drop i xs ≡ (b ∷ bs) ++ others)
in_all zero zero b xs bs e = absurd (cc e)
in_all zero (suc high) b [] bs e = absurd (cc e)
in_all zero (suc high) b (x ∷ xs) bs e = (drop high xs, ap (λ ys. x ∷ ys) (take_drop high xs) ∙ ap (λ ys. ys ++ drop high xs) e)
in_all (suc i) zero b xs bs e = absurd (cc e)
in_all (suc i) (suc high) b [] bs e = absurd (cc e)
in_all (suc i) (suc high) b (x ∷ xs) bs e = in_all i high b xs bs e

-- each noted offset is a boundary
abbrev AreBoundaries : List ℕ → List (ℕ × ℕ) → Type 0
AreBoundaries content noted = (slot j : ℕ) → last_noted slot noted ≡ Some j → IsCharBoundary content j

one_more_boundary : (content : List ℕ) (i slot : ℕ) (noted : List (ℕ × ℕ)) → IsCharBoundary content i → AreBoundaries content noted → AreBoundaries content ((slot, i) ∷ noted)
one_more_boundary content i slot noted here are asked j e = by_slot (asked == slot) e
  where
    by_slot : (b : Bool) → cond b (Some i) (last_noted asked noted) ≡ Some j → IsCharBoundary content j
    by_slot true e = subst (λ x. IsCharBoundary content x) (cc e) here
    by_slot false e = are asked j e

module _ {S : Type 0} (member : S → ℕ → Bool) (nodes : List (Node Look S)) (h : Haystack Look) (utf8 : IsUtf8 h.content) where
  -- a read leads from a boundary to a boundary
  read_on : (i j q r : ℕ) → IsCharBoundary h.content i → (over_characters put_note (first_by member) nodes h).move i q ≡ reads r j → IsCharBoundary h.content j
  read_on i j q r here e =
      let one = read_is put_note (first_by member) nodes h i j q r e in
      let first = member_stands (member one.0) (left_from h i) one.1 one.2 in
      let byte = first_byte first.0 in
      let rest = first.1.rest in
      let in_front = in_all i h.high byte.0 h.content (byte.1 ++ rest) (first.1.stands ∙ ap (λ x. x ++ rest) byte.2) in
      let stands : drop i h.content ≡ encode_utf8 first.0 ++ (rest ++ in_front.0) =
      in_front.1 ∙ ap (λ x. (x ++ rest) ++ in_front.0) (sym byte.2) ∙ append_assoc (encode_utf8 first.0) rest in_front.0 in
      let to : i + _ ≡ j = sym (one.3 ∙ ap (λ k. i + k) first.3) in
      subst (λ x. IsCharBoundary h.content x) to (IsCharBoundary-past_char h.content (rest ++ in_front.0) i first.0 here.0 (IsUtf8-drop h.content i utf8 here) stands)

  noted_on : (i : ℕ) (a_node : Option (Node Look S)) (n : Notes) → IsCharBoundary h.content i → AreBoundaries h.content n.noted → AreBoundaries h.content (note_at put_note i a_node n).noted
  noted_on i None n here are = are
  noted_on i (Some (match p)) n here are = are
  noted_on i (Some (pass rs)) n here are = are
  noted_on i (Some (note slot r)) n here are = one_more_boundary h.content i slot n.noted here are
  noted_on i (Some (look l r)) n here are = are
  noted_on i (Some (set x r)) n here are = are

  walks_whole : {seen : List ℕ} {n : Notes} {q i : ℕ} {cs : List ℕ} {t : Outcome Notes} → IsCharBoundary h.content i → AreBoundaries h.content n.noted → Walk (over_characters put_note (first_by member) nodes h) seen n q i cs t
      → IsCharBoundary h.content t.end × AreBoundaries h.content t.notes.noted
  walks_whole here are (ended new is) = (here, are)
  walks_whole here are (went {n = n} {q = q} {i = i} rs r new is at w) = walks_whole here (noted_on i (slice_get nodes q) n here are) w
  walks_whole here are (took {q = q} {i = i} r j new is w) = walks_whole (read_on i j q r here is) are w

module _ {S : Type 0} (member : S → ℕ → Bool) (is_word : ℕ → Bool) (p : Program Look S) (s : Search) (utf8 : IsUtf8 s.content) (on : IsTrue s.utf8_empty) where
  at_whole : (i j q r : ℕ) → (machine_of member is_word p s).move i q ≡ reads r j → IsCharBoundary s.content i
  at_whole i j q r e = reads_whole put_note member p.nodes (haystack_of (holds_in is_word p.line_terminator s) s) i j q r e

  walk_whole : {q i : ℕ} {cs : List ℕ} {t : Outcome Notes} → IsCharBoundary s.content i → Walk (machine_of member is_word p s) [] (fresh_notes i) q i cs t → IsCharBoundary s.content t.end × AreBoundaries s.content t.notes.noted
  walk_whole here w = walks_whole member p.nodes (haystack_of (holds_in is_word p.line_terminator s) s) utf8 here (λ slot j e. absurd (cc e)) w

  found_whole : (q : ℕ) (t : Outcome Notes) → IsFind (machine_of member is_word p s) fresh_notes s q (Some t) → StandsAtBoundaries s.content t
  found_whole q t (is_found {i = i} counts before) =
      let here = (begins (λ i j q r e. at_whole i j q r e) counts).1 on in
      let whole = walk_whole here counts.least.walk in record {
        start = subst (λ x. IsCharBoundary s.content x) (sym (walk_keeps member is_word p s counts.least.walk).start) here;
        end = whole.0;
        slots = whole.1;
      }

  pub finds_stand_at_boundaries : (t : Outcome Notes) → ProgramFinds member is_word p s (Some t) → StandsAtBoundaries s.content t
  finds_stand_at_boundaries t finds = by_start (start_node p s.anchoring) finds
    where
      by_start : (o : Option ℕ) → IfStarts o (IsFind (machine_of member is_word p s) fresh_notes s) (Some t) → StandsAtBoundaries s.content t
      by_start None e = absurd (cc e)
      by_start (Some q) is = found_whole q t is

  found_all_whole : (q : ℕ) (a : PatternMatch) → IsFindAll (machine_of member is_word p s) fresh_notes s q (Some a) → IsCharBoundary s.content a.start × IsCharBoundary s.content a.end
  found_all_whole q a (greatest counts best) =
      let reached = counts.reaches in
      let here : IsCharBoundary s.content a.start = elim counts.may_end [
        | inl elsewhere ↦ elim (has_read s.content (λ i j q r e. at_whole i j q r e) reached.walk) [ inl e ↦ absurd (elsewhere (sym reached.end_is ∙ e)) | inr whole ↦ whole ]
        | inr whole ↦ whole on
      ] in
      (here, subst (λ x. IsCharBoundary s.content x) reached.end_is (walk_whole here reached.walk).0)

  pub finds_all_stand_at_boundaries : (a : PatternMatch) → ProgramFindsAll member is_word p s (Some a) → IsCharBoundary s.content a.start × IsCharBoundary s.content a.end
  finds_all_stand_at_boundaries a finds = by_start (start_node p s.anchoring) finds
    where
      by_start : (o : Option ℕ) → IfStarts o (IsFindAll (machine_of member is_word p s) fresh_notes s) (Some a) → IsCharBoundary s.content a.start × IsCharBoundary s.content a.end
      by_start None e = absurd (cc e)
      by_start (Some q) is = found_all_whole q a is

pub matches_stand_at_boundaries : {S : Type 0} (member : S → ℕ → Bool) (is_word : ℕ → Bool) (p : Program Look S) (s : Search) (ms : List (Outcome Notes)) → IsUtf8 s.content → IsTrue s.utf8_empty
    → ProgramMatches member is_word p s ms → All (StandsAtBoundaries s.content) ms
matches_stand_at_boundaries member is_word p s ms utf8 on is =
    All-weaker (IsFoundBehind member is_word p s) (StandsAtBoundaries s.content) (λ t found. finds_stand_at_boundaries member is_word p (from_place_on s found.0) utf8 on t found.2) ms (program_matches_found member is_word p s ms is)
