-- Finds are inside haystack, slice and span.
use Rattle.std.proofs.Common.{◌≡◌, ℕ, ◌≤◌, Bool, true, false, ◌==◌, cond, List, [], ◌∷◌, length, Option, Some, None, slice_get, min, refl, sym, subst, ◌∙◌, arith}
use Rattle.std.proofs.lemmas.Bool.Decides.{nat_tests}
use Rattle.std.proofs.Math.Nat.{le-max_left, le-max_right, min-le_left, min-le_right}
use Rattle.rx_walks.specs.Machines.{Move, ends, goes, Outcome, IsForward}
use Rattle.rx_walks.specs.Walks.{Walk, ended, went, took}
use Rattle.rx_walks.specs.Finds.{Search, IsInside, IsPossible, MayEnd, IsFind, is_found, IsFindAll, greatest, PatternMatch}
use Rattle.rx_walks.specs.Looks.{Look}
use Rattle.rx_walks.specs.Programs.{Node, match, pass, note, look, set, Program, Haystack, only_if, is_within, by_character, over_characters, note_at, Notes, fresh_notes, put_note, last_noted}
use Rattle.rx_walks.specs.ProgramFinds.{first_by, haystack_of, holds_in, machine_of, lowest, highest, start_node, IfStarts, ProgramFinds, ProgramFindsAll}
use Rattle.rx_walks.specs.Laws.{MayBeFound, LiesInside}
use Rattle.rx_walks.proofs.ForwardLaws.{characters_forward}

-- if there is a move, the offset is inside
ends_inside : {Q : Type 0} {p : ℕ} (b : Bool) (x : Move Q) → only_if b x ≡ ends p → b ≡ true
ends_inside false x e = absurd (cc e)
ends_inside true x e = refl

pub none_there : {Q : Type 0} {r : Q} (rs : List Q) (k : ℕ) → rs ≡ [] → slice_get rs k ≡ Some r → ⊥
none_there [] k e at = absurd (cc at)
none_there (r ∷ rs) k e at = absurd (cc e)

pub same_goes : {Q : Type 0} (rs ss : List Q) → goes rs ≡ goes ss → rs ≡ ss
same_goes rs ss e = cc e

-- each noted offset is between these
abbrev pub AreNoted : ℕ → ℕ → List (ℕ × ℕ) → Type 0
AreNoted low high noted = (slot j : ℕ) → last_noted slot noted ≡ Some j → (low ≤ j) × (j ≤ high)

one_more_noted : (low i slot : ℕ) (noted : List (ℕ × ℕ)) → low ≤ i → AreNoted low i noted → AreNoted low i ((slot, i) ∷ noted)
one_more_noted low i slot noted from are asked j e = by_slot (asked == slot) e
  where
    by_slot : (b : Bool) → cond b (Some i) (last_noted asked noted) ≡ Some j → (low ≤ j) × (j ≤ i)
    by_slot true e = let same : i ≡ j = cc e in (omega (arith, same, from), omega (arith, same))
    by_slot false e = are asked j e

-- what a walk keeps
pub record Keeps (m_within : ℕ → Bool) (low i : ℕ) (n : Notes) (t : Outcome Notes) : Type 0 where
  pub inside : m_within t.end ≡ true
  pub on : i ≤ t.end
  pub start : t.notes.start ≡ n.start
  pub noted : AreNoted low t.end t.notes.noted

module _ {S : Type 0} (first : S → List ℕ → Option ℕ) (nodes : List (Node Look S)) (h : Haystack Look) (forward : IsForward (over_characters put_note first nodes h)) where
  note_keeps : (low i : ℕ) (a_node : Option (Node Look S)) (n : Notes) → low ≤ i → AreNoted low i n.noted → ((note_at put_note i a_node n).start ≡ n.start) × AreNoted low i (note_at put_note i a_node n).noted
  note_keeps low i None n from are = (refl, are)
  note_keeps low i (Some (match p)) n from are = (refl, are)
  note_keeps low i (Some (pass rs)) n from are = (refl, are)
  note_keeps low i (Some (note slot r)) n from are = (refl, one_more_noted low i slot n.noted from are)
  note_keeps low i (Some (look l r)) n from are = (refl, are)
  note_keeps low i (Some (set x r)) n from are = (refl, are)

  keeps : {seen : List ℕ} {n : Notes} {q i : ℕ} {cs : List ℕ} {t : Outcome Notes} (low : ℕ) → low ≤ i → AreNoted low i n.noted → Walk (over_characters put_note first nodes h) seen n q i cs t
      → Keeps (is_within h.low h.high) low i n t
  keeps low from are (ended {q = q} {i = i} new is) = record { inside = ends_inside (is_within h.low h.high i) (by_character first h i (slice_get nodes q)) is; on = omega arith; start = refl; noted = are }
  keeps low from are (went {n = n} {q = q} {i = i} rs r new is at w) =
      let kept = note_keeps low i (slice_get nodes q) n from are in
      let further = keeps low from kept.1 w in
      record { inside = further.inside; on = further.on; start = further.start ∙ kept.0; noted = further.noted }
  keeps low from are (took {n = n} {q = q} {i = i} r j new is w) =
      let below = forward i j q r is in
      let further = keeps low (omega (arith, from, below)) (λ slot k e. ((are slot k e).0, omega (arith, (are slot k e).1, below))) w in
      record { inside = further.inside; on = omega (arith, further.on, below); start = further.start; noted = further.noted }

-- an offset inside
within_low : (low high i : ℕ) → is_within low high i ≡ true → low ≤ i
within_low low high i e = grind (arith, nat_tests)

pub within_high : (low high i : ℕ) → is_within low high i ≡ true → i ≤ high
within_high low high i e = grind (arith, nat_tests)

pub inside_of : (s : Search) (i : ℕ) → is_within (lowest s) (highest s) i ≡ true → IsInside s i
inside_of s i e =
    let low = within_low (lowest s) (highest s) i e in
    let high = within_high (lowest s) (highest s) i e in
    let ends = min-le_left (min s.slice_end s.end) (length s.content) in (
      omega (arith, low, le-max_left s.slice_start s.start),
      omega (arith, high, ends, min-le_left s.slice_end s.end),
      omega (arith, low, le-max_right s.slice_start s.start),
      omega (arith, high, ends, min-le_right s.slice_end s.end),
      omega (arith, high, min-le_right (min s.slice_end s.end) (length s.content)),
    )

module _ {S : Type 0} (member : S → ℕ → Bool) (is_word : ℕ → Bool) (p : Program Look S) (s : Search) where
  pub walk_keeps : {q i : ℕ} {cs : List ℕ} {t : Outcome Notes} → Walk (machine_of member is_word p s) [] (fresh_notes i) q i cs t → Keeps (is_within (lowest s) (highest s)) i i (fresh_notes i) t
  walk_keeps {i = i} w =
      let h = haystack_of (holds_in is_word p.line_terminator s) s in
      keeps (first_by member) p.nodes h (characters_forward put_note member p.nodes h) i (omega arith) (λ slot j e. absurd (cc e)) w

  found_inside : (q : ℕ) (t : Outcome Notes) → IsFind (machine_of member is_word p s) fresh_notes s q (Some t) → LiesInside s t
  found_inside q t (is_found {i = i} counts before) =
      let kept = walk_keeps counts.least.walk in
      record {
        found = record {
          possible = subst (λ x. IsPossible s x) (sym kept.start) counts.possible;
          ordered = omega (arith, kept.start, kept.on);
          inside = inside_of s t.end kept.inside;
          may_end = subst (λ x. MayEnd s x t.end) (sym kept.start) counts.may_end;
        };
        slots = λ slot j e. (omega (arith, kept.start, (kept.noted slot j e).0), (kept.noted slot j e).1);
      }

  pub finds_lie_inside : (t : Outcome Notes) → ProgramFinds member is_word p s (Some t) → LiesInside s t
  finds_lie_inside t finds = by_start (start_node p s.anchoring) finds
    where
      by_start : (o : Option ℕ) → IfStarts o (IsFind (machine_of member is_word p s) fresh_notes s) (Some t) → LiesInside s t
      by_start None e = absurd (cc e)
      by_start (Some q) is = found_inside q t is

  all_inside : (q : ℕ) (a : PatternMatch) → IsFindAll (machine_of member is_word p s) fresh_notes s q (Some a) → MayBeFound s a.start a.end
  all_inside q a (greatest counts best) =
      let kept = walk_keeps counts.reaches.walk in
      record {
        possible = counts.possible;
        ordered = omega (arith, counts.reaches.end_is, kept.on);
        inside = inside_of s a.end (subst (λ x. is_within (lowest s) (highest s) x ≡ true) counts.reaches.end_is kept.inside);
        may_end = counts.may_end;
      }

  pub finds_all_lie_inside : (a : PatternMatch) → ProgramFindsAll member is_word p s (Some a) → MayBeFound s a.start a.end
  finds_all_lie_inside a finds = by_start (start_node p s.anchoring) finds
    where
      by_start : (o : Option ℕ) → IfStarts o (IsFindAll (machine_of member is_word p s) fresh_notes s) (Some a) → MayBeFound s a.start a.end
      by_start None e = absurd (cc e)
      by_start (Some q) is = all_inside q a is
