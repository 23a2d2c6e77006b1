-- The matches of spans that start at an offset or after it, written to the front of a list.
use Rattle.std.proofs.Common.{◌≡◌, ℕ, zero, suc, ◌+◌, ◌<◌, ◌≤◌, nat_le, List, [], ◌∷◌, ◌++◌, length, take, drop, map, min, set, get_or, refl, sym, ap, subst, ◌∙◌, All, None, Some, Ok, arith, append_assoc, append-nil, length-append}
use Rattle.std.proofs.Math.ListN.{get_or-map}
use Rattle.std.proofs.Math.Seq.{take-append_seam, set-append_seam}
use Rattle.std.proofs.lemmas.Bool.{cond-true, cond-false, le-leb, lt-leb}
use Rattle.std.proofs.lemmas.List.{drop_all, length-map, map-append, take-append-drop, take_all, take_more}
use Rattle.std.proofs.lemmas.List.Elements.{filter-append}
use Rattle.rope_search_reports.specs.Replacement.{HasSpansIn, IsSpanIn, alone}
use Rattle.rope_search_reports.specs.declared.positions.Position.{Position}
use Rattle.rope_search.specs.Session.{BufferState, current_text}
use Rattle.rope_search.specs.TextMatches.{AnswersNextAll, CopiesFirst, CopiesMatchesFrom, starting_from}
use Rattle.rope_search.specs.declared.text_matches.TextMatch.{TextMatch}

-- ---- the spans that start there

-- one more of them
one-in : (place : ℕ) (span : ℕ × ℕ) → place ≤ span.0 → starting_from place (span ∷ []) ≡ span ∷ []
one-in place span later = cond-true (nat_le place span.0) (span ∷ []) [] (le-leb place span.0 later)

one-out : (place : ℕ) (span : ℕ × ℕ) → span.0 < place → starting_from place (span ∷ []) ≡ []
one-out place span sooner = cond-false (nat_le place span.0) (span ∷ []) [] (lt-leb place span.0 sooner)

from-more : (place : ℕ) (spans : List (ℕ × ℕ)) (i : ℕ) → i < length spans
    → starting_from place (take (i + 1) spans) ≡ starting_from place (take i spans) ++ starting_from place (get_or spans i (0, 0) ∷ [])
from-more place spans i inside =
    ap (starting_from place) (take_more spans i (0, 0) inside) ∙ filter-append (λ (span : ℕ × ℕ). nat_le place span.0) (take i spans) (get_or spans i (0, 0) ∷ [])

from-parts : (place : ℕ) (spans : List (ℕ × ℕ)) (i : ℕ) → starting_from place spans ≡ starting_from place (take i spans) ++ starting_from place (drop i spans)
from-parts place spans i =
    ap (starting_from place) (sym (take-append-drop i spans)) ∙ filter-append (λ (span : ℕ × ℕ). nat_le place span.0) (take i spans) (drop i spans)

-- ---- written so far

-- The first `count` elements of the list are those of the spans among the first `i`; all have room.
pub record PutSoFar {X : Type 0} (told : ℕ × ℕ → X) (place : ℕ) (spans : List (ℕ × ℕ)) (i count : ℕ) (first out : List X) : Type 0 where
  pub counted : count ≡ length (starting_from place (take i spans))
  pub fits : count ≤ length first
  pub put : out ≡ map told (starting_from place (take i spans)) ++ drop count first

drop-cons : {A : Type 0} (i : ℕ) (xs : List A) → i < length xs → (y : A) × (drop i xs ≡ y ∷ drop (i + 1) xs)
drop-cons zero [] low = absurd (omega (arith, low))
drop-cons zero (x ∷ xs) low = (x, refl)
drop-cons (suc i) [] low = absurd (omega (arith, low))
drop-cons (suc i) (x ∷ xs) low =
    let rest = drop-cons i xs (omega (arith, low)) in
    let more : suc (i + 1) ≡ suc i + 1 = omega arith in
    (rest.0, rest.1 ∙ ap (λ n. rest.0 ∷ drop n (x ∷ xs)) more)

pub put-in : {X : Type 0} (told : ℕ × ℕ → X) (place : ℕ) (spans : List (ℕ × ℕ)) (i count : ℕ) (first out : List X) (x : X) → i < length spans → place ≤ (get_or spans i (0, 0)).0
    → count < length first → x ≡ told (get_or spans i (0, 0)) → PutSoFar told place spans i count first out → PutSoFar told place spans (i + 1) (count + 1) first (set out count x)
put-in told place spans i count first out x inside later room is so =
    let span = get_or spans i (0, 0) in
    let kept = starting_from place (take i spans) in
    let more : starting_from place (take (i + 1) spans) ≡ kept ++ span ∷ [] = from-more place spans i inside ∙ ap (λ l. kept ++ l) (one-in place span later) in
    let cut = drop-cons count first room in
    let long : length (map told kept) ≡ count = length-map kept told ∙ sym so.counted in
    record {
      counted = omega (arith, so.counted, ap length more, length-append kept (span ∷ []));
      fits = omega (arith, room);
      put =
          ap (λ l. set l count x) (so.put ∙ ap (λ l. map told kept ++ l) cut.1)
          ∙ ap (λ n. set (map told kept ++ cut.0 ∷ drop (count + 1) first) n x) (sym long)
          ∙ set-append_seam (map told kept) cut.0 (drop (count + 1) first) x
          ∙ sym (append_assoc (map told kept) (x ∷ []) (drop (count + 1) first))
          ∙ ap (λ l. l ++ drop (count + 1) first) (ap (λ y. map told kept ++ y ∷ []) is ∙ sym (map-append told kept (span ∷ [])) ∙ ap (map told) (sym more));
    }

pub put-out : {X : Type 0} (told : ℕ × ℕ → X) (place : ℕ) (spans : List (ℕ × ℕ)) (i count : ℕ) (first out : List X) → i < length spans → (get_or spans i (0, 0)).0 < place
    → PutSoFar told place spans i count first out → PutSoFar told place spans (i + 1) count first out
put-out told place spans i count first out inside sooner so =
    let kept = starting_from place (take i spans) in
    let same : kept ≡ starting_from place (take (i + 1) spans) =
    sym (from-more place spans i inside ∙ ap (λ l. kept ++ l) (one-out place (get_or spans i (0, 0)) sooner) ∙ append-nil kept) in
    record {
      counted = so.counted ∙ ap length same;
      fits = so.fits;
      put = so.put ∙ ap (λ l. map told l ++ drop count first) same;
    }

-- ---- all that fit

pub put-full : (told : ℕ × ℕ → TextMatch) (place : ℕ) (spans : List (ℕ × ℕ)) (i count : ℕ) (first out : List TextMatch) → count ≡ length first
    → PutSoFar told place spans i count first out → CopiesFirst (map told (starting_from place spans)) count first out
put-full told place spans i count first out full so =
    let kept = map told (starting_from place (take i spans)) in
    let rest = map told (starting_from place (drop i spans)) in
    let all = map told (starting_from place spans) in
    let parts : all ≡ kept ++ rest =
    ap (map told) (from-parts place spans i) ∙ map-append told (starting_from place (take i spans)) (starting_from place (drop i spans)) in
    let one : length kept ≡ length first = length-map (starting_from place (take i spans)) told ∙ sym so.counted ∙ full in
    let long : length all ≡ length first + length rest = ap length parts ∙ length-append kept rest ∙ ap (λ n. n + length rest) one in
    record {
      counted = omega (arith, long, full);
      copied =
          so.put
          ∙ ap (λ l. kept ++ l) (drop_all count first (omega (arith, full)) ∙ sym (drop_all (length all) first (omega (arith, long))))
          ∙ ap (λ l. l ++ drop (length all) first)
          (sym (take-append_seam kept rest) ∙ ap (λ n. take n (kept ++ rest)) one ∙ ap (take (length first)) (sym parts));
    }

pub put-all : (told : ℕ × ℕ → TextMatch) (place : ℕ) (spans : List (ℕ × ℕ)) (i count : ℕ) (first out : List TextMatch) → length spans ≤ i
    → PutSoFar told place spans i count first out → CopiesFirst (map told (starting_from place spans)) count first out
put-all told place spans i count first out end so =
    let whole : take i spans ≡ spans = take_all i spans end in
    let all = map told (starting_from place spans) in
    let counted : count ≡ length all = so.counted ∙ ap (λ l. length (starting_from place l)) whole ∙ sym (length-map (starting_from place spans) told) in
    record {
      counted = omega (arith, counted, so.fits);
      copied =
          so.put ∙ ap (λ l. map told (starting_from place l) ++ drop count first) whole
          ∙ ap (λ n. all ++ drop n first) counted
          ∙ ap (λ l. l ++ drop (length all) first) (sym (take_all (length first) all (omega (arith, counted, so.fits))));
    }

-- ---- the answer

-- each span of matches in a text lies in it
pub spans-in : (content : List ℕ) (spans : List (ℕ × ℕ)) → All (HasSpansIn content) (map alone spans) → All (IsSpanIn content) spans
spans-in content spans all = λ i d low.
    let own : HasSpansIn content (get_or (map alone spans) i (alone d)) = all i (alone d) (omega (arith, low, length-map spans alone)) in
    (subst (HasSpansIn content) (get_or-map alone spans i d) own) 0 None (omega arith)

-- with a pattern, from the answer for the buffer's text
pub found_told : (b : BufferState) (p : List ℕ) (from : Position) (count : ℕ) (old new : List TextMatch) → b.pattern ≡ Some p
    → CopiesMatchesFrom (current_text b) p from count old new → AnswersNextAll b from (Ok count) old new
found_told b p from count old new is copies = record { pattern = p; is_pattern = is; copies = copies }
