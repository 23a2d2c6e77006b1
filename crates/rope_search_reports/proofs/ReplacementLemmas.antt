-- The changes that replace matches.
use Rattle.std.proofs.Common.{◌≡◌, ℕ, ◌+◌, ◌-◌, ◌≤◌, List, [], ◌∷◌, ◌++◌, length, take, drop, chars, refl, sym, ap, subst, ◌∙◌, arith, append_assoc, length-take, length-drop, IsUtf8}
use Rattle.std.specs.Str.{IsCharBoundary}
use Rattle.std.proofs.lemmas.List.{take-append-drop, drop-drop}
use Rattle.std.proofs.lemmas.List.Sums.{sum_by-cons}
use Rattle.std.proofs.lemmas.Str.{IsUtf8-between, IsCharBoundary-start, chars-append, chars-encodes, encodes-chars}
use Rattle.str_indices.specs.Text.{byte_len}
use Rattle.rope_search_reports.specs.Changes.{AreChanges}
use Rattle.rope_search_reports.specs.Text.{bytes_of, line_count}
use Rattle.rope_search_reports.specs.Replacement.{ReplacementsAreChanges, Groups, whole, between, expand, replaced, searched, FollowEachOther, changes_of}

-- a part up to an offset, and the rest
split-at : (content : List ℕ) (start end : ℕ) → IsUtf8 content → start ≤ end → IsCharBoundary content start → IsCharBoundary content end
    → chars (drop start content) ≡ between content start end ++ chars (drop end content)
split-at content start end utf8 ordered starts ends =
    let part = take (end - start) (drop start content) in
    let rest : drop (end - start) (drop start content) ≡ drop end content = drop-drop (end - start) start content ∙ ap (λ n. drop n content) (omega (arith, ordered)) in
    ap chars (sym (take-append-drop (end - start) (drop start content)) ∙ ap (λ xs. part ++ xs) rest)
    ∙ chars-append part (drop end content) (IsUtf8-between content start end utf8 ordered starts ends)

between-len : (content : List ℕ) (start end : ℕ) → IsUtf8 content → start ≤ end → IsCharBoundary content start → IsCharBoundary content end → byte_len (between content start end) ≡ end - start
between-len content start end utf8 ordered starts ends =
    ap length (encodes-chars (take (end - start) (drop start content)) (IsUtf8-between content start end utf8 ordered starts ends))
    ∙ omega (arith, length-take (end - start) (drop start content), length-drop start content, ends.0)

pub are-changes : (content template : List ℕ) (at at_new : ℕ) (matches : List Groups) → IsUtf8 content → IsCharBoundary content at → FollowEachOther content at matches
    → AreChanges (changes_of content template at at_new matches) at at_new (chars (drop at content)) (replaced content template at matches) (searched content template matches)
are-changes content template at at_new [] utf8 here follow = (refl, refl)
are-changes content template at at_new (match ∷ matches) utf8 here follow =
    let start = (whole match).0 in
    let end = (whole match).1 in
    let starts = follow.2 in
    let ends = follow.3 in
    let gap = between-len content at start utf8 follow.0 here starts in
    let gone = between-len content start end utf8 follow.1 starts ends in
    let inserted = expand content match template in
    let new_end = at_new + (start - at) + byte_len inserted in
    record {
      gap = between content at start;
      removed = between content start end;
      inserted = inserted;
      old_behind = chars (drop end content);
      new_behind = replaced content template end matches;
      left = searched content template matches;
      old_is =
          split-at content at start utf8 follow.0 here starts
          ∙ ap (λ xs. between content at start ++ xs) (split-at content start end utf8 follow.1 starts ends)
          ∙ sym (append_assoc (between content at start) (between content start end) (chars (drop end content)));
      new_is = refl;
      old_end = omega (arith, gap, gone, follow.0, follow.1);
      new_start = omega (arith, gap);
      new_end = omega (arith, gap);
      counts = sum_by-cons (λ m. line_count (expand content m template)) match matches;
      further = are-changes content template end new_end matches utf8 ends follow.4;
    }

-- ---- all of a text

pub replacements : ReplacementsAreChanges
replacements text template matches is follow =
    let content = bytes_of text in
    let utf8 : IsUtf8 content = (text, (is, refl)) in
    let own : chars content ≡ text = chars-encodes text is in
    subst (λ t. AreChanges (changes_of content template 0 0 matches) 0 0 t (replaced content template 0 matches) (searched content template matches)) own
    (are-changes content template 0 0 matches utf8 (IsCharBoundary-start content utf8) follow)
