-- The lines and the rows that make way where changes lead from one text to another.
use Rattle.std.proofs.Common.{◌≡◌, ℕ, zero, suc, ◌+◌, ◌-◌, ◌≤◌, List, [], ◌∷◌, ◌++◌, length, take, drop, map, inl, inr, refl, sym, ap, subst, ◌∙◌, arith, append_assoc, length-append, length-take, max, None, Some}
use Rattle.std.specs.Prelude.{slice_get}
use Rattle.std.proofs.Math.Seq.{take-append_seam, drop-append_seam}
use Rattle.std.proofs.lemmas.List.{take-append-le}
use Rattle.str_indices.specs.Text.{byte_len, breaks}
use Rattle.ropey.specs.Chunks.{is_break}
use Rattle.rope_search_reports.specs.Text.{bytes_of, line_count}
use Rattle.rope_search_reports.specs.Patches.{AreInTurn, patched}
use Rattle.rope_search_reports.specs.declared.patches.Patch.{Patch}
use Rattle.rope_search_reports.proofs.LineLemmas.{lines-counted}
use Rattle.rope_search_reports.specs.Changes.{AreChanges, ChangesKeepLines, TailsKeepLines}
use Rattle.rope_search_reports.specs.Report.{line_texts, columns, AreRows, IsReport}
use Rattle.rope_search_reports.specs.Position.{line_at}
use Rattle.rope_search_reports.specs.Laws.{HasOneListOfMatches}
use Rattle.rope_search_reports.specs.Turned.{Lead}
use Rattle.rope_search_changes.specs.declared.Change.{Change}
use Rattle.rope_search.specs.declared.stretches.Stretch.{Stretch}
use Rattle.rope_search.specs.Stretches.{IsStretch, ReplacesIn, hull, hull_of, none}
use Rattle.rope_search.proofs.PartLaws.{byte_len-append}

-- ---- one change in the place of several

-- the part from where a first one stands to where a second one does
through : (all gap part rest gap' part' rest' : List ℕ) → all ≡ gap ++ part ++ rest → rest ≡ gap' ++ part' ++ rest'
    → all ≡ gap ++ (part ++ (gap' ++ part')) ++ rest'
through all gap part rest gap' part' rest' is is' =
    is ∙ ap (λ t. gap ++ part ++ t) is' ∙ sym (append_assoc (gap ++ part) (gap' ++ part') rest') ∙ ap (λ t. t ++ rest') (append_assoc gap part (gap' ++ part'))

pub hull-leads : (c : Change) (cs : List Change) (at_old at_new : ℕ) (old new : List ℕ) (n : ℕ) → AreChanges (c ∷ cs) at_old at_new old new n
    → (m : ℕ) × AreChanges (hull c cs ∷ []) at_old at_new old new m
hull-leads c [] at_old at_new old new n one = (n, one)
hull-leads c (d ∷ ds) at_old at_new old new n one =
    let later = hull-leads d ds c.old_end c.new_end one.old_behind one.new_behind one.left one.further in
    let last = later.1 in
    let gone = byte_len-append one.removed (last.gap ++ last.removed) in
    let gone' = byte_len-append last.gap last.removed in
    let come = byte_len-append one.inserted (last.gap ++ last.inserted) in
    let come' = byte_len-append last.gap last.inserted in (
      _,
      record {
        gap = one.gap;
        removed = one.removed ++ (last.gap ++ last.removed);
        inserted = one.inserted ++ (last.gap ++ last.inserted);
        old_behind = last.old_behind;
        new_behind = last.new_behind;
        left = 0;
        old_is = through old one.gap one.removed one.old_behind last.gap last.removed last.old_behind one.old_is last.old_is;
        new_is = through new one.gap one.inserted one.new_behind last.gap last.inserted last.new_behind one.new_is last.new_is;
        old_end = omega (arith, last.old_end, one.old_end, gone, gone');
        new_start = one.new_start;
        new_end = omega (arith, last.new_end, one.new_end, come, come');
        counts = refl;
        further = (last.further.0, refl);
      },
    )

-- its ends are those of the first and of the last
pub hull-ends : (c : Change) (cs : List Change) (last : Change) → slice_get (c ∷ cs) (length cs) ≡ Some last
    → record { old_end = last.old_end; new_start = c.new_start; new_end = last.new_end } ≡ hull c cs
hull-ends c [] last is =
    let same : c ≡ last = cc in
    ap (λ (l : Change). record { old_end = l.old_end; new_start = c.new_start; new_end = l.new_end }) (sym same)
hull-ends c (d ∷ ds) last is =
    let later = hull-ends d ds last is in
    ap (λ (l : Change). record { old_end = l.old_end; new_start = c.new_start; new_end = l.new_end }) later

-- ---- lines

-- where one change leads from a text to another
pub record IsPart (old new : List ℕ) (n first gone end : ℕ) : Type 0 where
  pub lines : IsStretch (line_texts old) (line_texts new) (record { first = first; removed = gone - first; added = end - first })
  pub ordered : first ≤ gone
  pub ordered_new : first ≤ end
  pub few : end - first ≤ n

-- a list that begins with the front of another, and goes on behind a part as that does
parted : {A : Type 0} (old new x : List A) (first gone end : ℕ) → first ≤ gone → gone ≤ length old → first ≤ end → end ≤ length new
    → take end new ≡ take first old ++ x → new ≡ take end new ++ drop gone old
    → IsStretch old new (record { first = first; removed = gone - first; added = end - first })
parted old new x first gone end low within low' within' front rest =
    let long : length (take first old) ≡ first = omega (arith, length-take first old, low, within) in
    let long' : length (take end new) ≡ end = omega (arith, length-take end new, within') in
    let all : first + (end - first) ≡ end = omega (arith, low') in
    let all' : first + (gone - first) ≡ gone = omega (arith, low) in
    record {
      before =
          ap (take first) rest ∙ take-append-le first (take end new) (drop gone old) (omega (arith, long', low'))
          ∙ ap (take first) front ∙ ap (λ n. take n (take first old ++ x)) (sym long) ∙ take-append_seam (take first old) x;
      behind =
          ap (λ n. drop n new) all ∙ ap (drop end) rest ∙ ap (λ n. drop n (take end new ++ drop gone old)) (sym long')
          ∙ drop-append_seam (take end new) (drop gone old) ∙ ap (λ n. drop n old) (sym all');
      within = omega (arith, all', within);
      within_new = omega (arith, all, within');
    }

lines-part : ChangesKeepLines → TailsKeepLines → (gap removed inserted tail : List ℕ)
    → IsPart (gap ++ removed ++ tail) (gap ++ inserted ++ tail) (breaks is_break inserted + 1) (line_at (gap ++ inserted ++ tail) (byte_len gap))
    (line_at (gap ++ removed ++ tail) (byte_len (gap ++ removed)) + 1) (line_at (gap ++ inserted ++ tail) (byte_len (gap ++ inserted)) + 1)
lines-part keeps tails gap removed inserted tail =
    let old = gap ++ removed ++ tail in
    let new = gap ++ inserted ++ tail in
    let first = line_at new (byte_len gap) in
    let gone = line_at old (byte_len (gap ++ removed)) in
    let last = line_at new (byte_len (gap ++ inserted)) in
    let kept = keeps [] [] gap removed inserted tail tail 0 0 (inl (record { old = refl; new = refl; none = refl; none_new = refl })) in
    let rest = tails (gap ++ removed) (gap ++ inserted) tail (gone + 1) (last + 1) (inr (record { old_is = refl; new_is = refl })) in
    let further = kept.0 in
    let start = max first 0 in
    let same : start ≡ first = omega arith in
    let front : take (last + 1) (line_texts new) ≡ take first (line_texts old) ++ take (last + 1 - first) (drop first (line_texts new)) =
    further.lines
    ∙ ap (λ k. take k (line_texts old) ++ take (last + 1 - start) (drop start (line_texts new))) (omega arith)
    ∙ ap (λ k. take first (line_texts old) ++ take (last + 1 - k) (drop k (line_texts new))) same in
    record {
      lines = parted (line_texts old) (line_texts new) (take (last + 1 - first) (drop first (line_texts new))) first (gone + 1) (last + 1)
          (omega (arith, further.within)) further.inside (omega (arith, further.ordered)) further.inside_new front rest;
      ordered = omega (arith, further.within);
      ordered_new = omega (arith, further.ordered);
      few = omega (arith, kept.1);
    }

pub change-part : ChangesKeepLines → TailsKeepLines → (change : Change) (old new : List ℕ) (n first gone end : ℕ) → AreChanges (change ∷ []) 0 0 old new n
    → first ≡ line_at new change.new_start → gone ≡ line_at old change.old_end + 1 → end ≡ line_at new change.new_end + 1 → IsPart old new n first gone end
change-part keeps tails change old new n first gone end one is_first is_gone is_end =
    let part = lines-part keeps tails one.gap one.removed one.inserted one.old_behind in
    let new_is : new ≡ one.gap ++ one.inserted ++ one.old_behind = one.new_is ∙ ap (λ t. one.gap ++ one.inserted ++ t) (sym one.further.0) in
    let start : change.new_start ≡ byte_len one.gap = omega (arith, one.new_start) in
    let old_end : change.old_end ≡ byte_len (one.gap ++ one.removed) = omega (arith, one.old_end, byte_len-append one.gap one.removed) in
    let new_end : change.new_end ≡ byte_len (one.gap ++ one.inserted) = omega (arith, one.new_end, byte_len-append one.gap one.inserted) in
    let few : n ≡ breaks is_break one.inserted + 1 = omega (arith, one.counts, one.further.1) in
    rw (is_first, is_gone, is_end, start, old_end, new_end, one.old_is, new_is, few) part

-- ---- rows

pub alike : HasOneListOfMatches → (pattern : List ℕ) (lines : List (List ℕ)) (rows rows' : List (List (ℕ × ℕ))) → AreRows pattern lines rows → AreRows pattern lines rows' → rows ≡ rows'
alike law pattern [] [] [] one other = refl
alike law pattern [] (row ∷ rows) rows' one other = absurd one
alike law pattern [] [] (row ∷ rows') one other = absurd other
alike law pattern (line ∷ lines) [] rows' one other = absurd one
alike law pattern (line ∷ lines) (row ∷ rows) [] one other = absurd other
alike law pattern (line ∷ lines) (row ∷ rows) (row' ∷ rows') one other =
    let spans = law pattern (bytes_of line) one.0.spans other.0.spans one.0.are other.0.are in
    let first : row ≡ row' = one.0.shown ∙ ap (map (columns (bytes_of line))) spans ∙ sym other.0.shown in
    ap (λ r. r ∷ rows) first ∙ ap (λ rs. row' ∷ rs) (alike law pattern lines rows rows' one.1 other.1)

pub as-many : (pattern : List ℕ) (lines : List (List ℕ)) (rows : List (List (ℕ × ℕ))) → AreRows pattern lines rows → length rows ≡ length lines
as-many pattern [] [] are = refl
as-many pattern [] (row ∷ rows) are = absurd are
as-many pattern (line ∷ lines) [] are = absurd are
as-many pattern (line ∷ lines) (row ∷ rows) are = ap suc (as-many pattern lines rows are.1)

pub first-rows : (pattern : List ℕ) (lines : List (List ℕ)) (rows : List (List (ℕ × ℕ))) (k : ℕ) → AreRows pattern lines rows → AreRows pattern (take k lines) (take k rows)
first-rows pattern lines rows zero are = tt
first-rows pattern [] [] (suc k) are = tt
first-rows pattern [] (row ∷ rows) (suc k) are = absurd are
first-rows pattern (line ∷ lines) [] (suc k) are = absurd are
first-rows pattern (line ∷ lines) (row ∷ rows) (suc k) are = (are.0, first-rows pattern lines rows k are.1)

pub last-rows : (pattern : List ℕ) (lines : List (List ℕ)) (rows : List (List (ℕ × ℕ))) (k : ℕ) → AreRows pattern lines rows → AreRows pattern (drop k lines) (drop k rows)
last-rows pattern lines rows zero are = are
last-rows pattern [] [] (suc k) are = tt
last-rows pattern [] (row ∷ rows) (suc k) are = absurd are
last-rows pattern (line ∷ lines) [] (suc k) are = absurd are
last-rows pattern (line ∷ lines) (row ∷ rows) (suc k) are = last-rows pattern lines rows k are.1

-- the rows of lines that stay are those that they were
pub rows-stretch : HasOneListOfMatches → (pattern old new : List ℕ) (stretch : Stretch) → IsStretch (line_texts old) (line_texts new) stretch → ReplacesIn old new pattern stretch
rows-stretch law pattern old new s lines = λ rows rows' are are'.
    let first = s.first in
    let gone = s.first + s.removed in
    let end = s.first + s.added in
    record {
      before = alike law pattern (take first (line_texts old)) (take first rows') (take first rows)
          (subst (λ ls. AreRows pattern ls (take first rows')) lines.before (first-rows pattern (line_texts new) rows' first are')) (first-rows pattern (line_texts old) rows first are);
      behind = alike law pattern (drop gone (line_texts old)) (drop end rows') (drop gone rows)
          (subst (λ ls. AreRows pattern ls (drop end rows')) lines.behind (last-rows pattern (line_texts new) rows' end are')) (last-rows pattern (line_texts old) rows gone are);
      within = omega (arith, lines.within, as-many pattern (line_texts old) rows are);
      within_new = omega (arith, lines.within_new, as-many pattern (line_texts new) rows' are');
    }

-- ---- by one patch

-- a list with a part of another in the place of some of its own
put-stretch : {A : Type 0} (old new made : List A) (first end : ℕ) → first ≤ end → end ≤ length old → new ≡ take first old ++ made ++ drop end old
    → IsStretch old new (record { first = first; removed = end - first; added = length made })
put-stretch old new made first end low within is =
    let long : length (take first old) ≡ first = omega (arith, length-take first old, low, within) in
    let long' : length (take first old ++ made) ≡ first + length made = omega (arith, length-append (take first old) made, long) in
    let all : first + (end - first) ≡ end = omega (arith, low) in
    record {
      before =
          ap (take first) (is ∙ append_assoc (take first old) made (drop end old)) ∙ ap (λ n. take n (take first old ++ (made ++ drop end old))) (sym long)
          ∙ take-append_seam (take first old) (made ++ drop end old);
      behind =
          ap (drop (first + length made)) is ∙ ap (λ n. drop n (take first old ++ made ++ drop end old)) (sym long')
          ∙ drop-append_seam (take first old ++ made) (drop end old) ∙ ap (λ n. drop n old) (sym all);
      within = omega (arith, all, within);
      within_new = omega (arith, ap length is, length-append (take first old ++ made) (drop end old), long');
    }

pub one-item : {A : Type 0} (xs : List A) → length xs ≡ 1 → (x : A) × (xs ≡ x ∷ [])
one-item [] one = absurd (omega (arith, one))
one-item (x ∷ []) one = (x, refl)
one-item (x ∷ y ∷ xs) one = absurd (omega (arith, one))

-- the only patch tells which rows make way
pub patch-stretch : HasOneListOfMatches → (pattern old new : List ℕ) (patches : List Patch) (patch : Patch) → patches ≡ patch ∷ [] → AreInTurn 0 (line_count old) patches
    → ((rows : List (List (ℕ × ℕ))) → IsReport old pattern rows → IsReport new pattern (patched 0 rows patches))
    → ReplacesIn old new pattern (record { first = patch.first; removed = patch.end - patch.first; added = length patch.made.items })
patch-stretch law pattern old new patches patch one turn report rows rows' are are' =
    let turn' : AreInTurn 0 (line_count old) (patch ∷ []) = subst (AreInTurn 0 (line_count old)) one turn in
    let same : rows' ≡ patched 0 rows (patch ∷ []) =
    alike law pattern (line_texts new) rows' (patched 0 rows patches) are' (report rows are) ∙ ap (patched 0 rows) one in
    let none : patch.first - 0 ≡ patch.first = omega arith in
    put-stretch rows rows' patch.made.items patch.first patch.end turn'.1 (omega (arith, turn'.2, as-many pattern (line_texts old) rows are, lines-counted old))
    (same ∙ ap (λ n. take n rows ++ patch.made.items ++ drop patch.end rows) none)

-- nothing changed
pub same-stretch : (pattern old new : List ℕ) (stretch : Stretch) → HasOneListOfMatches → old ≡ new → stretch ≡ none → ReplacesIn old new pattern stretch
same-stretch pattern old new s law same is =
    let lines : IsStretch (line_texts old) (line_texts old) none = record { before = refl; behind = refl; within = omega arith; within_new = omega arith } in
    rows-stretch law pattern old new s (rw (is, sym same) lines)

-- ---- the hull of some changes

pub hull-is : (changes : List Change) (first last : Change) → Some first ≡ slice_get changes 0 → Some last ≡ slice_get changes (length changes - 1)
    → Some (record { old_end = last.old_end; new_start = first.new_start; new_end = last.new_end }) ≡ hull_of changes
hull-is [] first last one other = absurd (cc)
hull-is (c ∷ cs) first last one other =
    let begins : first ≡ c = cc in
    let count : length (c ∷ cs) - 1 ≡ length cs = omega arith in
    let ends = hull-ends c cs last (sym (other ∙ ap (slice_get (c ∷ cs)) count)) in
    ap (λ (f : Change). Some (record { old_end = last.old_end; new_start = f.new_start; new_end = last.new_end })) begins ∙ ap Some ends

-- it leads where they do
pub hull-lead : (changes : List Change) (change : Change) (old new : List ℕ) → hull_of changes ≡ Some change → Lead changes old new → Lead (change ∷ []) old new
hull-lead [] change old new is lead = absurd (cc)
hull-lead (c ∷ cs) change old new is lead =
    let same : hull c cs ≡ change = cc in
    subst (λ (h : Change). Lead (h ∷ []) old new) same (hull-leads c cs 0 0 old new lead.0 lead.1)

-- without changes there is none
pub hull-none : (changes : List Change) (old new : List ℕ) → hull_of changes ≡ None → Lead changes old new → old ≡ new
hull-none [] old new is lead = lead.1.0
hull-none (c ∷ cs) old new is lead = absurd (cc)

-- ---- where a change stands

-- its places are in the texts
pub change-within : (change : Change) (old new : List ℕ) (n : ℕ) → AreChanges (change ∷ []) 0 0 old new n
    → (change.new_start ≤ byte_len new) × (change.old_end ≤ byte_len old) × (change.new_end ≤ byte_len new)
change-within change old new n one =
    let all = ap byte_len one.new_is ∙ byte_len-append (one.gap ++ one.inserted) one.new_behind in
    let all' = ap byte_len one.old_is ∙ byte_len-append (one.gap ++ one.removed) one.old_behind in
    let front = byte_len-append one.gap one.inserted in
    let front' = byte_len-append one.gap one.removed in
    (omega (arith, all, front, one.new_start), omega (arith, all', front', one.old_end), omega (arith, all, front, one.new_end))
