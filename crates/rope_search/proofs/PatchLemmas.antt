-- The change that replaces a part by another text, and the rows of patches.
use Rattle.std.proofs.Common.{◌≡◌, ℕ, ◌+◌, ◌-◌, ◌≤◌, List, [], ◌∷◌, ◌++◌, length, take, drop, refl, sym, ap, ◌∙◌, take-append-drop, length-append, arith}
use Rattle.std.proofs.lemmas.List.Sums.{sum_by-cons}
use Rattle.str_indices.specs.Text.{byte_len}
use Rattle.rope_search_reports.specs.Text.{line_count}
use Rattle.rope_search_reports.specs.Changes.{AreChanges}
use Rattle.rope_search_changes.specs.declared.Change.{Change}
use Rattle.rope_search_reports.specs.declared.patches.Patch.{Patch}
use Rattle.rope_search_reports.specs.Patches.{patched, growth_by, growth_of, made_by}
use Rattle.rope_search.specs.declared.parts.Part.{Part}
use Rattle.rope_search.specs.Places.{IsMarked, with_replaced}
use Rattle.rope_search.proofs.PartLaws.{byte_len-append, take_between}

pub change_of : (text inserted : List ℕ) (part : Part) (change : Change) → IsMarked text part → change.old_end ≡ part.end.byte_idx
    → change.new_start ≡ part.start.byte_idx → change.new_end ≡ part.start.byte_idx + byte_len inserted
    → AreChanges (change ∷ []) 0 0 text (with_replaced text part inserted) (line_count inserted)
change_of text inserted part change marked old_end new_start new_end =
    let before = take part.start.char_idx text in
    let here = take (part.end.char_idx - part.start.char_idx) (drop part.start.char_idx text) in
    let behind = drop part.end.char_idx text in
    let front : before ++ here ≡ take part.end.char_idx text = take_between text part.start.char_idx part.end.char_idx marked.ordered in
    let whole : before ++ here ++ behind ≡ text = ap (λ l. l ++ behind) front ∙ take-append-drop part.end.char_idx text in
    let end : byte_len before + byte_len here ≡ part.end.byte_idx = sym (byte_len-append before here) ∙ ap byte_len front ∙ marked.ends in
    record {
      gap = before;
      removed = here;
      inserted = inserted;
      old_behind = behind;
      new_behind = behind;
      left = 0;
      old_is = sym whole;
      new_is = refl;
      old_end = omega (arith, old_end, end);
      new_start = omega (arith, new_start, marked.starts);
      new_end = omega (arith, new_end, marked.starts);
      counts = omega arith;
      further = (refl, refl);
    }

-- the rows of patches are rows of the patched list
pub made-within : (at : ℕ) (rows : List (List (ℕ × ℕ))) (patches : List Patch) → made_by patches ≤ length (patched at rows patches)
made-within at rows [] = omega arith
made-within at rows (p ∷ ps) =
    omega (
      arith,
      made-within p.end rows ps,
      sum_by-cons (λ (q : Patch). length q.made.items) p ps,
      length-append (take (p.first - at) (drop at rows) ++ p.made.items) (patched p.end rows ps),
      length-append (take (p.first - at) (drop at rows)) p.made.items,
    )

-- they make a report grow by at most the rows that they insert
pub growth-made : (patches : List Patch) → growth_by patches ≤ made_by patches
growth-made [] = omega arith
growth-made (p ∷ ps) =
    omega (arith, growth-made ps, sum_by-cons growth_of p ps, sum_by-cons (λ (q : Patch). length q.made.items) p ps)
