-- The number of rows that patches insert.
use Rattle.std.proofs.Common.{◌≡◌, ℕ, ◌+◌, ◌-◌, ◌^◌, ◌≤◌, min, List, [], ◌∷◌, ◌++◌, length, take, drop, inl, inr, ap, arith, length-append, length-drop}
use Rattle.std.proofs.lemmas.List.{length-take}
use Rattle.std.proofs.lemmas.List.Sums.{sum_by-append}
use Rattle.rope_search_reports.specs.Text.{line_count}
use Rattle.rope_search_reports.specs.Report.{line_texts, AreRows}
use Rattle.rope_search_reports.specs.Patches.{made_by}
use Rattle.rope_search_reports.specs.Drafts.{AddsRowsOf, IsPatchAdded}
use Rattle.rope_search_reports.specs.declared.changes.Splice.{Splice}
use Rattle.rope_search_reports.specs.Ticks.{Ticks, MakesAsMany}
use Rattle.rope_search_reports.specs.declared.patches.Patch.{Patch}
use Rattle.rope_search_reports.proofs.LineLemmas.{lines-counted}
use Rattle.rope_search_reports.proofs.ReportLaws.{AreRows-length}

-- the number of rows of some lines
rows-counted : (pattern text : List ℕ) (first end : ℕ) (rows : List (List (ℕ × ℕ))) → first ≤ end → end ≤ line_count text
    → AreRows pattern (take (end - first) (drop first (line_texts text))) rows → length rows ≡ end - first
rows-counted pattern text first end rows low high are =
    let lines = drop first (line_texts text) in
    omega (arith, AreRows-length pattern (take (end - first) lines) rows are, length-take (end - first) lines, length-drop first (line_texts text), lines-counted text, low, high)

-- one more patch
made-more : (patches patches' : List Patch) (patch : Patch) → patches' ≡ patches ++ patch ∷ [] → made_by patches' ≡ made_by patches + length patch.made.items
made-more patches patches' patch is =
    omega (arith, ap made_by is, sum_by-append (λ (p : Patch). length p.made.items) patches (patch ∷ []))

-- also if it is merged into the last one
made-added : (patches patches' : List Patch) (patch : Patch) → IsPatchAdded patches patch patches' → made_by patches' ≡ made_by patches + length patch.made.items
made-added patches patches' patch (inl is) = made-more patches patches' patch is
made-added patches patches' patch (inr g) =
    omega (arith, made-more g.others patches' g.joined g.new_is, made-more g.others patches g.last g.old_is, ap length g.rows, length-append g.last.made.items patch.made.items)

-- the rows of a splice
pub made-spliced : (pattern text : List ℕ) (splice : Splice) (patches patches' : List Patch) → splice.start ≤ splice.stop → splice.stop ≤ line_count text
    → AddsRowsOf pattern text splice patches patches' → made_by patches' ≡ made_by patches + (splice.stop - splice.start)
made-spliced pattern text splice patches patches' low high (inl none) = omega (arith, ap made_by none.0, none.1)
made-spliced pattern text splice patches patches' low high (inr adds) =
    omega (arith, made-added patches patches' adds.patch adds.added, rows-counted pattern text splice.start splice.stop adds.patch.made.items low high adds.rows)

-- equally many rows are counted
pub counted-made : (start old new : Ticks) (made more all count : ℕ) → min (start.count + made) (2 ^ 64 - 1) ≤ old.count → MakesAsMany more old new → all ≡ made + count → count ≡ more
    → min (start.count + all) (2 ^ 64 - 1) ≤ new.count
counted-made start old new made more all count so many sum same =
    let least = many.least in
    omega (arith, so, least, sum, same)
