-- Finders: why a pattern has none, and the result of a search.
use Rattle.std.proofs.Common.{◌≡◌, ℕ, zero, suc, ◌<◌, ◌≤◌, ◌⊎◌, inl, inr, List, Option, None, Some, length, refl, ap, ap₂, ◌∙◌, arith}
use Rattle.std.specs.Prelude.{option_map}
use Rattle.std.proofs.lemmas.List.{take_all}
use Rattle.ropey.specs.Chunks.{text_of}
use Rattle.ropey.specs.Slices.{clip}
use Rattle.regex_cursor.specs.Patterns.{Tree, SpellsTree, FoundMatch, TreeFinds, answer_slots}
use Rattle.regex_cursor.specs.PatternLaws.{HasNotedGroups}
use Rattle.rope_search_reports.specs.Matches.{both}
use Rattle.rope_search_reports.specs.Finders.{FinderTells, group_told}
use Rattle.rope_search_reports.specs.Pattern.{SpellsNone, FindsSpan, span_of}
use Rattle.rope_search_reports.proofs.PartLemmas.{clipped}

pub short-none : (text pattern : List ℕ) → length text ≤ 65536 → (65536 < length text) ⊎ SpellsNone pattern → (length text ≤ 65536) × SpellsNone pattern
short-none text pattern short (inl long) = absurd (omega (arith, short, long))
short-none text pattern short (inr none) = (short, none)

-- the result of a search is what the pattern finds
pub finds-told : (pattern content : List ℕ) (from : ℕ) (tree : Tree) (span : Option (ℕ × ℕ)) (slots : List (Option ℕ)) → SpellsTree pattern tree
    → FinderTells (TreeFinds tree content from) span slots → FindsSpan pattern content from span
finds-told pattern content from tree span slots spells told = record {
  found = told.out;
  is = record { tree = tree; spells = spells; finds = told.is };
  span_is = told.span_is;
}

-- the span of a match is in the slots of group 0
pub whole-told : (slots : List (Option ℕ)) (out : Option FoundMatch) → 2 ≤ length slots → slots ≡ answer_slots (length slots) out
    → ((t : FoundMatch) → out ≡ Some t → HasNotedGroups t) → group_told slots 0 ≡ option_map span_of out
whole-told slots out two are noted = by (length slots) two out are noted
  where
    by : (len : ℕ) → 2 ≤ len → (out : Option FoundMatch) → slots ≡ answer_slots len out → ((t : FoundMatch) → out ≡ Some t → HasNotedGroups t)
        → group_told slots 0 ≡ option_map span_of out
    by zero two out are noted = absurd (omega (arith, two))
    by (suc zero) two out are noted = absurd (omega (arith, two))
    by (suc (suc len)) two None are noted = ap (λ s. group_told s 0) are
    by (suc (suc len)) two (Some t) are noted =
        let has = (noted t refl).whole in
        ap (λ s. group_told s 0) are ∙ ap₂ both has.start has.end

-- a text as a slice of itself
pub whole-is : (pieces : List (List ℕ)) → text_of (clip 0 (length (text_of pieces)) pieces) ≡ text_of pieces
whole-is pieces = clipped 0 (length (text_of pieces)) pieces ∙ take_all (length (text_of pieces)) (text_of pieces) (omega arith)
