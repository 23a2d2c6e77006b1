-- A next match that an anchored search finds is the next match of the search that isn't anchored.
use Rattle.std.proofs.Common.{◌≡◌, ℕ, ◌+◌, List, Option, Some, None, option_map, IfSome, refl, sym, ap, ◌∙◌}
use Rattle.rx_walks.specs.Finds.{Search, from_place_on, unanchored}
use Rattle.rx_walks.specs.Iterating.{at_once, nothing, passed}
use Rattle.rx_walks.specs.Machines.{Outcome}
use Rattle.rx_walks.specs.Programs.{Notes}
use Rattle.rx_program.specs.Programs.{ByteProgram}
use Rattle.rx_chunk.specs.Engines.{Engine, EngineFinds, Finds}
use Rattle.rx_chunk.specs.Iterating.{ComesNext, IsNextAnswer}
use Rattle.rx_input.specs.Inputs.{Asked}
use Rattle.rx_util.specs.declared.search.Anchored.TheVariants.{No, Yes}
use Rattle.rx_util.specs.declared.search.Span.{Span}
use Rattle.regex_cursor.proofs.AheadLaws.{anchored_at, found_here}
use Rattle.regex_cursor.proofs.StrategyLaws.{IsFirst, by_engine}

comes_here : (p : ByteProgram) (s : Search) → s.anchoring ≡ unanchored → (last : Option ℕ) (out : Option (Outcome Notes)) (u : Outcome Notes) → out ≡ Some u
    → ComesNext (Finds p) (anchored_at s s.start) last out → ComesNext (Finds p) s last out
comes_here p s free last out u is (at_once {t = t} finds not) = at_once (found_here p s free t finds) not
comes_here p s free last out u is (passed {t = t} finds empty further) =
    passed (found_here p s free t finds) empty (behind out is further)
  where
    S : Search
    S = from_place_on s (s.start + 1)

    behind : (out : Option (Outcome Notes)) → out ≡ Some u → Finds p (anchored_at S S.start) out → Finds p S out
    behind None is finds = absurd (cc is)
    behind (Some v) is finds = found_here p S free v finds
comes_here p s free last out u is (nothing finds) = absurd (cc is)

module _ (e : Engine) (first : IsFirst e) (s : Search) (free : s.anchoring ≡ unanchored) (last : Option ℕ) where
  comes_by : (out : Option (Outcome Notes)) (u : Outcome Notes) → out ≡ Some u → ComesNext (EngineFinds e) (anchored_at s s.start) last out → ComesNext (EngineFinds e) s last out
  comes_by = by_engine e first
      (λ finding. (out : Option (Outcome Notes)) (u : Outcome Notes) → out ≡ Some u → ComesNext finding (anchored_at s s.start) last out → ComesNext finding s last out)
      (comes_here e.program s free last)

  pub next_here : (k : ℕ) (slots : List (Option ℕ)) → IsNextAnswer (EngineFinds e) (anchored_at s s.start) last (Some k) slots → IsNextAnswer (EngineFinds e) s last (Some k) slots
  next_here k slots answer = record { out = answer.out; comes = by answer.out answer.pattern_is answer.comes; pattern_is = answer.pattern_is; slots_are = answer.slots_are }
    where
      by : (out : Option (Outcome Notes)) → Some k ≡ option_map (λ t. t.pattern) out → ComesNext (EngineFinds e) (anchored_at s s.start) last out → ComesNext (EngineFinds e) s last out
      by None is comes = absurd (cc is)
      by (Some u) is comes = comes_by (Some u) u refl comes

  -- the same, for whether there is one
  pub some_next : (found : Option ℕ) (slots : List (Option ℕ)) → IsNextAnswer (EngineFinds e) (anchored_at s s.start) last found slots
      → IfSome found (λ k. IsNextAnswer (EngineFinds e) s last (Some k) slots)
  some_next None slots answer = tt
  some_next (Some k) slots answer = next_here k slots answer

-- the request is as it was before the anchored search
pub asked_as_before : (a b : Asked) (span : Span) (start : ℕ) → a.anchored ≡ No → span ≡ a.span → b ≡ record a { anchored = Yes; span = record a.span { start = start } }
    → record b { anchored = No; span = span } ≡ a
asked_as_before a b span start free whole is =
    ap (λ (x : Asked). record x { anchored = No; span = span }) is ∙ ap (λ x. record a { anchored = No; span = x }) whole ∙ ap (λ x. record a { anchored = x }) (sym free)
