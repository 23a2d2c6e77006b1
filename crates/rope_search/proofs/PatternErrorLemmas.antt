-- The result for bytes that may be a pattern.
use Rattle.std.proofs.Common.{◌≡◌, ◌↔◌, ◌≤◌, ◌<◌, ℕ, List, length, IsSome, refl, ap, subst, arith}
use Rattle.std.specs.Prelude.{Option, None, Some}
use Rattle.rope_search_reports.specs.Explaining.{Refusal, SpellsSome, Settings, default_settings}
use Rattle.rope_search_io.specs.declared.faults.Fault.TheVariants.{Pattern}
use Rattle.rope_search_reports.specs.Pattern.{pattern_limit}
use Rattle.rope_search.specs.Order.{SetPattern}
use Rattle.rope_search.specs.Session.{State}
use Rattle.rope_search.specs.Step.{Refuses}

-- a refusal is returned exactly if a session refuses the bytes because they are no pattern
abbrev pub IsToldAlike : List ℕ → Option Refusal → Type 0
IsToldAlike bytes found = (limit : ℕ) (session : State) → IsSome found ↔ Refuses limit session (SetPattern bytes) Pattern

-- few enough bytes to be checked, and the result for their text
pub refused_alike : (text bytes : List ℕ) (settings : Settings) (found : Option Refusal) → text ≡ bytes → settings ≡ default_settings → length text ≤ pattern_limit
    → ((found ≡ None) ↔ SpellsSome text settings) → IsToldAlike bytes found
refused_alike text bytes settings found is same short either =
    subst (λ bs. IsToldAlike bs found) is (by found (subst (λ s. (found ≡ None) ↔ SpellsSome text s) same either))
  where
    by : (found : Option Refusal) → ((found ≡ None) ↔ SpellsSome text default_settings) → IsToldAlike text found
    by None e limit session = (λ some. absurd (cc some), λ none. let spells = e.0 refl in absurd (none.1 spells.0 spells.1))
    by (Some refusal) e limit session = (λ some. (short, λ tree spells. let none : Some refusal ≡ None = e.1 (tree, spells) in cc), λ none. refl)

-- too many are refused for another reason
pub long_alike : (text bytes : List ℕ) → text ≡ bytes → pattern_limit < length text → IsToldAlike bytes None
long_alike text bytes is long limit session = (λ some. absurd (cc some), λ none. absurd (omega (arith, long, ap length is, none.0)))
