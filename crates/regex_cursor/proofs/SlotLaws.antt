-- Two slots that are written, whatever they held.
use Rattle.std.proofs.Common.{◌≡◌, ℕ, [], ◌∷◌, length, Option, Some, None, set, refl, sym, ap, ap₂, ◌∙◌, arith}
use Rattle.std.proofs.lemmas.List.{length-replicate}
use Rattle.rx_util.specs.declared.search.Span.{Span}
use Rattle.rx_steps.specs.Threads.{Slots, no_slots}
use Rattle.rx_steps.specs.Searching.{answer_slots}
use Rattle.rx_literals.specs.Literals.{literal_match}
use Rattle.regex_cursor.proofs.StrategyLaws.{two_slots}

set_both : (slots : Slots) (a b : Option ℕ) → length slots ≡ 2 → set (set slots 0 a) 1 b ≡ a ∷ b ∷ []
set_both [] a b two = absurd (omega (arith, two))
set_both (x ∷ []) a b two = absurd (omega (arith, two))
set_both (x ∷ y ∷ []) a b two = refl
set_both (x ∷ y ∷ z ∷ xs) a b two = absurd (omega (arith, two))

pub both_slots : (span : Span) (slots : Slots) (a b : Option ℕ) → length slots ≡ 2 → a ≡ Some span.start → b ≡ Some span.end
    → set (set slots 0 a) 1 b ≡ answer_slots (length slots) (Some (literal_match span))
both_slots span slots a b two start end =
    set_both slots a b two ∙ ap₂ (λ x y. x ∷ y ∷ []) start end
    ∙ two_slots 2 span (None ∷ None ∷ []) (Some span.start) (Some span.end) refl (omega arith) refl refl
    ∙ sym (ap (λ k. answer_slots k (Some (literal_match span))) two)

pub none_both : (slots : Slots) → length slots ≡ 2 → set (set slots 0 None) 1 None ≡ no_slots (length slots)
none_both slots two = set_both slots None None two ∙ sym (ap no_slots two)

pub none_after : (slots : Slots) → length slots ≡ 2 → set (set slots 0 None) 1 None ≡ no_slots (length (set (set slots 0 None) 1 None))
none_after slots two =
    let all = none_both slots two in
    all ∙ ap no_slots (sym (ap length all ∙ length-replicate (length slots) None))
