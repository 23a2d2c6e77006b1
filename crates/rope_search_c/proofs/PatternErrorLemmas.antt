-- The result in C for bytes that may be a pattern.
use Rattle.std.proofs.Common.{◌≡◌, ◌↔◌, ℕ, List, IsSome, ap, inl, inr, refl, sym, subst, ◌∙◌}
use Rattle.std.specs.Prelude.{Option, None, Some}
use Rattle.std.specs.Str.{IsCharBoundary}
use Rattle.rope_search_reports.specs.Explaining.{Refusal, IsRefusedAs, default_settings}
use Rattle.rope_search_io.specs.declared.faults.Fault.TheVariants.{Pattern}
use Rattle.rope_search.specs.declared.commands.CommandOf.TheVariants.{Pattern as SetPattern}
use Rattle.rope_search.specs.Session.{State, first_state}
use Rattle.rope_search.specs.Step.{Refuses}
use Rattle.rope_search_c.specs.PatternErrors.{AreNoPattern, TellsError, reason_number}
use Rattle.rope_search_c.specs.declared.pattern_errors.PatternReason.{PatternReason}

abbrev pub IsToldAlike : List ℕ → Option Refusal → Type 0
IsToldAlike bytes found = (limit : ℕ) (session : State) → IsSome found ↔ Refuses limit session (SetPattern bytes) Pattern

pub nothing-told : (bytes : List ℕ) (status : ℕ) (old new : PatternReason) → IsToldAlike bytes None → status ≡ 0 → new ≡ record { reason = 0; place = 0 }
    → TellsError bytes status old new
nothing-told bytes status old new alike done is =
    let others : AreNoPattern bytes → ⊥ = λ none. let some = (alike 0 first_state).1 (none 0 first_state) in cc some in
    inl (done, inr (record { others = others; named = ap (λ (r : PatternReason). r.reason) is; place = ap (λ (r : PatternReason). r.place) is }))

pub why-told : (bytes : List ℕ) (status number : ℕ) (old new : PatternReason) (refusal : Refusal) → IsToldAlike bytes (Some refusal)
    → IsRefusedAs refusal.reason bytes default_settings → IsCharBoundary bytes refusal.place → status ≡ 0 → number ≡ reason_number refusal.reason
    → new ≡ record { reason = number; place = refusal.place } → TellsError bytes status old new
why-told bytes status number old new refusal alike why place done named is =
    inl (
      done,
      inl (record {
        none = λ limit session. (alike limit session).0 refl;
        reason = refusal.reason;
        refused = why;
        named = ap (λ (r : PatternReason). r.reason) is ∙ named;
        place = subst (IsCharBoundary bytes) (sym (ap (λ (r : PatternReason). r.place) is)) place;
      }),
    )
