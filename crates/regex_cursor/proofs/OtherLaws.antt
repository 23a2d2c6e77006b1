-- At most two slots of a match that isn't of the first pattern: they are empty.
use Rattle.std.proofs.Common.{◌≡◌, ℕ, zero, suc, ◌+◌, ◌<◌, ◌≤◌, ◌⊎◌, Bool, cond, [], ◌∷◌, length, Option, Some, None, option_map, refl, sym, ap, ap₂, ◌∙◌, arith, inl, inr}
use Rattle.std.proofs.lemmas.Bool.{lt-ltb}
use Rattle.std.proofs.lemmas.List.{length-replicate}
use Rattle.std.proofs.lemmas.Option.{same_Some}
use Rattle.rx_util.specs.Captured.{place_in}
use Rattle.rx_util.specs.Groups.{GroupNames, first_slot}
use Rattle.rx_util.specs.Search.{Found, HalfFound}
use Rattle.rx_walks.specs.Machines.{Outcome}
use Rattle.rx_walks.specs.Programs.{Notes}
use Rattle.rx_walks.specs.Finds.{Search}
use Rattle.rx_steps.specs.Searching.{answer_slots}
use Rattle.rx_steps.specs.Threads.{Slots, no_slots}
use Rattle.rx_dfa.specs.Searching.{IsHalfAnswer}
use Rattle.rx_engine.specs.Engines.{Engine, IsEngine}
use Rattle.rx_chunk.specs.Engines.{EngineFinds, Finds, IsAnswer, IsFound, TellsSlots, match_of}
use Rattle.rx_chunk.proofs.FoundLaws.{notes_places}
use Rattle.rx_chunk.proofs.OtherLaws.{others_hold_none}
use Rattle.regex_cursor.proofs.BackLaws.{up_to}
use Rattle.regex_cursor.proofs.StrategyLaws.{IsFirst, by_engine, slots_length}

first_there : (groups : GroupNames) → 0 < length groups → first_slot groups 0 0 ≡ Some 0
first_there [] some = absurd (omega (arith, some))
first_there (names ∷ groups) some = ap (λ b. cond b (Some 0) None) (lt-ltb 0 (length names + 1) (omega arith))

module _ (e : Engine) (of_trees : IsEngine e) (s : Search) (t : Outcome Notes) (finds : EngineFinds e s (Some t)) (other : t.pattern ≡ 0 → ⊥) where
  own_answer : (n : ℕ) → IsAnswer (EngineFinds e) s (Some t.pattern) (answer_slots n (Some t))
  own_answer n = record { found = Some t; finds = finds; pattern_is = refl; slots_are = ap (λ k. answer_slots k (Some t)) (sym (slots_length 0 n t.notes)) }

  first_group : first_slot e.groups 0 0 ≡ Some 0
  first_group = let known : t.pattern < length e.groups = (notes_places e of_trees s t finds).1 in first_there e.groups (omega (arith, known))

  none_at : (n slot : ℕ) → (slot ≡ 0) ⊎ (slot ≡ 1) → place_in (answer_slots n (Some t)) slot ≡ None
  none_at n slot low =
      others_hold_none e s t.pattern (answer_slots n (Some t)) of_trees (own_answer n) 0 slot (λ is. other (sym is))
      (record { group = 0; first = 0; is_first = first_group; one_of_two = low })

  none_noted : (n : ℕ) → n ≤ 2 → answer_slots n (Some t) ≡ no_slots n
  none_noted zero few = refl
  none_noted (suc zero) few = ap (λ a. a ∷ []) (none_at 1 0 (inl refl))
  none_noted (suc (suc zero)) few = ap₂ (λ a b. a ∷ b ∷ []) (none_at 2 0 (inl refl)) (none_at 2 1 (inr refl))
  none_noted (suc (suc (suc n))) few = absurd (omega (arith, few))

  pub others_told : (earliest : Bool) (k n : ℕ) (slots : Slots) → t.pattern ≡ k → n ≤ 2 → slots ≡ no_slots n → TellsSlots earliest (EngineFinds e) s (Some k) slots
  others_told earliest k n slots pattern few none =
      let len : length slots ≡ n = ap length none ∙ length-replicate n None in
      record {
        whether = (Some t, finds, (λ told. told, λ told. told));
        exact = λ any. record {
          found = Some t;
          finds = finds;
          pattern_is = ap Some (sym pattern);
          slots_are = none ∙ sym (none_noted n few) ∙ ap (λ j. answer_slots j (Some t)) (sym len);
        };
        none = λ nothing_there. absurd (cc nothing_there);
      }

-- also of one whose end is known
pub half_elsewhere : (e : Engine) → IsFirst e → IsEngine e → (s : Search) (half : HalfFound) (earliest : Bool) (n : ℕ) (slots : Slots) → IsHalfAnswer e.program s (Some half) → (half.pattern ≡ 0 → ⊥) → n ≤ 2 → slots ≡ no_slots n
    → TellsSlots earliest (EngineFinds e) s (Some half.pattern) slots
half_elsewhere e first of_trees s half earliest n slots answer other few none =
    let up = up_to e.program s half answer in
    let finds : EngineFinds e s (Some up.found) = by_engine e first (λ finding. finding s (Some up.found)) up.finds in
    others_told e of_trees s up.found finds (λ is. other (sym up.pattern_is ∙ is)) earliest half.pattern n slots up.pattern_is few none

-- and of one that is known whole
pub found_elsewhere : (e : Engine) → IsFirst e → IsEngine e → (s : Search) (found : Found) (earliest : Bool) (n : ℕ) (slots : Slots) → IsFound (Finds e.program) s (Some found) → (found.pattern ≡ 0 → ⊥) → n ≤ 2 → slots ≡ no_slots n
    → TellsSlots earliest (EngineFinds e) s (Some found.pattern) slots
found_elsewhere e first of_trees s found earliest n slots is other few none = by is.0 is.1 is.2
  where
    by : (out : Option (Outcome Notes)) → Finds e.program s out → Some found ≡ option_map match_of out → TellsSlots earliest (EngineFinds e) s (Some found.pattern) slots
    by None finds told = absurd (cc told)
    by (Some t) finds told =
        let pattern : t.pattern ≡ found.pattern = sym (ap (λ (f : Found). f.pattern) (same_Some found (match_of t) told)) in
        let there : EngineFinds e s (Some t) = by_engine e first (λ finding. finding s (Some t)) finds in
        others_told e of_trees s t there (λ zero_is. other (sym pattern ∙ zero_is)) earliest found.pattern n slots pattern few none
