-- The results of searches with an engine.
use Rattle.std.proofs.Common.{◌≡◌, ℕ, Bool, ◌++◌, length, take, drop, Result, Ok, Err, IfOk, OnOk, Option, Some, None, is_some, option_map, refl, sym, ap, ◌∙◌}
use Rattle.std.proofs.Math.Seq.{take-append_seam}
use Rattle.std.proofs.lemmas.Option.{none-some}
use Rattle.rx_util.specs.Captured.{Captured}
use Rattle.rx_util.specs.Lending.{with_slots}
use Rattle.rx_walks.specs.Machines.{Outcome}
use Rattle.rx_walks.specs.Programs.{Notes}
use Rattle.rx_walks.specs.Finds.{Search}
use Rattle.rx_walks.specs.Iterating.{Finding}
use Rattle.rx_steps.specs.Threads.{Slots, no_slots}
use Rattle.rx_steps.specs.Searching.{answer_slots}
use Rattle.rx_chunk.specs.Engines.{match_of, IsAnswer, TellsWhether, IsFound}

pub if_ok : {A E : Type 0} {P Q : A → Type 0} (r : Result A E) → ((x : A) → P x → Q x) → IfOk r P → IfOk r Q
if_ok (Ok x) f h = f x h
if_ok (Err e) f h = h

pub if_both : {A E : Type 0} {P Q : A → Type 0} {B : Type 0} (r : Result A E) → ((x : A) → P x → B → Q x) → IfOk r P → OnOk r B → IfOk r Q
if_both (Ok x) f h b = f x h b
if_both (Err e) f h b = h

pub on_ok : {A E : Type 0} {P Q : Type 0} (r : Result A E) → (P → Q) → OnOk r P → OnOk r Q
on_ok (Ok x) f h = f h
on_ok (Err e) f h = h

-- ---- what is found

abbrev pub pattern_in : Option (Outcome Notes) → Option ℕ
pattern_in out = option_map (λ t. t.pattern) out

some_pattern : (out : Option (Outcome Notes)) → is_some (pattern_in out) ≡ is_some out
some_pattern None = refl
some_pattern (Some t) = refl

pub tells_whether : {finding : Finding} {s : Search} {pattern : Option ℕ} {slots : Slots} (is_there : Bool) → is_there ≡ is_some pattern → IsAnswer finding s pattern slots → TellsWhether finding s is_there
tells_whether is_there is answer =
    let same : is_there ≡ is_some answer.found = is ∙ ap is_some answer.pattern_is ∙ some_pattern answer.found in
    (answer.found, answer.finds, (λ e. sym same ∙ e, λ e. same ∙ e))

none_out : (out : Option (Outcome Notes)) → pattern_in out ≡ None → out ≡ None
none_out None is = refl
none_out (Some t) is = absurd (none-some t.pattern (sym is))

pub none_found : {finding : Finding} {s : Search} {pattern : Option ℕ} {slots : Slots} → IsAnswer finding s pattern slots → pattern ≡ None → IsFound finding s None
none_found answer is =
    let none : answer.found ≡ None = none_out answer.found (sym answer.pattern_is ∙ is) in
    (answer.found, answer.finds, sym (ap (option_map match_of) none))

-- if nothing is found, all slots are empty
pub none_slots : (finding : Finding) (s : Search) (pattern : Option ℕ) (slots : Slots) → IsAnswer finding s pattern slots → pattern ≡ None → slots ≡ no_slots (length slots)
none_slots finding s pattern slots answer is =
    answer.slots_are ∙ ap (λ o. answer_slots (length slots) o) (none_out answer.found (sym answer.pattern_is ∙ is))

-- ---- slots that were lent

-- if all slots were borrowed, their new values are those after the borrow
pub lent_slots : (caps : Captured) (slots : Slots) → length slots ≡ length caps.slots → (with_slots caps slots).slots ≡ slots
lent_slots caps slots len =
    ap (λ n. take n (slots ++ drop (length slots) caps.slots)) (sym len) ∙ take-append_seam slots (drop (length slots) caps.slots)
