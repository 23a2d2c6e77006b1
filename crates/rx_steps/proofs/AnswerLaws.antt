-- The result of the search loop is what the program finds, with its slots.
use Rattle.std.proofs.Common.{◌≡◌, ℕ, ◌≤◌, Bool, List, [], length, replicate, Option, Some, None, option_map, refl, sym, ap, subst, ◌∙◌}
use Rattle.std.proofs.lemmas.List.{length-replicate}
use Rattle.unicode.specs.Perl.{is_word_char}
use Rattle.rx_sets.specs.Sets.{Range}
use Rattle.rx_utf8.specs.Automata.{is_in}
use Rattle.rx_walks.specs.Machines.{Outcome}
use Rattle.rx_walks.specs.Looks as walks
use Rattle.rx_walks.specs.Programs.{Program, Notes, fresh_notes}
use Rattle.rx_walks.specs.Finds.{Search, IsInside, IsFind}
use Rattle.rx_walks.specs.ProgramFinds.{machine_of, start_node, IfStarts, ProgramFinds}
use Rattle.rx_walks.specs.Bytes.{Automaton}
use Rattle.rx_walks.specs.Steps.{Searches, over}
use Rattle.rx_walks.specs.Likenesses.{noted_by, Keeping}
use Rattle.rx_walks.specs.Laws.{MayBegin, ProgramIsSearchedKeeping}
use Rattle.rx_program.specs.Programs.{ByteProgram, IsByteProgram, character_program, automata_of}
use Rattle.rx_steps.specs.Threads.{Slots, note_slot}
use Rattle.rx_steps.specs.Lists.{slot_machine, met_at}
use Rattle.rx_steps.specs.Searching.{haystack_in, slots_from, answer_slots, IsAnswer}
use Rattle.rx_steps.proofs.SlotLaws.{slots_keep, slots_from_len, slots_of_noted, empty_slots}

-- the law of rx_walks on searches that keep slots, in the form of the contract of
-- `program_is_searched_keeping`
abbrev pub KeepingLaw : Type 0
KeepingLaw = (keeping : Keeping Slots) (member : List Range → ℕ → Bool) (is_word : ℕ → Bool) (c : Program walks.Look (List Range)) (step : ℕ → Automaton)
    → ProgramIsSearchedKeeping keeping member is_word c step

-- the pattern of a search's outcome, and its slots, which are empty if there is none
abbrev pub pattern_met : Option (Outcome Slots) → Option ℕ
pattern_met out = option_map (λ t. t.pattern) out

abbrev pub slots_met : ℕ → Option (Outcome Slots) → Slots
slots_met len None = replicate len None
slots_met len (Some t) = t.notes

-- the slots of a walk, whatever its start
abbrev kept_from : ℕ → Notes → Slots
kept_from len n = slots_from 0 len (record { start = 0; noted = n.noted })

abbrev keeping_slots : ℕ → Keeping Slots
keeping_slots len = record { put = note_slot; kept = kept_from len; alike = λ slot i n. slots_keep len slot i (record { start = 0; noted = n.noted }) }

answer_len : (len : ℕ) (found : Option (Outcome Notes)) → length (answer_slots len found) ≡ len
answer_len len None = length-replicate len None
answer_len len (Some t) = slots_from_len 0 len t.notes

met_slots : (len : ℕ) (found : Option (Outcome Notes)) → slots_met len (option_map (noted_by (kept_from len)) found) ≡ answer_slots len found
met_slots len None = refl
met_slots len (Some t) = slots_of_noted 0 len 0 t.notes

met_pattern : (len : ℕ) (found : Option (Outcome Notes)) → pattern_met (option_map (noted_by (kept_from len)) found) ≡ option_map (λ t. t.pattern) found
met_pattern len None = refl
met_pattern len (Some t) = refl

-- the result, from what the program finds
answer_by : (p : ByteProgram) (s : Search) (len : ℕ) (found : Option (Outcome Notes)) → ProgramFinds is_in is_word_char (character_program p) s found
    → IsAnswer p s (option_map (λ t. t.pattern) found) (answer_slots len found)
answer_by p s len found finds = record { found = found; finds = finds; pattern_is = refl; slots_are = ap (λ n. answer_slots n found) (sym (answer_len len found)) }

-- the result of the search loop, from the start state
pub is_answer : (p : ByteProgram) (s : Search) (q len : ℕ) (out : Option (Outcome Slots)) → IsByteProgram p → KeepingLaw → start_node (character_program p) s.anchoring ≡ Some q
    → Searches (slot_machine p (haystack_in p.line_terminator s)) (MayBegin s) (λ j. slots_from 0 len (fresh_notes 0)) (q, 0) s.start [] None out
    → IsAnswer p s (pattern_met out) (slots_met len out)
is_answer p s q len out reads law starts searches =
    let on = law (keeping_slots len) is_in is_word_char (character_program p) (automata_of p) reads s q out starts searches in
    let answer = answer_by p s len on.0 on.2 in
    let pattern : option_map (λ t. t.pattern) on.0 ≡ pattern_met out = sym (met_pattern len on.0) ∙ ap pattern_met on.1 in
    let slots : answer_slots len on.0 ≡ slots_met len out = sym (met_slots len on.0) ∙ ap (slots_met len) on.1 in
    subst (λ k. IsAnswer p s k (slots_met len out)) pattern (subst (λ xs. IsAnswer p s (option_map (λ t. t.pattern) on.0) xs) slots answer)

-- the same for a pattern and slots, which are empty if no match end was met
pub over_is_answer : (p : ByteProgram) (s : Search) (q end : ℕ) (pattern : Option ℕ) (slots : Slots) → IsByteProgram p → KeepingLaw → start_node (character_program p) s.anchoring ≡ Some q
    → Searches (slot_machine p (haystack_in p.line_terminator s)) (MayBegin s) (λ j. replicate (length slots) None) (q, 0) s.start [] None (met_at end pattern slots)
    → (pattern ≡ None → slots ≡ replicate (length slots) None) → IsAnswer p s pattern slots
over_is_answer p s q end pattern slots reads law starts searches none_met =
    subst (λ k. IsAnswer p s k slots) (pattern_at pattern) (subst (λ xs. IsAnswer p s (pattern_met (met_at end pattern slots)) xs) (slots_at pattern none_met) answer)
  where
    len : ℕ
    len = length slots

    answer : IsAnswer p s (pattern_met (met_at end pattern slots)) (slots_met len (met_at end pattern slots))
    answer = is_answer p s q len (met_at end pattern slots) reads law starts
        (subst (λ xs. Searches (slot_machine p (haystack_in p.line_terminator s)) (MayBegin s) (λ j. xs) (q, 0) s.start [] None (met_at end pattern slots)) (sym (empty_slots 0 len)) searches)

    pattern_at : (o : Option ℕ) → pattern_met (met_at end o slots) ≡ o
    pattern_at None = refl
    pattern_at (Some k) = refl

    slots_at : (o : Option ℕ) → (o ≡ None → slots ≡ replicate len None) → slots_met len (met_at end o slots) ≡ slots
    slots_at None none = sym (none refl)
    slots_at (Some k) none = refl

-- an unknown pattern has no start state, and nothing is found
pub none_known : (p : ByteProgram) (s : Search) (slots : Slots) → start_node (character_program p) s.anchoring ≡ None → slots ≡ replicate (length slots) None → IsAnswer p s None slots
none_known p s slots starts empty =
    let finds : ProgramFinds is_in is_word_char (character_program p) s None = subst (λ x. IfStarts x (λ q. IsFind (machine_of is_in is_word_char (character_program p) s) fresh_notes s q) None) (sym starts) refl in
    subst (λ xs. IsAnswer p s None xs) (sym empty) (answer_by p s (length slots) None finds)

-- if no match may begin, nothing is found
pub none_begins : (p : ByteProgram) (s : Search) (q : ℕ) (slots : Slots) → IsByteProgram p → KeepingLaw → start_node (character_program p) s.anchoring ≡ Some q → ((j : ℕ) → s.start ≤ j → MayBegin s j → ⊥)
    → slots ≡ replicate (length slots) None → IsAnswer p s None slots
none_begins p s q slots reads law starts never empty = over_is_answer p s q 0 None slots reads law starts (over (λ e j from begins. never j from begins)) (λ e. empty)

-- nor if no offset is inside span, slice and haystack
pub none_inside : (p : ByteProgram) (s : Search) (q : ℕ) (slots : Slots) → IsByteProgram p → KeepingLaw → start_node (character_program p) s.anchoring ≡ Some q → ((j : ℕ) → IsInside s j → ⊥)
    → slots ≡ replicate (length slots) None → IsAnswer p s None slots
none_inside p s q slots reads law starts never empty = none_begins p s q slots reads law starts (λ j from begins. never j begins.0.0) empty
