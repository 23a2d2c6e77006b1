-- Finds of small programs in small haystacks, each by computation.
use Rattle.std.proofs.Common.{◌≡◌, ℕ, ◌≤◌, Bool, true, false, ◌==◌, List, [], ◌∷◌, Option, Some, None, refl, arith}
use Rattle.std.proofs.Math.Utf8.{encode}
use Rattle.std.specs.Str.{is_utf8, chars}
use Rattle.rx_walks.specs.Machines.{Machine, Outcome}
use Rattle.rx_walks.specs.Looks.{Look, start_line, word_boundary, no_word_boundary}
use Rattle.rx_walks.specs.Finds.{Search, Anchoring, unanchored, anchored, anchored_pattern}
use Rattle.rx_walks.specs.Matches.{first, one_more, last, at_once, moved}
use Rattle.rx_walks.specs.Programs.{Node, Program, Notes, match, pass, note, look, set, slot_of}
use Rattle.rx_walks.specs.ProgramFinds.{ProgramFinds, ProgramFindsAll, ProgramMatches, holds_in, machine_of}
use Rattle.rx_walks.specs.StepsAll as all
use Rattle.rx_walks.specs.StepsAll.{StepsAll, Met, met_first, met_other}
use Rattle.rx_walks.proofs.Evaluation.{computed, is_seen_false, begins_at_true, found_by_all}

-- a program of one pattern that starts at node 0; each of its sets has one character
abbrev program : List (Node Look ℕ) → Program Look ℕ
program nodes = record { nodes = nodes; start = 0; patterns = 0 ∷ []; line_terminator = 10 }

abbrev is_letter : ℕ → ℕ → Bool
is_letter x c = x == c

-- `x` is the only word character
abbrev is_x : ℕ → Bool
is_x c = c == 120

abbrev from_in : List ℕ → ℕ → Search
from_in content start = record { content = content; slice_start = 0; slice_end = 100; start = start; end = 100; anchoring = unanchored; utf8_empty = true }

abbrev Found : List (Node Look ℕ) → List ℕ → ℕ → Option (Outcome Notes) → Type 0
Found nodes content start out = ProgramFinds is_letter is_x (program nodes) (from_in content start) out

-- a match with its notes, and one without notes
abbrev noting : ℕ → ℕ → List (ℕ × ℕ) → Option (Outcome Notes)
noting start end noted = Some (record { pattern = 0; end = end; notes = record { start = start; noted = noted } })

abbrev at : ℕ → ℕ → Option (Outcome Notes)
at start end = noting start end []

abbrev match_at : ℕ → ℕ → Outcome Notes
match_at start end = record { pattern = 0; end = end; notes = record { start = start; noted = [] } }

-- `x*` in a character of three bytes: empty matches before and after it, none inside it
abbrev x_star : List (Node Look ℕ)
x_star = pass (1 ∷ 2 ∷ []) ∷ set 120 0 ∷ match 0 ∷ []

abbrev se : List ℕ
se = 0xE3 ∷ 0x81 ∷ 0x9B ∷ []

x_star_from_0 : Found x_star se 0 (at 0 0)
unfolding is_utf8 chars encode
x_star_from_0 = computed is_letter is_x (program x_star) (from_in se 0) 0 (at 0 0) refl refl

x_star_from_1 : Found x_star se 1 (at 3 3)
unfolding is_utf8 chars encode
x_star_from_1 = computed is_letter is_x (program x_star) (from_in se 1) 0 (at 3 3) refl refl

x_star_from_3 : Found x_star se 3 (at 3 3)
unfolding is_utf8 chars encode
x_star_from_3 = computed is_letter is_x (program x_star) (from_in se 3) 0 (at 3 3) refl refl

x_star_from_4 : Found x_star se 4 None
unfolding is_utf8 chars encode
x_star_from_4 = computed is_letter is_x (program x_star) (from_in se 4) 0 None refl refl

x_star_matches : ProgramMatches is_letter is_x (program x_star) (from_in se 0) (match_at 0 0 ∷ match_at 3 3 ∷ [])
x_star_matches = first x_star_from_0 (one_more (moved x_star_from_0 refl refl x_star_from_1) (last (moved x_star_from_3 refl refl x_star_from_4)))

-- `(?m)(?:^|a)+` in `a\naaa\n`: an empty match at the start of a line is preferred, and is skipped
-- where the last one ends
abbrev starts_or_as : List (Node Look ℕ)
starts_or_as = pass (1 ∷ 2 ∷ []) ∷ look start_line 3 ∷ set 97 3 ∷ pass (0 ∷ 4 ∷ []) ∷ match 0 ∷ []

abbrev lines : List ℕ
lines = 97 ∷ 10 ∷ 97 ∷ 97 ∷ 97 ∷ 10 ∷ []

starts_or_as_from_0 : Found starts_or_as lines 0 (at 0 0)
unfolding is_utf8 chars encode
starts_or_as_from_0 = computed is_letter is_x (program starts_or_as) (from_in lines 0) 0 (at 0 0) refl refl

starts_or_as_from_1 : Found starts_or_as lines 1 (at 2 2)
unfolding is_utf8 chars encode
starts_or_as_from_1 = computed is_letter is_x (program starts_or_as) (from_in lines 1) 0 (at 2 2) refl refl

starts_or_as_from_2 : Found starts_or_as lines 2 (at 2 2)
unfolding is_utf8 chars encode
starts_or_as_from_2 = computed is_letter is_x (program starts_or_as) (from_in lines 2) 0 (at 2 2) refl refl

starts_or_as_from_3 : Found starts_or_as lines 3 (at 3 5)
unfolding is_utf8 chars encode
starts_or_as_from_3 = computed is_letter is_x (program starts_or_as) (from_in lines 3) 0 (at 3 5) refl refl

starts_or_as_from_5 : Found starts_or_as lines 5 (at 6 6)
unfolding is_utf8 chars encode
starts_or_as_from_5 = computed is_letter is_x (program starts_or_as) (from_in lines 5) 0 (at 6 6) refl refl

starts_or_as_from_6 : Found starts_or_as lines 6 (at 6 6)
unfolding is_utf8 chars encode
starts_or_as_from_6 = computed is_letter is_x (program starts_or_as) (from_in lines 6) 0 (at 6 6) refl refl

starts_or_as_from_7 : Found starts_or_as lines 7 None
unfolding is_utf8 chars encode
starts_or_as_from_7 = computed is_letter is_x (program starts_or_as) (from_in lines 7) 0 None refl refl

starts_or_as_matches : ProgramMatches is_letter is_x (program starts_or_as) (from_in lines 0) (match_at 0 0 ∷ match_at 2 2 ∷ match_at 3 5 ∷ match_at 6 6 ∷ [])
starts_or_as_matches = first starts_or_as_from_0 (
    one_more (moved starts_or_as_from_0 refl refl starts_or_as_from_1) (
    one_more (moved starts_or_as_from_2 refl refl starts_or_as_from_3) (
    one_more (at_once starts_or_as_from_5 (λ start end. omega (arith, start))) (
    last (moved starts_or_as_from_6 refl refl starts_or_as_from_7)))))

-- `(?:a*)*` in `aax`: the inner loop takes what it can, and the outer one returns to no node at the
-- same offset
abbrev a_star_star : List (Node Look ℕ)
a_star_star = pass (1 ∷ 4 ∷ []) ∷ pass (2 ∷ 3 ∷ []) ∷ set 97 1 ∷ pass (1 ∷ 4 ∷ []) ∷ match 0 ∷ []

abbrev aax : List ℕ
aax = 97 ∷ 97 ∷ 120 ∷ []

a_star_star_from_0 : Found a_star_star aax 0 (at 0 2)
unfolding is_utf8 chars encode
a_star_star_from_0 = computed is_letter is_x (program a_star_star) (from_in aax 0) 0 (at 0 2) refl refl

a_star_star_from_2 : Found a_star_star aax 2 (at 2 2)
unfolding is_utf8 chars encode
a_star_star_from_2 = computed is_letter is_x (program a_star_star) (from_in aax 2) 0 (at 2 2) refl refl

a_star_star_from_3 : Found a_star_star aax 3 (at 3 3)
unfolding is_utf8 chars encode
a_star_star_from_3 = computed is_letter is_x (program a_star_star) (from_in aax 3) 0 (at 3 3) refl refl

a_star_star_from_4 : Found a_star_star aax 4 None
unfolding is_utf8 chars encode
a_star_star_from_4 = computed is_letter is_x (program a_star_star) (from_in aax 4) 0 None refl refl

a_star_star_matches : ProgramMatches is_letter is_x (program a_star_star) (from_in aax 0) (match_at 0 2 ∷ match_at 3 3 ∷ [])
a_star_star_matches = first a_star_star_from_0 (one_more (moved a_star_star_from_2 refl refl a_star_star_from_3) (last (moved a_star_star_from_3 refl refl a_star_star_from_4)))

-- `(a|)+` in `aa`: the group was last entered at 1 and left at 2; an empty turn at 2 would return
-- to a node there
abbrev a_or_nothing : List (Node Look ℕ)
a_or_nothing = note 2 1 ∷ pass (2 ∷ 3 ∷ []) ∷ set 97 4 ∷ pass (4 ∷ []) ∷ note 3 5 ∷ pass (0 ∷ 6 ∷ []) ∷ match 0 ∷ []

abbrev turns : List (ℕ × ℕ)
turns = (3, 2) ∷ (2, 1) ∷ (3, 1) ∷ (2, 0) ∷ []

a_or_nothing_found : Found a_or_nothing (97 ∷ 97 ∷ []) 0 (noting 0 2 turns)
unfolding is_utf8 chars encode
a_or_nothing_found = computed is_letter is_x (program a_or_nothing) (from_in (97 ∷ 97 ∷ []) 0) 0 (noting 0 2 turns) refl refl

group_start : slot_of (record { start = 0; noted = turns }) 2 ≡ Some 1
group_start = refl

group_end : slot_of (record { start = 0; noted = turns }) 3 ≡ Some 2
group_end = refl

group_absent : slot_of (record { start = 0; noted = turns }) 4 ≡ None
group_absent = refl

-- `\bx*\b` in `x`
abbrev word_of_x : List (Node Look ℕ)
word_of_x = look word_boundary 1 ∷ pass (2 ∷ 3 ∷ []) ∷ set 120 1 ∷ look word_boundary 4 ∷ match 0 ∷ []

word_of_x_from_0 : Found word_of_x (120 ∷ []) 0 (at 0 1)
unfolding is_utf8 chars encode
word_of_x_from_0 = computed is_letter is_x (program word_of_x) (from_in (120 ∷ []) 0) 0 (at 0 1) refl refl

-- inside a code point neither `\b` nor `\B` holds
no_boundary_inside : holds_in is_x 10 (from_in se 0) word_boundary 1 ≡ false
unfolding is_utf8 chars encode
no_boundary_inside = refl

no_other_inside : holds_in is_x 10 (from_in se 0) no_word_boundary 1 ≡ false
unfolding is_utf8 chars encode
no_other_inside = refl

-- before and after it `\B` holds
other_before : holds_in is_x 10 (from_in se 0) no_word_boundary 0 ≡ true
unfolding is_utf8 chars encode
other_before = refl

other_after : holds_in is_x 10 (from_in se 0) no_word_boundary 3 ≡ true
unfolding is_utf8 chars encode
other_after = refl

-- anchored, `a` is found at the span's start only
abbrev a_once : List (Node Look ℕ)
a_once = set 97 1 ∷ match 0 ∷ []

abbrev ba : List ℕ
ba = 98 ∷ 97 ∷ []

abbrev anchored_from : Anchoring → List ℕ → ℕ → Search
anchored_from anchoring content start = record (from_in content start) { anchoring = anchoring }

a_anywhere : Found a_once ba 0 (at 1 2)
unfolding is_utf8 chars encode
a_anywhere = computed is_letter is_x (program a_once) (from_in ba 0) 0 (at 1 2) refl refl

a_not_at_once : ProgramFinds is_letter is_x (program a_once) (anchored_from anchored ba 0) None
unfolding is_utf8 chars encode
a_not_at_once = computed is_letter is_x (program a_once) (anchored_from anchored ba 0) 0 None refl refl

a_at_once : ProgramFinds is_letter is_x (program a_once) (anchored_from anchored ba 1) (at 1 2)
unfolding is_utf8 chars encode
a_at_once = computed is_letter is_x (program a_once) (anchored_from anchored ba 1) 0 (at 1 2) refl refl

-- `b` and `ba` as two patterns: the first is preferred, unless the search is anchored to the
-- second; of a third nothing is found
abbrev b_and_ba : Program Look ℕ
b_and_ba = record {
  nodes = pass (1 ∷ 3 ∷ []) ∷ set 98 2 ∷ match 0 ∷ set 98 4 ∷ set 97 5 ∷ match 1 ∷ [];
  start = 0;
  patterns = 1 ∷ 3 ∷ [];
  line_terminator = 10;
}

first_preferred : ProgramFinds is_letter is_x b_and_ba (anchored_from anchored ba 0) (at 0 1)
unfolding is_utf8 chars encode
first_preferred = computed is_letter is_x b_and_ba (anchored_from anchored ba 0) 0 (at 0 1) refl refl

second_asked_for : ProgramFinds is_letter is_x b_and_ba (anchored_from (anchored_pattern 1) ba 0) (Some (record { pattern = 1; end = 2; notes = record { start = 0; noted = [] } }))
unfolding is_utf8 chars encode
second_asked_for = computed is_letter is_x b_and_ba (anchored_from (anchored_pattern 1) ba 0) 3 (Some (record { pattern = 1; end = 2; notes = record { start = 0; noted = [] } })) refl refl

second_not_further_on : ProgramFinds is_letter is_x b_and_ba (anchored_from (anchored_pattern 1) (98 ∷ ba) 0) None
unfolding is_utf8 chars encode
second_not_further_on = computed is_letter is_x b_and_ba (anchored_from (anchored_pattern 1) (98 ∷ ba) 0) 3 None refl refl

no_third : ProgramFinds is_letter is_x b_and_ba (anchored_from (anchored_pattern 2) ba 0) None
no_third = refl

-- `\bx*\b` from 1 in `xx`: assertions see the text before the span, but not the text before the
-- slice
abbrev xx : List ℕ
xx = 120 ∷ 120 ∷ []

word_in_span : Found word_of_x xx 1 (at 2 2)
unfolding is_utf8 chars encode
word_in_span = computed is_letter is_x (program word_of_x) (from_in xx 1) 0 (at 2 2) refl refl

word_in_slice : ProgramFinds is_letter is_x (program word_of_x) (record (from_in xx 1) { slice_start = 1 }) (at 1 2)
unfolding is_utf8 chars encode
word_in_slice = computed is_letter is_x (program word_of_x) (record (from_in xx 1) { slice_start = 1 }) 0 (at 1 2) refl refl

-- nor the text after the slice
word_up_to_slice : ProgramFinds is_letter is_x (program word_of_x) (record (from_in xx 0) { slice_end = 1 }) (at 0 1)
unfolding is_utf8 chars encode
word_up_to_slice = computed is_letter is_x (program word_of_x) (record (from_in xx 0) { slice_end = 1 }) 0 (at 0 1) refl refl

-- without `utf8_empty`, `x*` has an empty match inside a character
x_star_inside : ProgramFinds is_letter is_x (program x_star) (record (from_in se 1) { utf8_empty = false }) (at 1 1)
unfolding is_utf8 chars encode
x_star_inside = computed is_letter is_x (program x_star) (record (from_in se 1) { utf8_empty = false }) 0 (at 1 1) refl refl

-- `b`, `ab??` and `ab` as three patterns in `ab`: the preferred walk ends at 1
abbrev three : Program Look ℕ
three = record {
  nodes = pass (1 ∷ 3 ∷ 7 ∷ []) ∷ set 98 2 ∷ match 0 ∷ set 97 4 ∷ pass (6 ∷ 5 ∷ []) ∷ set 98 6 ∷ match 1 ∷ set 97 8 ∷ set 98 9 ∷ match 2 ∷ [];
  start = 0;
  patterns = 1 ∷ 3 ∷ 7 ∷ [];
  line_terminator = 10;
}

abbrev ab : Search
ab = from_in (97 ∷ 98 ∷ []) 0

preferred_of_three : ProgramFinds is_letter is_x three ab (Some (record { pattern = 1; end = 1; notes = record { start = 0; noted = [] } }))
unfolding is_utf8 chars encode
preferred_of_three = computed is_letter is_x three ab 0 (Some (record { pattern = 1; end = 1; notes = record { start = 0; noted = [] } })) refl refl

-- among all matches: the greatest end is 2; the least start with it is 0, though `b` is the first
-- pattern; the least pattern with both is `ab??`
abbrev of_three : Machine ℕ Notes
of_three = machine_of is_letter is_x three ab

three_at_0 : StepsAll of_three 0 [] ((0, 0) ∷ []) ((0, 4) ∷ (0, 8) ∷ []) []
unfolding is_utf8 chars encode
three_at_0 =
    all.opened (1 ∷ 3 ∷ 7 ∷ []) (is_seen_false [] 0 refl) refl (
    all.opened [] (is_seen_false (0 ∷ []) 1 refl) refl (
    all.read 4 (is_seen_false (1 ∷ 0 ∷ []) 3 refl) refl (
    all.read 8 (is_seen_false (3 ∷ 1 ∷ 0 ∷ []) 7 refl) refl all.done)))

three_at_1 : StepsAll of_three 1 [] ((0, 4) ∷ (0, 8) ∷ (1, 0) ∷ []) ((0, 6) ∷ (0, 9) ∷ (1, 2) ∷ []) ((0, 1) ∷ [])
unfolding is_utf8 chars encode
three_at_1 =
    all.opened (6 ∷ 5 ∷ []) (is_seen_false [] 4 refl) refl (
    all.met (is_seen_false (4 ∷ []) 6 refl) refl (
    all.read 6 (is_seen_false (6 ∷ 4 ∷ []) 5 refl) refl (
    all.read 9 (is_seen_false (5 ∷ 6 ∷ 4 ∷ []) 8 refl) refl (
    all.opened (1 ∷ 3 ∷ 7 ∷ []) (is_seen_false (8 ∷ 5 ∷ 6 ∷ 4 ∷ []) 0 refl) refl (
    all.read 2 (is_seen_false (0 ∷ 8 ∷ 5 ∷ 6 ∷ 4 ∷ []) 1 refl) refl (
    all.opened [] (is_seen_false (1 ∷ 0 ∷ 8 ∷ 5 ∷ 6 ∷ 4 ∷ []) 3 refl) refl (
    all.opened [] (is_seen_false (3 ∷ 1 ∷ 0 ∷ 8 ∷ 5 ∷ 6 ∷ 4 ∷ []) 7 refl) refl all.done)))))))

three_at_2 : StepsAll of_three 2 [] ((0, 6) ∷ (0, 9) ∷ (1, 2) ∷ (2, 0) ∷ []) [] ((0, 1) ∷ (0, 2) ∷ (1, 0) ∷ [])
unfolding is_utf8 chars encode
three_at_2 =
    all.met (is_seen_false [] 6 refl) refl (
    all.met (is_seen_false (6 ∷ []) 9 refl) refl (
    all.met (is_seen_false (9 ∷ 6 ∷ []) 2 refl) refl (
    all.opened (1 ∷ 3 ∷ 7 ∷ []) (is_seen_false (2 ∷ 9 ∷ 6 ∷ []) 0 refl) refl (
    all.opened [] (is_seen_false (0 ∷ 2 ∷ 9 ∷ 6 ∷ []) 1 refl) refl (
    all.opened [] (is_seen_false (1 ∷ 0 ∷ 2 ∷ 9 ∷ 6 ∷ []) 3 refl) refl (
    all.opened [] (is_seen_false (3 ∷ 1 ∷ 0 ∷ 2 ∷ 9 ∷ 6 ∷ []) 7 refl) refl all.done))))))

none_of_three : (s p : ℕ) → Met s p [] → ⊥
none_of_three s p met = elim met [ ]

met_at_1 : (s p : ℕ) → Met s p ((0, 1) ∷ []) → (0 ≤ s) × (s ≡ 0 → 1 ≤ p)
met_at_1 s p (met_first e e') = (omega arith, λ same. omega (arith, e'))
met_at_1 s p (met_other met) = absurd (none_of_three s p met)

met_at_2 : (s p : ℕ) → Met s p ((0, 1) ∷ (0, 2) ∷ (1, 0) ∷ []) → (0 ≤ s) × (s ≡ 0 → 1 ≤ p)
met_at_2 s p (met_first e e') = (omega arith, λ same. omega (arith, e'))
met_at_2 s p (met_other (met_first e e')) = (omega arith, λ same. omega (arith, e'))
met_at_2 s p (met_other (met_other (met_first e e'))) = (omega arith, λ same. omega (arith, e, same))
met_at_2 s p (met_other (met_other (met_other met))) = absurd (none_of_three s p met)

greatest_of_three : ProgramFindsAll is_letter is_x three ab (Some (record { start = 0; pattern = 1; end = 2 }))
unfolding is_utf8 chars encode
greatest_of_three = found_by_all is_letter is_x three ab 0 (Some (record { start = 0; pattern = 1; end = 2 })) refl (
    all.started (begins_at_true ab 0 refl) three_at_0 (all.none_met none_of_three) (
    all.started (begins_at_true ab 1 refl) three_at_1 (all.some_met (met_first refl refl) met_at_1) (
    all.started (begins_at_true ab 2 refl) three_at_2 (all.some_met (met_first refl refl) met_at_2) (
    all.over (λ j from begins. omega (arith, from, begins.0.0.4))))))
