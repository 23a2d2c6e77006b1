-- The result of the search loop is what the program finds among all matches.
use Rattle.std.proofs.Common.{inl, inr, ◌≡◌, ℕ, ◌<◌, ◌≤◌, Bool, true, false, List, Option, Some, None, option_map, refl, sym, subst, arith}
use Rattle.unicode.specs.Perl.{is_word_char}
use Rattle.rx_sets.specs.Sets.{Range}
use Rattle.rx_util.specs.Search.{Found}
use Rattle.rx_utf8.specs.Automata.{is_in}
use Rattle.rx_walks.specs.Machines.{Outcome}
use Rattle.rx_walks.specs.Looks as walks
use Rattle.rx_walks.specs.Programs.{Program, Notes, fresh_notes}
use Rattle.rx_walks.specs.Finds.{Search, up_to_place, IsInside, IsFindAll}
use Rattle.rx_walks.specs.ProgramFinds.{machine_of, start_node, lowest, IfStarts, ProgramFinds}
use Rattle.rx_walks.specs.Bytes.{Automaton}
use Rattle.rx_walks.specs.Laws.{FindsAllAtMostOne, FindsExist, ProgramIsSearchedForAll}
use Rattle.rx_walks.specs.MatchesAll.{FindsAgree}
use Rattle.rx_walks.specs.StepsAll.{over}
use Rattle.rx_program.specs.Programs.{ByteProgram, IsByteProgram, character_program, automata_of}
use Rattle.rx_steps.specs.Searching.{IsFirstEnd}
use Rattle.rx_steps.specs.SearchingAll.{pattern_match, IsAnswerAll, IsAnswerAllAt}
use Rattle.rx_steps.specs.Coming.{course_of}
use Rattle.rx_steps.specs.ComingAll.{HasMetNoneAll, IsOverAll, IsOverAllAt}
use Rattle.rx_steps.proofs.ByteLaws.{below_or_not}

-- laws of rx_walks, in the form of its functions' contracts: the loop finds what the program does,
-- and if it finds something, so does the leftmost-first search
abbrev pub SearchedLaw : Type 0
SearchedLaw = (member : List Range → ℕ → Bool) (is_word : ℕ → Bool) (c : Program walks.Look (List Range)) (step : ℕ → Automaton) → ProgramIsSearchedForAll member is_word c step

pub record FoundLaws : Type 0 where
  pub agree : (member : List Range → ℕ → Bool) (is_word : ℕ → Bool) (c : Program walks.Look (List Range)) → FindsAgree member is_word c
  pub exist : (member : List Range → ℕ → Bool) (is_word : ℕ → Bool) (c : Program walks.Look (List Range)) → FindsExist member is_word c
  pub one : (member : List Range → ℕ → Bool) (is_word : ℕ → Bool) (c : Program walks.Look (List Range)) → FindsAllAtMostOne member is_word c

-- an unknown pattern has no start state, and nothing is found
pub none_known_all : (p : ByteProgram) (s : Search) → start_node (character_program p) s.anchoring ≡ None → IsAnswerAll p s None
none_known_all p s starts = subst (λ x. IfStarts x (IsFindAll (machine_of is_in is_word_char (character_program p) s) fresh_notes s) None) (sym starts) refl

-- no result, whether any match may be reported or not
pub none_at_all : (earliest : Bool) (p : ByteProgram) (s : Search) (end : ℕ) → IsAnswerAll p s None → IsAnswerAllAt earliest p s end None
none_at_all false p s end answer = answer
none_at_all true p s end answer = answer

module _ (p : ByteProgram) (s : Search) (q : ℕ) (reads : IsByteProgram p) (law : SearchedLaw) (starts : start_node (character_program p) s.anchoring ≡ Some q) where
  over_answers : (best : Option Found) → IsOverAll (course_of p s q) best → IsAnswerAll p s best
  over_answers best way = law is_in is_word_char (character_program p) (automata_of p) reads s q (option_map pattern_match best) starts way

  part_answers : (i : ℕ) (best : Option Found) → IsOverAll (course_of p (up_to_place s i) q) best → IsAnswerAll p (up_to_place s i) best
  part_answers i best way = law is_in is_word_char (character_program p) (automata_of p) reads (up_to_place s i) q (option_map pattern_match best) starts way

  -- if no offset is inside span, slice and haystack, nothing is found
  pub none_inside_all : ((j : ℕ) → IsInside s j → ⊥) → IsAnswerAll p s None
  none_inside_all never = over_answers None (over (λ j from begins. never j begins.0.0))

  none_inside_part : (i : ℕ) → ((j : ℕ) → IsInside (up_to_place s i) j → ⊥) → IsAnswerAll p (up_to_place s i) None
  none_inside_part i never = part_answers i None (over (λ j from begins. never j begins.0.0))

  nothing_before : FoundLaws → (first i : ℕ) → first ≡ lowest s → HasMetNoneAll (course_of p s q) first i → (j : ℕ) → j < i → ProgramFinds is_in is_word_char (character_program p) (up_to_place s j) None
  nothing_before laws first i is before j to = (laws.agree is_in is_word_char (character_program p) (up_to_place s j)).1 (elim (below_or_not j first) [
    | inl outside ↦ none_inside_part j (λ k inside. omega (arith, is, outside, inside.0, inside.2, inside.3))
    | inr from ↦ part_answers j None (before j from to)
  ])

  -- if there is a match among all, there is one leftmost-first
  something_found : FoundLaws → (t : Search) (found : Found) → IsAnswerAll p t (Some found) → (out : Option (Outcome Notes)) → ProgramFinds is_in is_word_char (character_program p) t out
      → (u : Outcome Notes) × ProgramFinds is_in is_word_char (character_program p) t (Some u)
  something_found laws t found answer (Some u) finds = (u, finds)
  something_found laws t found answer None finds =
      absurd (cc (laws.one is_in is_word_char (character_program p) t (Some (pattern_match found)) None answer ((laws.agree is_in is_word_char (character_program p) t).0 finds)))

  first_end : FoundLaws → (first i : ℕ) (found : Found) → first ≡ lowest s → i ≤ s.end → IsAnswerAll p (up_to_place s i) (Some found) → HasMetNoneAll (course_of p s q) first i → IsFirstEnd p s i
  first_end laws first i found is le answer before =
      let there = laws.exist is_in is_word_char (character_program p) (up_to_place s i) in
      let some = something_found laws (up_to_place s i) found answer there.0 there.1 in
      record { in_span = le; found = some.0; finds = some.1; none_before = nothing_before laws first i is before }

  -- the result of a search that stops at an offset
  pub over_at_answers_all : FoundLaws → (earliest : Bool) (first i : ℕ) (best : Option Found) → first ≡ lowest s → IsOverAllAt earliest (course_of p s q) first i best → IsAnswerAllAt earliest p s i best
  over_at_answers_all laws false first i best is way = over_answers best way
  over_at_answers_all laws true first i None is way = over_answers None way
  over_at_answers_all laws true first i (Some found) is (here, le, way, before) =
      let answer = part_answers i (Some found) way in
      (here, first_end laws first i found is (omega (arith, le)) answer before, answer)
