-- The results for inputs that show the same bytes and request the same.
use Rattle.std.proofs.Common.{◌≡◌, ℕ, false, List, length, Option, option_map, sym, ap, ap₂, subst, ◌∙◌}
use Rattle.rx_util.specs.Search.{Found}
use Rattle.rx_input.specs.Inputs.{Asked, InputState}
use Rattle.rx_walks.specs.Machines.{Outcome}
use Rattle.rx_walks.specs.Programs.{Notes}
use Rattle.rx_steps.specs.Searching.{answer_slots}
use Rattle.rx_engine.specs.Engines.{Engine}
use Rattle.rx_chunk.specs.Engines.{EngineFinds, IsAnswer, IsFound, match_of}
use Rattle.rx_chunk.specs.Lists.{HasFinds}
use Rattle.regex_cursor.specs.AlikeLaws.{AnswersAlike, AskAlike}
use Rattle.regex_cursor.specs.Regexes.{TellsMatch, TellsSlots, search_by}

module _ (e : Engine) (has : HasFinds e) where
  module _ (i j : InputState) (alike : AskAlike i j) where
    -- they are one search
    same : search_by e j ≡ search_by e i
    same = ap₂ (λ (content : List ℕ) (asked : Asked). search_by e (record i { cursor = record i.cursor { content = content }; asked = asked })) (sym alike.content) (sym alike.asked)

    exact : j.asked.earliest ≡ false
    exact = sym (ap (λ (a : Asked). a.earliest) alike.asked) ∙ alike.exact

    one : (out out' : Option (Outcome Notes)) → EngineFinds e (search_by e i) out → EngineFinds e (search_by e j) out' → out ≡ out'
    one out out' finds finds' = has.one_find (search_by e i) out out' finds (subst (λ s. EngineFinds e s out') same finds')

    pub same_match : (found found' : Option Found) → TellsMatch e i found → TellsMatch e j found' → found ≡ found'
    same_match found found' told told' =
        let a : IsFound (EngineFinds e) (search_by e i) found = told.exact alike.exact in
        let b : IsFound (EngineFinds e) (search_by e j) found' = told'.exact exact in
        a.2 ∙ ap (option_map match_of) (one a.0 b.0 a.1 b.1) ∙ sym b.2

    module _ (pattern pattern' : Option ℕ) (slots slots' : List (Option ℕ)) (told : TellsSlots e i pattern slots) (told' : TellsSlots e j pattern' slots') where
      here : IsAnswer (EngineFinds e) (search_by e i) pattern slots
      here = told.exact alike.exact

      there : IsAnswer (EngineFinds e) (search_by e j) pattern' slots'
      there = told'.exact exact

      same_find : here.found ≡ there.found
      same_find = one here.found there.found here.finds there.finds

      pub same_pattern : pattern ≡ pattern'
      same_pattern = here.pattern_is ∙ ap (option_map (λ (t : Outcome Notes). t.pattern)) same_find ∙ sym there.pattern_is

      pub same_slots : length slots ≡ length slots' → slots ≡ slots'
      same_slots len = here.slots_are ∙ ap₂ (λ k out. answer_slots k out) len same_find ∙ sym there.slots_are

pub alike_answers : (e : Engine) → HasFinds e → AnswersAlike e
alike_answers e has = record {
  match = λ i j found found' alike told told'. same_match e has i j alike found found' told told';
  pattern = λ i j pattern pattern' slots slots' alike told told'. same_pattern e has i j alike pattern pattern' slots slots' told told';
  slots = λ i j pattern pattern' slots slots' alike told told' len. same_slots e has i j alike pattern pattern' slots slots' told told' len;
}
