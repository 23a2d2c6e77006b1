-- Searches of equal haystacks.
use Rattle.std.specs.Prelude.{◌≡◌, ℕ, false, List, length, Option}
use Rattle.rx_util.specs.Search.{Found}
use Rattle.rx_input.specs.Inputs.{InputState}
use Rattle.rx_engine.specs.Engines.{Engine}
use Rattle.regex_cursor.specs.Regexes.{TellsMatch, TellsSlots}

-- two inputs show the same bytes, in whatever chunks, and request the same, and not any match
pub record AskAlike (i j : InputState) : Type 0 where
  pub content : i.cursor.content ≡ j.cursor.content
  pub asked : i.asked ≡ j.asked
  pub exact : i.asked.earliest ≡ false

-- then the results for both are the same: the match, and the pattern with its offsets in equally
-- many slots
pub record AnswersAlike (e : Engine) : Type 0 where
  pub match : (i j : InputState) (found found' : Option Found) → AskAlike i j
      → TellsMatch e i found → TellsMatch e j found' → found ≡ found'
  pub pattern : (i j : InputState) (pattern pattern' : Option ℕ) (slots slots' : List (Option ℕ))
      → AskAlike i j → TellsSlots e i pattern slots → TellsSlots e j pattern' slots'
      → pattern ≡ pattern'
  pub slots : (i j : InputState) (pattern pattern' : Option ℕ) (slots slots' : List (Option ℕ))
      → AskAlike i j → TellsSlots e i pattern slots → TellsSlots e j pattern' slots'
      → length slots ≡ length slots' → slots ≡ slots'
