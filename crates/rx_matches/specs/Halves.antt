-- Matches from their halves: the end, and the start.
use Rattle.std.specs.Prelude.{◌≡◌, ℕ, ◌⊎◌, IsTrue}
use Rattle.rx_util.specs.declared.search.Anchored.TheVariants.{Yes}
use Rattle.rx_util.specs.Search.{Found, HalfFound}
use Rattle.rx_input.specs.Cursors.{IsSameContent}
use Rattle.rx_input.specs.Inputs.{InputState}
use Rattle.rx_walks.specs.Finds.{Search, is_anchored}

-- a match of a search that ends here starts at the span's start: matches start only there, or it is
-- empty and there
abbrev pub StartsAtSpan : Search → ℕ → Type 0
StartsAtSpan s end = IsTrue (is_anchored s.anchoring) ⊎ (s.start ≡ end)

-- the match with this half and this start
abbrev pub whole_of : HalfFound → ℕ → Found
whole_of half start =
    record { pattern = half.pattern; span = record { start = start; end = half.offset } }

-- an input over the same haystack, set to the backward search from the end of a match
pub record IsTurnedBack (old new : InputState) (end : ℕ) : Type 0 where
  pub same : IsSameContent old.cursor new.cursor
  pub asked : new.asked
      ≡ record old.asked { span = record old.asked.span { end = end }; anchored = Yes }
