-- The settings of a PikeVM.
use Rattle.std.specs.Prelude.{ℕ, List, Option, None, unwrap_or}
use Rattle.rx_engine.specs.Engines.{EngineSettings, nothing_set}

-- settings that were set; the others have their defaults
pub record PikeSettings : Type 0 where
  -- those of the engine
  pub engine : EngineSettings
  -- the literals of a prefilter, or none; a PikeVM uses none
  pub prefilter : Option (Option (List (List ℕ)))

abbrev pub none_set : PikeSettings
none_set = record { engine = nothing_set; prefilter = None }

-- the literals of the caller's prefilter
abbrev pub prefilter_of : PikeSettings → Option (List (List ℕ))
prefilter_of settings = unwrap_or settings.prefilter None
