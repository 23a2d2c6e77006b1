-- What every search requires, a cache of its program, and the work that is counted.
use Rattle.std.specs.Prelude.{◌≡◌, ℕ, ◌+◌, ◌-◌, Bool, false, List}
use Rattle.rx_walks.specs.Looks as walks
use Rattle.rx_walks.specs.Finds.{Search}
use Rattle.rx_walks.specs.ProgramFinds.{lowest, highest}
use Rattle.rx_program.specs.Programs.{ByteProgram}
use Rattle.rx_steps.specs.Nodes.{widths_of}
use Rattle.rx_steps.specs.Lists.{Asks}
use Rattle.rx_steps.specs.Idle.{AreIdle}

-- a cache: the number of nodes of each state of its program, whether that program has assertions,
-- the bytes at which its threads are known to lead nowhere, and the number of nodes that searches
-- followed
pub record CacheView : Type 0 where
  pub widths : List ℕ
  pub asks_looks : Bool
  pub idle : List Bool
  pub followed : ℕ

-- they are those of this program: without the flag it has no assertion, and no match begins at the
-- known bytes
pub record AreOfProgram (p : ByteProgram) (widths : List ℕ) (asks_looks : Bool) (idle : List Bool)
    : Type 0 where
  pub widths_are : widths ≡ widths_of p
  pub looks : asks_looks ≡ false → (l : walks.Look) → Asks p.states l → ⊥
  pub are_idle : AreIdle p idle

-- a cache for searches with a program
abbrev pub IsCacheOf : ByteProgram → CacheView → Type 0
IsCacheOf p cache = AreOfProgram p cache.widths cache.asks_looks cache.idle

-- the number of offsets that threads can reach in a search
abbrev pub place_count : Search → ℕ
place_count s = highest s + 1 - lowest s
