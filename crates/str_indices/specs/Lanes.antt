-- The lanes of a chunk of bytes, which are numbers from 0 to 255.
use Rattle.std.specs.Prelude.{◌≡◌, ◌≤◌, ◌<◌, ℕ, zero, suc, ◌/◌, ◌%◌, Bool, ◌&&◌, if◌then◌else◌, List, [], ◌∷◌, length, slice_index, nat_le}

-- there are `count` lanes, and lane k is f k
pub record HasLanes (count : ℕ) (lanes : List ℕ) (f : ℕ → ℕ) : Type 0 where
  pub long : length lanes ≡ count
  pub each : (k : ℕ) → k < count → slice_index lanes k ≡ f k

-- lane k is 1 if the test of k passes, else 0
abbrev pub MarksLanes : ℕ → List ℕ → (ℕ → Bool) → Type 0
MarksLanes count lanes test = HasLanes count lanes (λ k. if test k then 1 else 0)

-- a lane is from `low` to `high`, inclusive
abbrev pub is_between : ℕ → ℕ → ℕ → Bool
is_between low high lane = nat_le low lane && nat_le lane high

-- no lane is above a limit
abbrev pub LanesUpTo : ℕ → List ℕ → Type 0
LanesUpTo limit lanes = (k : ℕ) → slice_index lanes k ≤ limit

-- the lowest `count` bytes of a number, lowest first
abbrev pub low_bytes : ℕ → ℕ → List ℕ
low_bytes zero n = []
low_bytes (suc count) n = (n % 256) ∷ low_bytes count (n / 256)
