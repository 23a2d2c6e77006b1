-- Sets of states, in order of insertion.
use Rattle.std.specs.Prelude.{◌≡◌, ◌≢◌, ℕ, ◌<◌, ◌≤◌, List, length, All, AllPairs, Some, slice_get}

-- states below a capacity, in order of insertion
pub record StateSet : Type 0 where
  pub capacity : ℕ
  pub members : List ℕ

-- the members are below the capacity, and none is there twice
pub record IsSetBelow (capacity : ℕ) (members : List ℕ) : Type 0 where
  pub below : All (λ id. id < capacity) members
  pub apart : AllPairs (λ a b. a ≢ b) members

-- the first `len` of the dense list are members, and the sparse list has the index of each
pub record IsIndexed (dense sparse : List ℕ) (len : ℕ) : Type 0 where
  pub room : length sparse ≤ length dense
  pub filled : len ≤ length dense
  pub indexed : (i id : ℕ) → i < len → slice_get dense i ≡ Some id → slice_get sparse id ≡ Some i
