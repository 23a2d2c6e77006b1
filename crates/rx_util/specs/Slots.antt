-- How a layout of slots is stored.
use Rattle.std.specs.Prelude.{◌≡◌, ℕ, ◌^◌, ◌<◌, List, length, Some, slice_get}
use Rattle.rx_util.specs.Groups.{GroupNames, HasDistinctNames, slot_len, slot_place}

-- by pattern, the first slot of its group 1, or where that would be; and the number of slots
pub record IsLaidOut (groups : GroupNames) (starts : List ℕ) (len : ℕ) : Type 0 where
  pub one_each : length starts ≡ length groups
  pub starts_are : (p : ℕ) → p < length groups → slice_get starts p ≡ Some (slot_place groups p 1)
  pub len_is : len ≡ slot_len groups
  pub fits : slot_len groups < 2 ^ 64
  pub distinct : HasDistinctNames groups
