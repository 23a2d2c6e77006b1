-- The text over the seam of two texts.
use Rattle.std.specs.Prelude.{◌≡◌, ℕ, false, List, ◌++◌}
use Rattle.std.specs.List.{concat}
use Rattle.str_indices.specs.Text.{byte_len}
use Rattle.ropey_tree.specs.Cutting.{cuts_cr_lf}

-- a text between a byte index of the left one and one of the right one; no CR LF spans its start
pub record StandsBetween (left : List (List ℕ)) (at : ℕ) (middle : List ℕ) (right : List (List ℕ)) (from : ℕ) : Type 0 where
  pub front : List ℕ
  pub last : List ℕ
  pub first : List ℕ
  pub back : List ℕ
  pub left_is : concat left ≡ front ++ last
  pub right_is : concat right ≡ first ++ back
  pub middle_is : middle ≡ last ++ first
  pub place : byte_len front ≡ at
  pub place_right : byte_len first ≡ from
  pub whole_left : cuts_cr_lf front middle ≡ false
