-- A text before and after an offset in it.
use Rattle.std.specs.Prelude.{◌≡◌, ℕ, List, [], ◌++◌, Option, Some, None}
use Rattle.std.specs.List.{concat}
use Rattle.std.specs.declared.rc.Rc.{Rc}
use Rattle.std.specs.declared.alloc.Global.{Global}
use Rattle.ropey_tree.specs.declared.node.Node.{Node}
use Rattle.ropey_tree.specs.Counts.{total}
use Rattle.ropey_tree.specs.Cutting.{IsRopeText}

-- the leaf texts of a tree, or none
abbrev pub pieces_in : Option (Rc Node Global) → List (List ℕ)
pieces_in None = []
pieces_in (Some node) = node.value.pieces

-- The texts before and after a byte index. What may precede the whole text may precede the first
-- part, and what may follow the whole may follow the second.
pub record IsSplit (pieces : List (List ℕ)) (at : ℕ) (left right : List (List ℕ)) : Type 0 where
  pub text : concat left ++ concat right ≡ concat pieces
  pub place : (total left).bytes ≡ at
  pub after : (before : List (List ℕ)) → IsRopeText (before ++ pieces) → IsRopeText (before ++ left)
  pub before : (after : List (List ℕ)) → IsRopeText (pieces ++ after) → IsRopeText (right ++ after)

-- the text before a byte index, and the one after it, each as a part of a split whose other part
-- need not be built
pub record IsFrontOf (pieces : List (List ℕ)) (at : ℕ) (front : List (List ℕ)) : Type 0 where
  pub rest : List (List ℕ)
  pub split : IsSplit pieces at front rest

pub record IsBackOf (pieces : List (List ℕ)) (at : ℕ) (back : List (List ℕ)) : Type 0 where
  pub front : List (List ℕ)
  pub split : IsSplit pieces at front back
