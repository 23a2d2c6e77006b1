-- Sibling nodes in contracts.
use Rattle.std.specs.Prelude.{◌≡◌, ℕ, ◌+◌, ◌*◌, ◌^◌, ◌<◌, ◌≤◌, ◌⊎◌, max, min, List, [], ◌∷◌, ◌++◌, length, All}
use Rattle.std.specs.List.{flat_map}
use Rattle.ropey_tree.specs.declared.counts.Counts.{Counts}
use Rattle.ropey_tree.specs.declared.counts.By.{By}
use Rattle.ropey_tree.specs.Counts.{total, amount}
use Rattle.ropey_tree.specs.Cutting.{IsRopeText}
use Rattle.ropey_tree.specs.NodeView.{NodeView}

-- the counts of a node's text
abbrev pub count_of : NodeView → Counts
count_of v = total v.pieces

-- the leaf texts of nodes in a row
abbrev pub all_pieces : List NodeView → List (List ℕ)
all_pieces vs = flat_map (λ v. v.pieces) vs

-- a node of that height, with at least `least` children, and as many leaf texts as 12 children of
-- each node below them give
pub record IsNodeOf (height least : ℕ) (v : NodeView) : Type 0 where
  pub level : v.height ≡ height
  pub full : least ≤ v.degree
  pub many : v.degree * 12 ^ v.height ≤ 12 * length v.pieces

abbrev pub AreNodes : ℕ → ℕ → List NodeView → Type 0
AreNodes height least vs = All (IsNodeOf height least) vs

-- the views of a leaf and of a node with children
abbrev pub leaf_view : List ℕ → NodeView
leaf_view leaf = record { pieces = leaf ∷ []; height = 0; degree = 12 }

abbrev pub inner_view : ℕ → List NodeView → NodeView
inner_view height children = record { pieces = all_pieces children; height = height; degree = length children }

-- at least two children, each with twelve or more, one level below, and their leaf texts are those
-- of a rope
pub record IsInner (height : ℕ) (children : List NodeView) : Type 0 where
  pub below : ℕ
  pub level : height ≡ below + 1
  pub branches : 2 ≤ length children
  pub nodes : AreNodes below 12 children
  pub text : IsRopeText (all_pieces children)

-- a whole tree: at least two children, and its leaf texts are those of a rope
pub record IsTree (v : NodeView) : Type 0 where
  pub text : IsRopeText v.pieces
  pub branches : 2 ≤ v.degree
  pub many : v.degree * 12 ^ v.height ≤ 12 * length v.pieces

-- The part of a row of leaf texts that contains position i of a measure, and the counts before it:
-- i is below its end, unless it is the last part, and not below its start
pub record LiesIn (whole part : List (List ℕ)) (by : By) (i : ℕ) (before : Counts) : Type 0 where
  pub left : List (List ℕ)
  pub right : List (List ℕ)
  pub parts : whole ≡ left ++ part ++ right
  pub stands_before : before ≡ total left
  pub not_past : amount by before ≤ i
  pub passed : (i < amount by (total (left ++ part))) ⊎ (right ≡ [])

-- a part of a row of leaf texts, and the counts before it
pub record StandsIn (whole part : List (List ℕ)) (before : Counts) : Type 0 where
  pub left : List (List ℕ)
  pub right : List (List ℕ)
  pub parts : whole ≡ left ++ part ++ right
  pub stands_before : before ≡ total left

-- The result of joining two nodes, in a row: one node, or two that are full. They are as high as
-- the higher one, and have no fewer children than it, or 12.
pub record AreJoined (left right : NodeView) (joined : List NodeView) : Type 0 where
  pub pieces : all_pieces joined ≡ left.pieces ++ right.pieces
  pub least : ℕ
  pub nodes : AreNodes (max left.height right.height) least joined
  pub full : (length joined ≡ 1) ⊎ (12 ≤ least)
  pub no_less_than_left : right.height ≤ left.height → min 12 left.degree ≤ least
  pub no_less_than_right : left.height ≤ right.height → min 12 right.degree ≤ least
