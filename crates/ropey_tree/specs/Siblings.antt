-- Nodes in a row, and what they are packed into.
use Rattle.std.specs.Prelude.{◌≡◌, ℕ, ◌+◌, ◌/◌, ◌<◌, ◌≤◌, ◌⊎◌, min, List, [], ◌∷◌, length}
use Rattle.ropey_tree.specs.declared.siblings.Joined.{Joined}
use Rattle.ropey_tree.specs.declared.siblings.Joined.TheVariants.{One, Two}
pub use Rattle.ropey_tree.specs.Children.{views}
use Rattle.ropey_tree.specs.Cutting.{IsRopeText}
use Rattle.ropey_tree.specs.NodeView.{NodeView}
use Rattle.ropey_tree.specs.Nodes.{count_of, all_pieces, AreNodes}

-- the views of one node or two
abbrev pub nodes_of : Joined → List NodeView
nodes_of (One node counts) = node.value ∷ []
nodes_of (Two first counts second more) = first.value ∷ second.value ∷ []

-- one node and its counts, or two nodes and theirs
abbrev pub AreJoinedCounted : Joined → Type 0
AreJoinedCounted (One node counts) = counts ≡ count_of node.value
AreJoinedCounted (Two first counts second more) = (counts ≡ count_of first.value) × (more ≡ count_of second.value)

-- a row that is built: its nodes so far, and the number of those under the first parent
pub record Row : Type 0 where
  pub nodes : List NodeView
  pub cut : ℕ

-- under the first parent are all of at most 24 nodes, or the first half of more
pub record IsRowCut (number cut : ℕ) : Type 0 where
  pub one : number ≤ 24 → cut ≡ number
  pub two : 24 < number → cut ≡ number / 2

-- the nodes under two parents: those under the first are at most `cut`, and all if there are others
pub record AreHalves (cut : ℕ) (first second : List NodeView) : Type 0 where
  pub few : cut ≤ 24
  pub room : length first ≤ cut
  pub order : (length first ≡ cut) ⊎ (second ≡ [])

-- nodes for one parent or two: 2 to 48, each full, and their leaf texts are those of a rope
pub record AreSiblings (height : ℕ) (siblings : List NodeView) : Type 0 where
  pub below : ℕ
  pub level : height ≡ below + 1
  pub branches : 2 ≤ length siblings
  pub few : length siblings ≤ 48
  pub nodes : AreNodes below 12 siblings
  pub text : IsRopeText (all_pieces siblings)

-- the parents of a row: one, or two that are full, with no fewer children than 12 or the row's
-- length
pub record Packed (height : ℕ) (siblings packed : List NodeView) : Type 0 where
  pub pieces : all_pieces packed ≡ all_pieces siblings
  pub nodes : AreNodes height (min 12 (length siblings)) packed
  pub full : (length packed ≡ 1) ⊎ (12 ≤ length siblings)

-- the nodes of one level over those below: one, or all of them full
pub record IsLevelOver (height : ℕ) (below above : List NodeView) : Type 0 where
  pub pieces : all_pieces above ≡ all_pieces below
  pub some : 1 ≤ length above
  pub fewer : length above < length below
  pub full : AreNodes height 12 above ⊎ (length above ≡ 1)
