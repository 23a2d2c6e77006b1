-- Edits inside one leaf.
use Rattle.std.specs.Prelude.{◌≡◌, ℕ, ◌-◌, ◌<◌, ◌≤◌, ◌⊎◌, ◌+◌, ◌*◌, min, List, [], ◌∷◌, ◌++◌, length, All}
use Rattle.std.specs.List.{concat}
use Rattle.str_indices.specs.Text.{starts_with_lf, byte_len, ends_with_cr}
use Rattle.ropey_tree.specs.Counts.{total}
use Rattle.ropey_tree.specs.Cutting.{IsCutting}
use Rattle.ropey_tree.specs.NodeView.{NodeView}
use Rattle.ropey_tree.specs.Nodes.{AreNodes}

-- a text with another one in place of a range of bytes
pub record IsReplaced (old : List ℕ) (from to : ℕ) (text new : List ℕ) : Type 0 where
  pub front : List ℕ
  pub gone : List ℕ
  pub back : List ℕ
  pub old_is : old ≡ front ++ gone ++ back
  pub new_is : new ≡ front ++ text ++ back
  pub starts : byte_len front ≡ from
  pub ends : byte_len (front ++ gone) ≡ to

-- one leaf text, or two of at least 488 bytes with at least 984 together
abbrev pub AreOneOrTwo : List (List ℕ) → Type 0
AreOneOrTwo leaves = (length leaves ≡ 1)
    ⊎ ((length leaves ≡ 2) × (984 ≤ byte_len (concat leaves)) × All (λ p. 488 ≤ byte_len p) leaves)

-- one leaf text or two that may replace one: they start with LF and end with CR exactly if it does
pub record MayStandFor (old : List ℕ) (leaves : List (List ℕ)) : Type 0 where
  pub cut : IsCutting leaves
  pub starts : starts_with_lf (concat leaves) ≡ starts_with_lf old
  pub ends : ends_with_cr (concat leaves) ≡ ends_with_cr old
  pub number : AreOneOrTwo leaves

-- the leaf text that contains a byte index, and those on both sides of it: the index is below its
-- end, unless it is the last one, and not below its start
pub record IsPieceAt (pieces : List (List ℕ)) (at : ℕ) (left : List (List ℕ)) (piece : List ℕ) (right : List (List ℕ)) : Type 0 where
  pub parts : pieces ≡ left ++ piece ∷ right
  pub not_past : (total left).bytes ≤ at
  pub passed : (at < (total (left ++ piece ∷ [])).bytes) ⊎ (right ≡ [])

-- The leaf texts of a node with a text in place of a range of bytes, all in one of them, which one
-- or two replace.
pub record AreEdited (v : NodeView) (from to : ℕ) (text : List ℕ) (pieces : List (List ℕ))
    : Type 0 where
  pub left : List (List ℕ)
  pub old : List ℕ
  pub leaves : List (List ℕ)
  pub right : List (List ℕ)
  pub stands : IsPieceAt v.pieces from left old right
  pub replaced : IsReplaced old (from - (total left).bytes) (to - (total left).bytes) text
      (concat leaves)
  pub may_stand : MayStandFor old leaves
  pub pieces_are : pieces ≡ left ++ (leaves ++ right)

-- a node after an edit: of the same height and degree, if one leaf text replaces one
pub record IsEdited (v : NodeView) (from to : ℕ) (text : List ℕ) (w : NodeView) : Type 0 where
  pub edited : AreEdited v from to text w.pieces
  pub height : length edited.leaves ≡ 1 → w.height ≡ v.height
  pub degree : length edited.leaves ≡ 1 → w.degree ≡ v.degree

-- the number of nodes that an edit makes for a node of that height: one for each level for one leaf
-- text, and at most two for two
abbrev pub MadeFor : ℕ → ℕ → List (List ℕ) → Type 0
MadeFor made height leaves = (length leaves ≡ 1 → made ≡ height + 1) × (made ≤ 2 * (height + 1))

-- one node like the one before, or one or two that are full if it was
pub record AreInPlaceOf (v : NodeView) (leaves : List (List ℕ)) (nodes : List NodeView)
    : Type 0 where
  pub level : AreNodes v.height (min 12 v.degree) nodes
  pub full : (length nodes ≡ 1) ⊎ AreNodes v.height 12 nodes
  pub same : length leaves ≡ 1 → (length nodes ≡ 1) × All (λ w. w.degree ≡ v.degree) nodes
