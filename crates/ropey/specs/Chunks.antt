-- The text of a rope, and its chunks.
use Rattle.std.specs.Prelude.{◌≡◌, ℕ, List, Option}
use Rattle.std.specs.Iterator.{Drains, Yields}
use Rattle.std.specs.List.{flat_map}
use Rattle.std.specs.Str.{chars}
use Rattle.std.specs.Borrow.{Bor}
use Rattle.ropey_tree.specs.declared.counts.Counts.{Counts}
use Rattle.ropey_tree.specs.Counts.{counts_of}
use Rattle.ropey_tree.specs.Cutting.{IsRopeText}
use Rattle.ropey_walk.specs.Chunks.{text_of}
-- the same words as for slices
pub use Rattle.ropey_walk.specs.Chunks.{text_of, line_breaks, lone_piece, ShowsChunk, ShowsChunkOfBreak}
-- how a rope is split into chunks, in the words of the tree
pub use Rattle.ropey_tree.specs.Cutting.{IsPiece, IsCutting, IsRopeText, IsFull, AreFull}
-- which characters break its lines
pub use Rattle.ropey_tree.specs.Breaks.{is_break}

-- the chunks that a rope may have, and the counts of their text
pub record IsRopeOf (pieces : List (List ℕ)) (counts : Counts) : Type 0 where
  pub text : IsRopeText pieces
  pub counted : counts ≡ counts_of (text_of pieces)

-- ---- what an iterable yields, by its ghost members `into_iter_gives` and `next_gives`
module _ {C I A : Type 0} (gives : C → I → Type 0) (steps : I → Option A → I → Type 0) where
  -- P holds of all items that the iterable yields until it ends
  abbrev pub YieldsInAll : C → (List A → Type 0) → Type 0
  YieldsInAll iterable P = (it : I) × (items : List A) × gives iterable it × Drains steps it items × P items

  -- P holds of the first items that the iterable yields, whether or not more follow
  abbrev pub YieldsAtFirst : C → (List A → Type 0) → Type 0
  YieldsAtFirst iterable P = (it : I) × (items : List A) × (rest : I) × gives iterable it × Yields steps it items rest × P items

-- the characters of the parts of a text, joined
abbrev pub joined : List (Bor (List ℕ)) → List ℕ
joined parts = flat_map (λ part. chars part.now) parts
