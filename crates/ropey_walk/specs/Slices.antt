-- The view of a slice: the chunks of its source, clipped.
use Rattle.std.specs.Prelude.{ℕ, ◌+◌, List, Option, IfSome}
use Rattle.ropey_tree.specs.declared.node.OnTheWay.{OnTheWay}
use Rattle.ropey_tree.specs.Nodes.{StandsIn}
use Rattle.ropey_walk.specs.declared.slice.RopeSlice.{RopeSlice}
use Rattle.ropey_walk.specs.Chunks.{text_of}
use Rattle.ropey_walk.specs.Clips.{clip}
use Rattle.ropey_walk.specs.Sources.{source_pieces}
pub use Rattle.ropey_walk.specs.Parts.{pieces_under, standing}

-- the chunks of a slice
abbrev pub slice_pieces : RopeSlice → List (List ℕ)
slice_pieces slice = clip slice.start.chars (slice.start.chars + slice.len.chars) (source_pieces slice.source)

-- its text
abbrev pub slice_text : RopeSlice → List ℕ
slice_text slice = text_of (slice_pieces slice)

-- a node that is remembered is one of the slice's tree
abbrev pub IsNear : RopeSlice → Option OnTheWay → Type 0
IsNear slice near = IfSome near (λ way. StandsIn (source_pieces slice.source) way.node.now.pieces way.before)
