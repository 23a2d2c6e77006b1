-- What a slice is a part of.
use Rattle.std.specs.Prelude.{ℕ, List, []}
use Rattle.std.specs.Str.{chars}
use Rattle.ropey_walk.specs.declared.slice.Source.{Source}
use Rattle.ropey_walk.specs.declared.slice.Source.TheVariants.{Full, Light}
use Rattle.ropey_walk.specs.Chunks.{lone_piece}

-- the chunks of a tree, or that of a text in one chunk
abbrev pub source_pieces : Source → List (List ℕ)
source_pieces (Full node) = node.now.pieces
source_pieces (Light text) = lone_piece (chars text.now)

-- the bytes of a text in one chunk
abbrev pub light_bytes : Source → List ℕ
light_bytes (Full node) = []
light_bytes (Light text) = text.now
