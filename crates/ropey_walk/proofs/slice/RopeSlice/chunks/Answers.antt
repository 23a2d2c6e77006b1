use Rattle.std.proofs.Common.{◌∙◌}
use Rattle.ropey_walk.specs.Slices.{slice_pieces}
use Rattle.ropey_walk.proofs.ChunkWalks.{first_parts, none_before_first, parts_whole}
use Rattle.ropey_walk.proofs.slice.RopeSlice.chunks.Goals as goal

pub at-requires : goal.at-requires
at-requires c = first_parts (slice_pieces c.args.self.now)

pub returns-clause-pieces : goal.returns-clause-pieces
returns-clause-pieces c = c.at.ensures.place ∙ none_before_first (slice_pieces c.args.self.now)

pub returns-clause-whole : goal.returns-clause-whole
returns-clause-whole c = parts_whole (slice_pieces c.args.self.now) c.at.ensures.cut.cut
