use Rattle.std.proofs.Common.{◌+◌}
use Rattle.ropey_walk.specs.Slices.{slice_pieces}
use Rattle.ropey_walk.proofs.Slices.{nothing_in, no_text}
use Rattle.ropey_walk.specs.Sources.{source_pieces}
use Rattle.ropey_walk.proofs.ChunkParts.{light_is_text}
use Rattle.ropey_walk.proofs.Clipped.{text-is}
use Rattle.ropey_walk.proofs.Shows.{nothing_stands}
use Rattle.ropey_walk.proofs.slice.RopeSlice.chunk.Goals as goal

pub returns-then-self-eq0-clause-stands : goal.returns-then-self-eq0-clause-stands
returns-then-self-eq0-clause-stands c = rw (nothing_in c.args.self.now c.if-self-eq0.true, c.nothing.ensures.text, c.nothing.ensures.start) (nothing_stands c.args.by c.args.i)

pub returns-then-self-eq0-clause-cut : goal.returns-then-self-eq0-clause-cut
returns-then-self-eq0-clause-cut c = no_text (slice_pieces c.args.self.now) (nothing_in c.args.self.now c.if-self-eq0.true)

pub returns-in-Light-clause-stands : goal.returns-in-Light-clause-stands
returns-in-Light-clause-stands c = c.only.ensures.stands c.args.by c.args.i

pub returns-in-Light-clause-cut : goal.returns-in-Light-clause-cut
returns-in-Light-clause-cut c =
    let s = c.args.self.now in
    text-is s.start.chars (s.start.chars + s.len.chars) (source_pieces s.source) (light_is_text s c.in-Light.text c.in-Light.is)
