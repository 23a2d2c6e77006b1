use Rattle.std.proofs.Common.{◌+◌, ap, sym, subst}
use Rattle.ropey_tree.specs.Cutting.{IsRopeText}
use Rattle.ropey_walk.specs.Sources.{source_pieces}
use Rattle.ropey_walk.proofs.ChunkParts.{light_is_text}
use Rattle.ropey_walk.proofs.Clipped.{text-is}
use Rattle.ropey_walk.proofs.slice.RopeSlice.len_bytes.Goals as goal

pub returns-in-Light-clause-cut : goal.returns-in-Light-clause-cut
returns-in-Light-clause-cut c =
    let s = c.args.self.now in
    text-is s.start.chars (s.start.chars + s.len.chars) (source_pieces s.source) (light_is_text s c.in-Light.field-0 c.in-Light.is)

pub returns-in-Full-clause-cut : goal.returns-in-Full-clause-cut
returns-in-Full-clause-cut c =
    let s = c.args.self.now in
    let text = subst IsRopeText (sym (ap source_pieces c.in-Full.is)) c.height.ensures.tree.text in
    text-is s.start.chars (s.start.chars + s.len.chars) (source_pieces s.source) text
