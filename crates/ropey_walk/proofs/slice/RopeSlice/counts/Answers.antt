use Rattle.std.proofs.Common.{◌+◌, refl, ap, sym, ◌∙◌}
use Rattle.ropey_tree.specs.Counts.{counts_of}
use Rattle.ropey_walk.specs.Chunks.{text_of}
use Rattle.ropey_walk.specs.Sources.{source_pieces}
use Rattle.ropey_walk.proofs.Clipping.{text-clip}
use Rattle.ropey_walk.proofs.Reaching.{bytes-fit}
use Rattle.ropey_walk.proofs.Slices.{part_of}
use Rattle.ropey_walk.proofs.slice.RopeSlice.counts.Goals as goal

pub returns-clause-counts : goal.returns-clause-counts
returns-clause-counts c =
    let s = c.args.self.now in
    s.counted ∙ ap counts_of (sym (text-clip s.start.chars (s.start.chars + s.len.chars) (source_pieces s.source)))

pub returns-clause-fits : goal.returns-clause-fits
returns-clause-fits c =
    let s = c.args.self.now in
    bytes-fit (text_of (source_pieces s.source)) s.start s.len (part_of s (source_pieces s.source) refl) s.fits
