use Rattle.std.proofs.Common.{ap, arith}
use Rattle.str_indices.proofs.TextLaws.{counts_are_at_most_bytes-lines}
use Rattle.ropey_walk.specs.Chunks.{is_break}
use Rattle.ropey_walk.specs.Slices.{slice_text}
use Rattle.ropey_walk.proofs.slice.RopeSlice.len_lines.Goals as goal

pub overflow_add-result : goal.overflow_add-result
overflow_add-result c =
    let few = counts_are_at_most_bytes-lines is_break (slice_text c.args.self.now) in
    let counts = c.counts.ensures.counts in
    omega (arith, few, ap (λ n. n.breaks) counts, ap (λ n. n.bytes) counts, c.counts.ensures.fits)
