use Rattle.std.proofs.Common.{◌≡◌, ◌+◌, ◌-◌, ◌<◌, ap, arith, sym, ◌∙◌}
use Rattle.ropey_tree.specs.Counts.{counts_of, minus}
use Rattle.ropey_walk.specs.Clips.{between, clip}
use Rattle.ropey_walk.specs.Slices.{slice_pieces, slice_text}
use Rattle.ropey_walk.proofs.Clipping.{clip-nothing}
use Rattle.ropey_walk.proofs.Edges.{part_counts}
use Rattle.ropey_walk.proofs.BreakLaws.{breaks_of_parts}
use Rattle.ropey_walk.proofs.slice.RopeSlice.between.Goals as goal

pub returns-then-start-end : goal.returns-then-start-end
returns-then-start-end c =
    let same : c.args.start.chars ≡ c.args.end.chars = omega (arith, c.if-start-end.true) in
    c.new.ensures ∙ sym (clip-nothing c.args.start.chars (slice_pieces c.args.self.now)) ∙ ap (λ n. clip c.args.start.chars n (slice_pieces c.args.self.now)) same

pub part-requires-clause-counted : goal.part-requires-clause-counted
part-requires-clause-counted c =
    let t = slice_text c.args.self.now in
    let a = c.args.start.chars in
    let e = c.args.end.chars in
    let some : a < e = omega (arith, c.if-start-end.false, c.requires.order) in
    let size : c.saturating_sub.result.chars ≡ e - a = ap (λ n. n.chars) c.saturating_sub.ensures in
    let end : e ≡ a + c.saturating_sub.result.chars = omega (arith, size, some) in
    c.saturating_sub.ensures ∙ ap (λ n. minus n c.args.start) c.requires.ends ∙ ap (minus (counts_of _)) c.requires.starts
    ∙ part_counts breaks_of_parts t a e some c.requires.within ∙ ap (λ n. counts_of (between a n t)) end
