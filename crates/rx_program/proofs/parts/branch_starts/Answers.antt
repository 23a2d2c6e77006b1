use Rattle.std.proofs.Common.{◌≡◌, ◌+◌, ◌-◌, ◌<◌, ◌^◌, suc, arith, refl, ap, ◌∙◌, ◌++◌, ◌∷◌, []}
use Rattle.rx_grammar.specs.Subtrees.{subtrees_of}
use Rattle.rx_grammar.specs.Postorder.{tree_of}
use Rattle.rx_program.specs.Jobs.{sizes_of, starts_of, trees_before}
use Rattle.rx_program.proofs.StartLaws.{left_below, left_enough, left_next}
use Rattle.rx_program.proofs.parts.branch_starts.Goals as goal

pub known_of-part-requires : goal.known_of-part-requires
known_of-part-requires c =
    let parts = subtrees_of (tree_of c.args.hir.now) in
    let all = trees_before parts c.args.count c.args.root in
    let base = c.args.end - sizes_of all in
    let one : c.args.count - c.loop.counter ≡ suc (c.args.count - (c.loop.counter + 1)) = omega (arith, c.loop-test.true) in
    left_below parts (c.args.count - c.loop.counter) (c.args.count - (c.loop.counter + 1)) c.loop.root c.loop.end c.args.end base (starts_of all base) c.loop.starts.items one c.loop.invariant

pub overflow_sub-end : goal.overflow_sub-end
overflow_sub-end c =
    let parts = subtrees_of (tree_of c.args.hir.now) in
    let all = trees_before parts c.args.count c.args.root in
    let base = c.args.end - sizes_of all in
    let one : c.args.count - c.loop.counter ≡ suc (c.args.count - (c.loop.counter + 1)) = omega (arith, c.loop-test.true) in
    let top : c.args.end < 2 ^ 64 = omega (arith, c.ranges.end.fits) in
    left_enough parts (c.args.count - c.loop.counter) (c.args.count - (c.loop.counter + 1)) c.loop.root c.loop.end c.args.end base (starts_of all base) c.loop.starts.items c.known_of-part.result one top c.loop.invariant c.known_of-part.ensures

pub loop-preserved : goal.loop-preserved
loop-preserved c =
    let parts = subtrees_of (tree_of c.args.hir.now) in
    let all = trees_before parts c.args.count c.args.root in
    let base = c.args.end - sizes_of all in
    let one : c.args.count - c.loop.counter ≡ suc (c.args.count - (c.loop.counter + 1)) = omega (arith, c.loop-test.true) in
    let top : c.args.end < 2 ^ 64 = omega (arith, c.ranges.end.fits) in
    left_next parts (c.args.count - c.loop.counter) (c.args.count - (c.loop.counter + 1)) c.loop.root c.saturating_sub-root.result c.loop.end (c.loop.end - c.known_of-part.result.size) c.args.end base (starts_of all base) c.loop.starts.items c.push.new.self.items
    c.known_of-part.result one top c.loop.invariant c.known_of-part.ensures c.saturating_sub-root.ensures refl (c.in_ok-push.ensures.items ∙ ap (λ k. c.loop.starts.items ++ k ∷ []) c.new.ensures)
