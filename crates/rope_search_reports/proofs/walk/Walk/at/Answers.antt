use Rattle.std.proofs.Common.{◌+◌, sym, subst, arith}
use Rattle.ropey.specs.Slices.{slice_text}
use Rattle.rope_search_reports.specs.Drafts.{IsWalk}
use Rattle.rope_search_reports.proofs.StartLemmas.{chars-there, walk-from}
use Rattle.rope_search_reports.proofs.walk.Walk.at.Goals as goal

pub overflow_add-result : goal.overflow_add-result
overflow_add-result c =
    let near = (chars-there (slice_text c.args.text) c.args.line_idx c.of-start.result c.of-start.ensures).near in
    omega (arith, near, c.of-start.ensures.fits)

pub invariant_of-result : goal.invariant_of-result
invariant_of-result c =
    subst (λ bs. IsWalk (slice_text c.args.text) c.args.line_idx (c.of-start.result.byte_idx + c.of-start.result.at) bs) (sym c.range_from.ensures.value)
    (walk-from (slice_text c.args.text) c.args.line_idx c.of-start.result c.of-start.ensures c.requires)
