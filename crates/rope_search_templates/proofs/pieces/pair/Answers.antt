use Rattle.std.proofs.Common.{◌≡◌, slice_index, arith}
use Rattle.std.proofs.lemmas.Str.{IsCharBoundary-after_ascii}
use Rattle.rope_search_templates.proofs.pieces.pair.Goals as goal

pub range-requires-clause-end_boundary : goal.range-requires-clause-end_boundary
range-requires-clause-end_boundary c =
    let second : slice_index c.args.left.now 1 ≡ 36 = cc in
    IsCharBoundary-after_ascii c.args.left.now 1 c.utf8.left (omega arith) (omega arith)
