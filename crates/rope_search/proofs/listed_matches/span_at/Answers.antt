use Rattle.std.proofs.Common.{arith}
use Rattle.ropey.specs.Slices.{slice_text}
use Rattle.rope_search.proofs.PlacedLemmas.{column-fits}
use Rattle.rope_search.proofs.listed_matches.span_at.Goals as goal

pub overflow_add-result : goal.overflow_add-result
overflow_add-result c = omega (arith, c.column_for.ensures, column-fits (slice_text c.args.line.now) c.args.columns.0, c.requires.fits)

pub overflow_add-result-2 : goal.overflow_add-result-2
overflow_add-result-2 c = omega (arith, c.column_for-2.ensures, column-fits (slice_text c.args.line.now) c.args.columns.1, c.requires.fits)
