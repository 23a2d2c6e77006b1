use Rattle.std.proofs.Common.{arith}
use Rattle.ropey.specs.Slices.{slice_text}
use Rattle.rope_search.proofs.PlacedLemmas.{column-fits}
use Rattle.rope_search.proofs.match_edits.span_from.Goals as goal

pub overflow_add-from : goal.overflow_add-from
overflow_add-from c = omega (arith, c.requires, c.byte_at.ensures, column-fits (slice_text c.args.line.now) c.in-Some.first)

pub overflow_add-to : goal.overflow_add-to
overflow_add-to c = omega (arith, c.requires, c.byte_at-in-Some.ensures, column-fits (slice_text c.args.line.now) c.in-Some.last)
