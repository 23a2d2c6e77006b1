use Rattle.ropey.specs.Slices.{slice_pieces}
use Rattle.rope_search_reports.proofs.PlaceLemmas.{rope-scalars}
use Rattle.rope_search_reports.proofs.line.Line.of.Goals as goal

pub returns-in-None-clause-holds : goal.returns-in-None-clause-holds
returns-in-None-clause-holds c = rope-scalars (slice_pieces c.args.slice) c.len_bytes.ensures.cut.cut
