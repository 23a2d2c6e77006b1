use Rattle.ropey.specs.Slices.{slice_text}
use Rattle.rope_search_reports.proofs.TellerLemmas.{ends-none, stays-none}
use Rattle.rope_search_reports.proofs.line_teller.LineTeller.with_rest.Goals as goal

pub invariant_of-result : goal.invariant_of-result
invariant_of-result c = (c.requires, stays-none (slice_text c.args.text) c.args.start c.args.line_idx, ends-none c.args.rest.now)
