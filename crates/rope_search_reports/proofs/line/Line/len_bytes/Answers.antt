use Rattle.std.proofs.Common.{length, sym, ap}
use Rattle.rope_search_reports.proofs.OwnLemmas.{narrow-bytes, whole-bytes}
use Rattle.rope_search_reports.proofs.line.Line.len_bytes.Goals as goal

pub returns-in-Whole : goal.returns-in-Whole
returns-in-Whole c = sym (ap length (whole-bytes c.args.self.now c.in-Whole.text c.in-Whole.is c.requires))

pub returns-in-Narrow : goal.returns-in-Narrow
returns-in-Narrow c = sym (ap length (narrow-bytes c.args.self.now c.in-Narrow.text c.in-Narrow.is c.requires))
