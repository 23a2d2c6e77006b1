use Rattle.std.proofs.Common.{ap, arith}
use Rattle.str_indices.specs.Text.{byte_len}
use Rattle.rope_search_reports.proofs.walk.Walk.pass_to.Goals as goal

pub at_place-ahead-requires : goal.at_place-ahead-requires
at_place-ahead-requires c = omega (arith, c.requires, ap (λ w. byte_len w.text) c.self.view_is)
