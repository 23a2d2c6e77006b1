use Rattle.std.proofs.Common.{inr, refl, subst}
use Rattle.std.specs.Prelude.{◌≤◌}
use Rattle.rope_search_reports.specs.Text.{line_count}
use Rattle.rope_search.specs.Session.{current_text}
use Rattle.rope_search_c.proofs.counting.CountingSession.line_len.Goals as goal

pub returns-in_default-line_len : goal.returns-in_default-line_len
returns-in_default-line_len c = inr (
  refl,
  refl,
  λ encoding named. subst (λ b. line_count (current_text b) ≤ c.args.line) c.buffer.ensures.state c.in_default-line_len.ensures.range,
)
