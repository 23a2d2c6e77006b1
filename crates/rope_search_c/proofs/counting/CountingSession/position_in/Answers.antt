use Rattle.std.proofs.Common.{inr, refl, sym, subst, ◌∙◌}
use Rattle.rope_search.specs.Encodings.{IsNowhereIn}
use Rattle.rope_search.specs.Session.{current_text}
use Rattle.rope_search_c.specs.Reading.{text_in}
use Rattle.rope_search_c.proofs.BitLemmas.{one_named}
use Rattle.rope_search_c.proofs.counting.CountingSession.position_in.Goals as goal

pub returns-in_default-position_in : goal.returns-in_default-position_in
returns-in_default-position_in c = inr (
  refl,
  refl,
  λ encoding named.
      subst (λ e. IsNowhereIn e (text_in c.args.self.now) c.args.line c.args.column) (one_named c.in-Some.encoding encoding (sym c.in-Some.ensures ∙ named))
      (subst (λ b. IsNowhereIn c.in-Some.encoding (current_text b) c.args.line c.args.column) c.buffer.ensures.state c.in_default-position_in.ensures.range),
)
