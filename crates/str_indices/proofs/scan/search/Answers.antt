use Rattle.std.proofs.Common.{sym, ◌∙◌}
use Rattle.str_indices.proofs.scan.search.Goals as goal

pub returns-in_err-at-clause-found : goal.returns-in_err-at-clause-found
returns-in_err-at-clause-found g c = λ b e. c.in_err-at.ensures.found b (sym c.from_residual.ensures ∙ e)

pub returns-in_err-at-2-clause-found : goal.returns-in_err-at-2-clause-found
returns-in_err-at-2-clause-found g c = λ b e. c.in_err-at-2.ensures.found b (sym c.from_residual-in_err-at-2.ensures ∙ e)

pub returns-in_err-at-3-clause-found : goal.returns-in_err-at-3-clause-found
returns-in_err-at-3-clause-found g c = λ b e. c.in_err-at-3.ensures.found b (sym c.from_residual-in_err-at-3.ensures ∙ e)
