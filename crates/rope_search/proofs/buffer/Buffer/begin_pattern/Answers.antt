use Rattle.std.proofs.Common.{◌≡◌, Err, ap, sym, subst}
use Rattle.std.proofs.lemmas.Result.{err_from_is_err_and}
use Rattle.std.proofs.lemmas.Str.{scalars-chars}
use Rattle.rope_search_io.specs.declared.faults.Fault.TheVariants.{Pattern}
use Rattle.rope_search_reports.specs.Text.{IsText}
use Rattle.rope_search.proofs.PendingLemmas.{holds-begun}
use Rattle.rope_search.proofs.buffer.Buffer.begin_pattern.Goals as goal

pub returns-in_err-finder-clause-no_pattern : goal.returns-in_err-finder-clause-no_pattern
returns-in_err-finder-clause-no_pattern c = λ told.
    let p = err_from_is_err_and c.from_residual.result c.from_residual.ensures.1 in
    let fault : c.in_err-finder.field-0.0 ≡ Pattern = cc in
    c.in_err-finder.ensures.no_pattern (ap Err fault)

pub invariant_of-self : goal.invariant_of-self
invariant_of-self c =
    let spelled = scalars-chars c.args.pattern.now c.utf8.pattern in (
      c.self.invariant.0,
      holds-begun _ c.in_ok-finder.finder c.new-rows.result.items (subst IsText (sym c.in_ok-finder.ensures.ok) spelled) c.in_ok-finder.ensures.is_pattern c.new-rows.ensures.items,
      c.self.invariant.2,
    )
