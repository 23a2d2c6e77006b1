use Rattle.std.proofs.Common.{[], ◌∷◌, refl}
use Rattle.rope_search.proofs.HeaderLemmas.{Begins-then, Begins-rest}
use Rattle.rope_search.proofs.headers.next_position.Goals as goal

pub returns-in_err-line-clause-none : goal.returns-in_err-line-clause-none
returns-in_err-line-clause-none c =
    rw c.from_residual.ensures (λ line column others h. c.in_err-line.ensures.none line (column ∷ others) h)

pub returns-in_err-column-clause-none : goal.returns-in_err-column-clause-none
returns-in_err-column-clause-none c =
    rw c.from_residual-in_err-column.ensures
    (λ line column others h. c.in_err-column.ensures.none column others
    (Begins-rest c.args.bytes.now (c.in_ok-line.line ∷ []) c.in_ok-line.others.now (line ∷ []) (column ∷ others) c.in_ok-line.ensures.found refl h))

pub returns-clause-found : goal.returns-clause-found
returns-clause-found c =
    Begins-then c.args.bytes.now c.in_ok-line.others.now c.in_ok-column.others.now (c.in_ok-line.line ∷ []) (c.in_ok-column.column ∷ [])
    c.in_ok-line.ensures.found c.in_ok-column.ensures.found
