use Rattle.std.proofs.Common.{Some, None, subst, arith}
use Rattle.regex_cursor.specs.Splitting.{EndsWith, part, none, span_from_to}
use Rattle.regex_cursor.proofs.engines.meta.splitter.Splitter.rest.Goals as goal

pub returns-then-self-end-clause-rest : goal.returns-then-self-end-clause-rest
returns-then-self-end-clause-rest g c =
    subst (λ e. EndsWith c.args.self.now.last e None) c.end_of-end.ensures.end (none (omega (arith, c.if-self-end.true)))

pub returns-clause-rest : goal.returns-clause-rest
returns-clause-rest g c =
    subst (λ e. EndsWith c.args.self.now.last e (Some (span_from_to c.args.self.now.last c.end_of-end.result))) c.end_of-end.ensures.end (part (omega (arith, c.if-self-end.false)))
