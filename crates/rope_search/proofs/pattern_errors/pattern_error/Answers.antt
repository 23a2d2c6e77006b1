use Rattle.std.proofs.Common.{arith}
use Rattle.rope_search.proofs.PatternErrorLemmas.{refused_alike, long_alike}
use Rattle.rope_search.proofs.pattern_errors.pattern_error.Goals as goal

pub returns-then-text-gt-PATTERN_LEN-clause-refused : goal.returns-then-text-gt-PATTERN_LEN-clause-refused
returns-then-text-gt-PATTERN_LEN-clause-refused c =
    long_alike c.in-Ok.text.now c.args.pattern.now c.in-Ok.ensures.cases.0 (omega (arith, c.if-text-gt-PATTERN_LEN.true))

pub returns-in-Ok-explain-clause-refused : goal.returns-in-Ok-explain-clause-refused
returns-in-Ok-explain-clause-refused c =
    refused_alike c.in-Ok.text.now c.args.pattern.now c.new.result c.in-Ok-explain.found c.in-Ok.ensures.cases.0 c.new.ensures (omega (arith, c.if-text-gt-PATTERN_LEN.false)) c.in-Ok-explain.ensures.none
