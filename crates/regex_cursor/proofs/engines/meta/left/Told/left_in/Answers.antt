use Rattle.std.proofs.Common.{Some, subst, sym}
use Rattle.regex_cursor.specs.Strategies.{IsPart, IsTold}
use Rattle.regex_cursor.proofs.BackLaws.{up_to}
use Rattle.regex_cursor.proofs.LeftLaws.{all_left, up_to_left}
use Rattle.regex_cursor.proofs.LowerLaws.{cut_law, inside_law, one_law}
use Rattle.regex_cursor.proofs.engines.meta.left.Told.left_in.Goals as goal

pub returns-in-NoMatch : goal.returns-in-NoMatch
returns-in-NoMatch c = λ p s start end told. subst (λ x. IsTold p s x) c.in-NoMatch.is told

pub returns-in-Ends : goal.returns-in-Ends
returns-in-Ends c = λ p s start end told.
    let half = c.in-Ends.half in
    let up = subst (λ x. IsTold p s x) c.in-Ends.is told in
    let by : IsPart p s (record { span = record { start = c.args.span.start; end = half.offset }; pattern = Some half.pattern }) = up_to_left p s one_law inside_law cut_law c.args.span.start half.pattern half.offset start (up_to p s half up) in
    subst (λ k. IsPart p s (record { span = record { start = c.args.span.start; end = k }; pattern = Some c.pattern.result })) (sym c.offset.ensures)
    (subst (λ k. IsPart p s (record { span = record { start = c.args.span.start; end = half.offset }; pattern = Some k })) (sym c.pattern.ensures) by)

pub returns-in-Unknown : goal.returns-in-Unknown
returns-in-Unknown c = λ p s start end told. all_left p s c.args.span start end c.requires
