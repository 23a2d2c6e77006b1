use Rattle.std.proofs.Common.{subst, sym}
use Rattle.regex_cursor.specs.Strategies.{IsLeft, IsPart}
use Rattle.regex_cursor.proofs.LastLaws.{found_left}
use Rattle.regex_cursor.proofs.LeftLaws.{literal_left}
use Rattle.regex_cursor.proofs.LowerLaws.{inside_law, one_law}
use Rattle.regex_cursor.proofs.engines.meta.left.Left.part.Goals as goal

pub returns-in-Nothing : goal.returns-in-Nothing
returns-in-Nothing c = λ p s left. subst (λ x. IsLeft p s x) c.in-Nothing.is left

pub returns-in-Match : goal.returns-in-Match
returns-in-Match c = λ p s left.
    literal_left p s one_law inside_law c.in-Match.span (subst (λ x. IsLeft p s x) c.in-Match.is left)

pub returns-in-In : goal.returns-in-In
returns-in-In c = λ p s left. subst (λ x. IsLeft p s x) c.in-In.is left

pub returns-in-Found : goal.returns-in-Found
returns-in-Found c = λ p s left.
    subst (λ x. IsPart p s x) (sym c.of.ensures) (found_left p s c.in-Found.found (subst (λ x. IsLeft p s x) c.in-Found.is left))
