use Rattle.std.proofs.Common.{sym, ◌∙◌, ap}
use Rattle.regex_cursor.specs.Showing.{behind_shown}
use Rattle.regex_cursor.proofs.ShowingLaws.{over_next}
use Rattle.regex_cursor.proofs.ropey_cursor.stand_behind.Goals as goal

pub returns-then-not-is_before : goal.returns-then-not-is_before
returns-then-not-is_before c = sym (ap (λ b. behind_shown b c.args.chunks.now) c.if-not-is_before.true)

pub returns : goal.returns
returns c = over_next _ _ _ c.next.ensures.steps ∙ sym (ap (λ b. behind_shown b c.args.chunks.now) c.if-not-is_before.false)
