use Rattle.std.proofs.Common.{sym, subst}
use Rattle.regex_cursor.specs.Showing.{IsBeforeLast, behind_shown}
use Rattle.regex_cursor.proofs.ShowingLaws.{back_over, stays_before}
use Rattle.regex_cursor.proofs.ropey_cursor.stand_before.Goals as goal

pub returns-then-is_before : goal.returns-then-is_before
returns-then-is_before c =
    let place = c.args.chunks.now in
    subst (λ b. IsBeforeLast (behind_shown b place) place) (sym c.if-is_before.true) (stays_before place (c.requires c.if-is_before.true))

pub returns : goal.returns
returns c =
    subst (λ b. IsBeforeLast (behind_shown b c.args.chunks.now) c.prev.new.self) (sym c.if-is_before.false) (back_over _ _ _ c.prev.ensures)
