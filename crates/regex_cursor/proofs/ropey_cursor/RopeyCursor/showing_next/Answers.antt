use Rattle.std.proofs.Common.{ℕ, List, length, ◌+◌, refl, sym, subst}
use Rattle.std.specs.Borrow.{Bor}
use Rattle.regex_cursor.specs.Showing.{EndsFirst, IsShowing}
use Rattle.regex_cursor.proofs.ShowingLaws.{lawful, ends_first, same_content, shows_first}
use Rattle.regex_cursor.proofs.ropey_cursor.RopeyCursor.showing_next.Goals as goal

pub invariant_of-result : goal.invariant_of-result
invariant_of-result c = record {
  shows = subst (λ (b : Bor (List ℕ)). IsShowing c.next.new.self b.now c.args.offset c.args.len) (sym c.unwrap_or-shown.ensures) (shows_first _ _ _ _ _ _ refl c.requires c.next.ensures.steps);
  some = λ is. absurd (cc is);
}

pub returns-clause-content : goal.returns-clause-content
returns-clause-content c = same_content _ _ _ c.next.ensures.steps

pub returns-clause-end : goal.returns-clause-end
returns-clause-end c =
    subst (λ (b : Bor (List ℕ)). EndsFirst c.args.chunks.ahead c.args.offset (c.args.offset + length b.now)) (sym c.unwrap_or-shown.ensures) (ends_first _ _ _ _ _ refl c.next.ensures.steps)

pub returns-clause-lawful : goal.returns-clause-lawful
returns-clause-lawful c = lawful _ _ _ _ (invariant_of-result c).shows
