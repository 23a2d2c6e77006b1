use Rattle.std.proofs.Common.{◌≡◌, ℕ, Bool, IsTrue, Option, Some, refl, sym, subst, ◌∙◌}
use Rattle.std.specs.Prelude.{◌↔◌, IfSome}
use Rattle.std.specs.Str.{IsCharBoundary}
use Rattle.rx_util.specs.Search.{HalfFound}
use Rattle.rx_walks.specs.Backward.{end_in_content}
use Rattle.rx_walks.specs.Finds.{Search, IsInside}
use Rattle.rx_steps.proofs.BackAnswerLaws.{Tells, told_none, told_some, told_not}
use Rattle.rx_steps.proofs.reverse_search.told_back.Goals as goal
use Rattle.rx_steps.proofs.reverse_search.told_back.Goals.{else-offset-end-via-then-offset-end+else-not-may_be_empty, else-offset-end-via-else-offset-end}

last_inside : (s : Search) (end : ℕ) → end_in_content s ≡ end → IsInside s end → IsInside s (end_in_content s)
last_inside s end is inside = subst (λ k. IsInside s k) (sym is) inside

tells_at_end : (s : Search) (end : ℕ) (may : Bool) → end_in_content s ≡ end → (IsTrue may ↔ (IsTrue s.utf8_empty → IsCharBoundary s.content end)) → Tells s may
tells_at_end s end may is tells = subst (λ k. IsTrue may ↔ (IsTrue s.utf8_empty → IsCharBoundary s.content k)) (sym is) tells

met_inside : (s : Search) (best : Option HalfFound) (f : HalfFound) → best ≡ Some f → IfSome best (λ met. IsInside s met.offset) → IsInside s f.offset
met_inside s best f e inside = subst (λ o. IfSome o (λ met. IsInside s met.offset)) e inside

pub returns-in_default : goal.returns-in_default
returns-in_default c = λ s end last inside tells. told_none s c.args.best _ c.in_default.is refl

pub returns-then-not-may_be_empty : goal.returns-then-not-may_be_empty
returns-then-not-may_be_empty c = λ s end last inside tells.
    told_not s c.args.best _ c.in-Some.found c.args.may_be_empty (last_inside s c.args.end end last) (met_inside s c.args.best c.in-Some.found c.in-Some.is inside) (tells_at_end s c.args.end c.args.may_be_empty end tells) c.in-Some.is refl (sym c.offset.ensures ∙ c.if-offset-end.true ∙ sym end) c.if-not-may_be_empty.true

pub returns : goal.returns
returns c = λ s end last inside tells.
    told_some s c.args.best _ c.in-Some.found c.args.may_be_empty (last_inside s c.args.end end last) (met_inside s c.args.best c.in-Some.found c.in-Some.is inside) (tells_at_end s c.args.end c.args.may_be_empty end tells) c.in-Some.is refl (λ here. elim c.else-offset-end.branch [
      | else-offset-end-via-then-offset-end+else-not-may_be_empty w ↦ w.if-not-may_be_empty.false
      | else-offset-end-via-else-offset-end w ↦ absurd (w.if-offset-end.false (c.offset.ensures ∙ here ∙ end))
    ])
