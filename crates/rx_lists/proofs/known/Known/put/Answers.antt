use Rattle.std.proofs.Common.{Some, slice_get, sym, ap, subst, ◌∙◌, arith}
use Rattle.rx_lists.specs.Known.{KnownView, TellsTruly}
use Rattle.rx_lists.proofs.KnownLaws.{columns_kept, columns_more, kept_sets, less_told, more_known, put_there, still_there}
use Rattle.rx_lists.proofs.known.Known.put.Goals as goal

pub returns-in_err-resize-clause-told : goal.returns-in_err-resize-clause-told
returns-in_err-resize-clause-told c = λ p told.
    subst (λ v. TellsTruly p v) (sym c.self.view_is ∙ ap (λ numbers. record { sets = c.self.inside.sets; before = numbers }) (sym c.in_err-resize.ensures.items)) told

pub invariant_of-self-in_err-push : goal.invariant_of-self-in_err-push
invariant_of-self-in_err-push c =
    let numbers = c.self.inside.before.items in
    let n = c.len-number.result in
    columns_kept (record { sets = c.self.inside.sets; before = numbers }) (record { sets = c.push.new.self; before = c.resize.new.self.items }) c.self.invariant c.in_err-push.ensures.kept
    (omega (arith, c.len-number.ensures, c.in_ok-resize.ensures.len)) (less_told numbers c.resize.new.self.items _ _ c.in_ok-resize.ensures.items)

pub returns-in_err-push-clause-told : goal.returns-in_err-push-clause-told
returns-in_err-push-clause-told c = λ p told.
    let numbers = c.self.inside.before.items in
    let old : KnownView = record { sets = c.self.inside.sets; before = numbers } in
    more_known p old (record { sets = c.push.new.self; before = c.resize.new.self.items }) c.self.invariant (λ number other within get. ap (λ xs. slice_get xs number) (sym c.in_err-push.ensures.kept) ∙ get)
    (less_told numbers c.resize.new.self.items _ _ c.in_ok-resize.ensures.items) (subst (λ v. TellsTruly p v) (sym c.self.view_is) told)

pub invariant_of-self-2 : goal.invariant_of-self-2
invariant_of-self-2 c =
    let numbers = c.self.inside.before.items in
    columns_more (record { sets = c.self.inside.sets; before = numbers }) (record { sets = c.push.new.self; before = c.resize.new.self.items }) _ c.self.invariant c.in_ok-push.ensures.more
    (omega (arith, c.len-number.ensures, c.in_ok-resize.ensures.len)) (less_told numbers c.resize.new.self.items _ _ c.in_ok-resize.ensures.items)

pub returns-clause-number : goal.returns-clause-number
returns-clause-number c =
    ap (λ j. slice_get c.push.new.self j) c.len-number.ensures ∙ put_there c.self.inside.sets c.push.new.self _ c.in_ok-push.ensures.more ∙ ap (λ x. Some x) c.in_ok-shared.ensures

pub returns-clause-kept : goal.returns-clause-kept
returns-clause-kept c = λ number other get.
    still_there c.self.inside.sets c.push.new.self _ c.in_ok-push.ensures.more number other (ap (λ k. slice_get k.sets number) c.self.view_is ∙ get)

pub returns-clause-told : goal.returns-clause-told
returns-clause-told c = λ p told.
    let numbers = c.self.inside.before.items in
    let old : KnownView = record { sets = c.self.inside.sets; before = numbers } in
    more_known p old (record { sets = c.push.new.self; before = c.resize.new.self.items }) c.self.invariant (kept_sets c.self.inside.sets c.push.new.self _ c.in_ok-push.ensures.more)
    (less_told numbers c.resize.new.self.items _ _ c.in_ok-resize.ensures.items) (subst (λ v. TellsTruly p v) (sym c.self.view_is) told)
