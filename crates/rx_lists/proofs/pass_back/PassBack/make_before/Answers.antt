use Rattle.std.proofs.Common.{◌≡◌, Some, slice_get, sym, ap, subst, ◌∙◌}
use Rattle.rx_steps.proofs.FollowLaws.{on_ok}
use Rattle.rx_lists.specs.Known.{IsSetBefore}
use Rattle.rx_lists.proofs.KnownLaws.{some_same}
use Rattle.rx_lists.proofs.pass_back.PassBack.make_before.Goals as goal

pub returns-clause-before : goal.returns-clause-before
returns-clause-before c =
    let p = c.args.program.now in
    let set = c.args.self.now.set.value in
    let known = c.take.new.self.known in
    let same : slice_get known.sets c.in_ok-to.to ≡ Some c.in_ok-set.set =
    ap (λ k. slice_get k.sets c.in_ok-to.to) c.take.ensures.known ∙ ap (λ sets. slice_get sets c.in_ok-to.to) c.tell.ensures.sets ∙ c.in_ok-to.ensures.number in
    on_ok c.take.result (λ taken. subst (λ words. IsSetBefore p c.args.place.now set words) (some_same (sym same ∙ taken)) c.in_ok-set.ensures.before) c.take.ensures.taken

pub returns-clause-ready : goal.returns-clause-ready
returns-clause-ready c =
    let p = c.args.program.now in
    let place = c.args.place.now in
    let there = c.in_ok-to.ensures.number in
    let old : c.number_of.new.self.set ≡ c.args.self.now.set = c.number_of.ensures.set ∙ c.forget_if_full.ensures.set ∙ c.set_before.ensures.set in
    c.take.ensures.ready p (c.tell.ensures.ready p (c.number_of.ensures.ready p (c.forget_if_full.ensures.ready p c.set_before.ensures.ready))
    (λ here told. subst (λ words. IsSetBefore p place words here) (sym (ap (λ shared. shared.value) old))
    (subst (λ words. IsSetBefore p place c.args.self.now.set.value words) (some_same (sym there ∙ told)) c.in_ok-set.ensures.before)))
