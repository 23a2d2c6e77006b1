use Rattle.std.proofs.Common.{◌≡◌, ℕ, List, Some, slice_get, Contains, sym, ap, subst, ◌∙◌}
use Rattle.rx_steps.proofs.FollowLaws.{on_ok}
use Rattle.rx_lists.specs.Arrivals.{IsInList}
use Rattle.rx_lists.proofs.RoundLaws.{round_part}
use Rattle.rx_lists.proofs.leading.go_back.Goals as goal

same_list : {xs ys : List (ℕ × ℕ)} → Some xs ≡ Some ys → xs ≡ ys
same_list e = cc e

pub returns-in-Some-clause-round : goal.returns-in-Some-clause-round
returns-in-Some-clause-round c =
    let lists = c.args.arrivals.now in
    let node = c.args.node in
    on_ok c.mark_all.result (λ round. round_part c.args.program.now c.args.place.now (λ q. Contains c.deref.result.now q) (λ q. (node.1 ≡ 0) × IsInList lists node.0 q) c.args.beyond.now.nodes c.args.here.now.nodes c.mark_all.new.here.nodes
    (λ q told. subst (λ xs. Contains xs q) (same_list (sym told.1.1 ∙ ap (λ k. slice_get lists k) (sym c.state.ensures) ∙ c.in-Some.ensures) ∙ sym c.deref.ensures.value) told.1.2) round) c.mark_all.ensures.round
