use Rattle.std.proofs.Common.{◌+◌, ◌<◌, ◌||◌, ◌==◌, ◌++◌, [], ◌∷◌, take, length, ap, sym, ◌∙◌, arith}
use Rattle.std.proofs.lemmas.List.{take_more}
use Rattle.rx_walks.specs.Reversed.{has}
use Rattle.rx_program.proofs.ArrivalLaws.{puts_both, puts_same, has_next}
use Rattle.rx_program.proofs.arrivals.put_at_all.Goals as goal

pub loop-state-preserved : goal.loop-state-preserved
loop-state-preserved c =
    let states = c.args.states.now in
    let i = c.loop-state.state-index in
    let x = c.as_usize.result in
    let within : i < length states = omega arith in
    puts_same (λ q. has (take i states) q || (x == q)) (λ q. has (take (i + 1) states) q) (λ q. has_next (take i states) x q ∙ ap (λ xs. has xs q) (sym (take_more states i c.state-item.result within ∙ ap (λ z. take i states ++ z ∷ []) (sym c.state-item.is ∙ sym c.as_usize.ensures))))
    (puts_both (λ q. has (take i states) q) (λ q. x == q) c.loop-state.invariant c.in_ok-put_at.ensures)
