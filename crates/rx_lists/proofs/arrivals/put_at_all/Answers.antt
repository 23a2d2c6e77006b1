use Rattle.std.proofs.Common.{◌≡◌, ◌+◌, ◌++◌, ◌∷◌, [], Some, slice_get, take, sym, ap, ◌∙◌}
use Rattle.std.proofs.lemmas.Option.{slice_get-get_or}
use Rattle.rx_lists.specs.Arrivals.{nodes_in}
use Rattle.rx_lists.proofs.ArrivalLaws.{told_more, told_part}
use Rattle.rx_lists.proofs.RoundLaws.{take_one_more}
use Rattle.rx_lists.proofs.arrivals.put_at_all.Goals as goal

pub loop-on-preserved : goal.loop-on-preserved
loop-on-preserved c =
    let ons = c.args.ons.now in
    let n = c.loop-on.on-index in
    let x = c.on-item.result in
    let here : slice_get ons n ≡ Some x = slice_get-get_or ons n x c.loop-on-test.true ∙ ap (λ y. Some y) (sym c.on-item.is) in
    told_part c.args.from (take n ons ++ x ∷ []) (take (n + 1) ons) (nodes_in c.args.lists.now.items) (nodes_in c.put_at.new.lists.items) (sym (take_one_more ons n x here))
    (told_more c.args.from (take n ons) x (nodes_in c.args.lists.now.items) (nodes_in c.loop-on.lists.items) (nodes_in c.put_at.new.lists.items) c.loop-on.invariant c.in_ok-put_at.ensures)
