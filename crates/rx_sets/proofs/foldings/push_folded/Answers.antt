use Rattle.std.proofs.Common.{ℕ, ◌⊎◌}
use Rattle.rx_sets.specs.Sets.{FoldsInto}
use Rattle.rx_sets.specs.Unions.{Adds, OneOf, Between, LeadsOut}
use Rattle.rx_sets.proofs.UnionLemmas.{Adds-map, Adds-both, OnOk-map}
use Rattle.rx_sets.proofs.PairLemmas.{folded_span}
use Rattle.rx_sets.proofs.foldings.push_folded.Goals as goal

pub returns : goal.returns
returns c =
    let old = c.args.ranges.now.items in
    let middle = c.push_span.new.ranges.items in
    let new = c.push_seconds.new.ranges.items in
    let low = c.args.low in
    let high = c.args.high in
    let run = c.pairs_between.result.now in
    let Outside : ℕ → Type 0 = λ d. OneOf (LeadsOut low high d) run in
    OnOk-map c.push_seconds.result (Adds middle new Outside) (Adds old new (FoldsInto (Between low high)))
    (λ more. Adds-map old new (λ d. Between low high d ⊎ Outside d) (FoldsInto (Between low high)) (folded_span run low high c.pairs_between.ensures)
    (Adds-both old middle new (Between low high) Outside c.in_ok-push_span.ensures more))
    c.push_seconds.ensures
