use Rattle.std.proofs.Common.{◌≡◌, ◌<◌, [], length, get_or, set, ◌∙◌, arith, below_more, inl}
use Rattle.rx_utf8.specs.Subsets.{lists_of}
use Rattle.rx_utf8.proofs.ListLaws.{set_here, set_there}
use Rattle.rx_utf8.proofs.entries.clear.Goals as goal

pub loop-list-preserved : goal.loop-list-preserved
loop-list-preserved c =
    let lists = c.loop-list.list-items in
    let i = c.loop-list.list-index in
    let list = c.clear.new.self in
    let within : i < length lists = omega arith in
    below_more (λ b. get_or (lists_of (set lists i list)) b [] ≡ []) i (λ b less. set_there lists i b list (inl less) ∙ c.loop-list.invariant b less) (set_here lists i list within ∙ c.clear.ensures.items)
