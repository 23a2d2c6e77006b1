use Rattle.std.proofs.Common.{◌≡◌, ◌+◌, ◌-◌, [], ◌∷◌, ◌++◌, Option, ℕ, suc, List, None, map, replicate, set, refl, ap, sym, ◌∙◌, append_assoc, arith}
use Rattle.std.specs.List.{range_with_len}
use Rattle.std.proofs.lemmas.List.{length-set, set_at}
use Rattle.std.proofs.lemmas.List.FromFn.{length-map-range_with_len, map-range_with_len_more, take-map-range_with_len}
use Rattle.rope_search_reports.specs.Finders.{group_told}
use Rattle.rope_search_reports.proofs.rows.searching.groups_in.Goals as goal

pub loop-k-init : goal.loop-k-init
loop-k-init c = (refl, refl)

pub loop-k-preserved : goal.loop-k-preserved
loop-k-preserved c =
    let told = group_told c.args.slots.now in
    let k = c.loop-k.k in
    let group = c.group_in.result in
    let front = map told (range_with_len 0 k) in
    let behind : List (Option (ℕ × ℕ)) = replicate (10 - (k + 1)) None in
    let more : 10 - k ≡ suc (10 - (k + 1)) = omega (arith, c.loop-k-test.true, c.loop-k.auto.k-end, c.requires.few) in
    let split : c.loop-k.groups ≡ front ++ None ∷ behind = c.loop-k.invariant.1 ∙ ap (λ n. front ++ replicate n None) more in (
      length-set c.loop-k.groups k group ∙ c.loop-k.invariant.0,
      ap (λ gs. set gs k group) split
          ∙ set_at front None behind group k (length-map-range_with_len told 0 k)
          ∙ sym (append_assoc front (group ∷ []) behind)
          ∙ ap (λ g. (front ++ g ∷ []) ++ behind) c.group_in.ensures
          ∙ ap (λ gs. gs ++ behind) (sym (map-range_with_len_more told 0 k k (omega arith))),
    )

pub returns : goal.returns
returns c =
    let told = group_told c.args.slots.now in
    let count = c.args.count in
    let all : c.loop-k.k ≡ count = omega (arith, c.loop-k-test.false, c.loop-k.auto.k-end) in
    c.loop-k.invariant.1
    ∙ ap (λ k. map told (range_with_len 0 k) ++ replicate (10 - k) None) all
    ∙ ap (λ gs. gs ++ replicate (10 - count) None) (sym (take-map-range_with_len told 0 10 count c.requires.few))
