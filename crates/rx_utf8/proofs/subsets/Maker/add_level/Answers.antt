use Rattle.std.proofs.Common.{rules, ◌≡◌, ℕ, ◌<◌, ◌≤◌, ◌+◌, ◌-◌, ◌==◌, ◌&&◌, ◌++◌, [], ◌∷◌, nat_lt, false, length, get_or, take, drop, sym, refl, ap, ap₂, subst, ◌∙◌, arith}
use Rattle.rx_utf8.specs.Automata.{look_up, step_in}
use Rattle.rx_utf8.specs.Blocks.{rows_of}
use Rattle.rx_utf8.specs.Subsets.{AddsRowsUpTo, IsLeadOf, in_some, is_place, lists_of, sources}
use Rattle.rx_utf8.proofs.ListLaws.{length_lists, lists_append}
use Rattle.rx_utf8.proofs.SubsetLaws.{Places, row_added}
use Rattle.rx_utf8.proofs.subsets.Maker.add_level.Goals as goal

pub loop-state-preserved : goal.loop-state-preserved
loop-state-preserved c =
    let F = rows_of c.args.forward.now in
    let old = c.args.self.now.subsets.sets.items in
    let now = c.loop-state.self.subsets.sets.items in
    let new = lists_of c.set_row.new.subsets.sets.items in
    let rows = rows_of c.args.self.now.rows.items in
    let rows' = rows_of c.loop-state.self.rows.items in
    let from = c.len-from.result in
    let to = c.len-to.result in
    let t = c.loop-state.state in
    let level = c.deref-2.result.now in
    let states = c.deref-in-loop-state-3.result.now in
    let row = c.set_row.new.row.items in
    let copied : c.in_ok-row.row.items ≡ row = search rules in
    let count : length F ≡ length c.args.forward.now = length_lists c.args.forward.now in
    let size : to ≡ length old = search rules in
    let low : from ≤ t = omega arith in
    let high : t < to = omega arith in
    let so_far : AddsRowsUpTo (length F) (step_in F) (lists_of old) rows t (lists_of now) rows' = subst (λ k. AddsRowsUpTo k (step_in F) (lists_of old) rows t (lists_of now) rows') (sym count) c.loop-state.invariant.rows in
    let whole : Places (length F) old from to (from == 0) level = record {
      end_is = refl;
      states_are = λ s. ap (λ xs. get_or xs s false) c.deref-2.ensures.value ∙ c.set_states.ensures.states s
          ∙ ap₂ (λ k xs. nat_lt s k && in_some (lists_of (take (to - from) (drop from xs))) s) (c.requires.states ∙ sym count) c.deref.ensures.value;
    } in
    let part : Places (length F) now t (t + 1) (t == 0) states = record {
      end_is = refl;
      states_are = λ s. ap (λ xs. get_or xs s false) c.deref-in-loop-state-3.ensures.value ∙ c.set_states-in-loop-state.ensures.states s
          ∙ ap₂ (λ k xs. nat_lt s k && in_some (lists_of (take (t + 1 - t) (drop t xs))) s) (c.loop-state.invariant.states ∙ sym count) c.deref-in-loop-state.ensures.value;
    } in
    let led = λ (b : ℕ). ap (λ xs. get_or (lists_of xs) b []) c.deref-in-loop-state-4.ensures.value ∙ c.in_ok-set_sources.ensures.lists b
    ∙ ap (λ es. sources (is_place (t == 0) states) es b) (c.deref-in-loop-state-2.ensures.value ∙ c.in_ok-entries.ensures) in
    let added : AddsRowsUpTo (length F) (step_in F) (lists_of old) rows (t + 1) new (rows' ++ row ∷ []) =
    row_added F c.requires.forward old now new rows rows' from to t (from == 0) (t == 0) level states row size low high so_far whole part c.in_ok-set_row.ensures.kept
    (λ b less. subst (λ xs. IsLeadOf new to xs (look_up row b)) (led b) (c.in_ok-set_row.ensures.leads b less)) c.in_ok-set_row.ensures.disjoint in
    let pushed : rows_of c.push.new.self.items ≡ rows' ++ row ∷ [] = ap rows_of c.in_ok-push.ensures.items ∙ lists_append c.loop-state.self.rows.items (c.in_ok-row.row ∷ []) ∙ ap (λ xs. rows' ++ xs ∷ []) copied in
    record {
      rows = subst (λ xs. AddsRowsUpTo (length c.args.forward.now) (step_in F) (lists_of old) rows (t + 1) new xs) (sym pushed)
          (subst (λ k. AddsRowsUpTo k (step_in F) (lists_of old) rows (t + 1) new (rows' ++ row ∷ [])) count added);
      states = c.set_states-in-loop-state.ensures.len ∙ c.loop-state.invariant.states;
      lists = c.set_sources.ensures.len;
    }
