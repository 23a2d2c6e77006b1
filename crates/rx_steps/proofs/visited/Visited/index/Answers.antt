use Rattle.std.proofs.Common.{◌≡◌, ℕ, suc, ◌+◌, ◌-◌, ◌<◌, ◌≤◌, true, false, nat_lt, cond, List, Option, Some, None, slice_get, refl, sym, ap, ◌∙◌, arith}
use Rattle.std.proofs.lemmas.Bool.Decides.{nat_tests}
use Rattle.std.proofs.lemmas.Option.{slice_get_within}
use Rattle.rx_steps.specs.Nodes.{index_from, node_starts, widths_in}
use Rattle.rx_steps.proofs.IndexLaws.{no_start, no_index, starts_rise, index_between, index_inside}
use Rattle.rx_steps.proofs.visited.Visited.index.Goals as goal

read_so : (d starts : List ℕ) (q n : ℕ) (r o : Option ℕ) → d ≡ starts → q ≡ n → r ≡ slice_get d q → r ≡ o → slice_get starts n ≡ o
read_so d starts q n r o e f g h = cc (e, f, g, h)

inside : (first : ℕ) (widths : List ℕ) (q s x y : ℕ) → slice_get (node_starts first widths) q ≡ Some x → slice_get (node_starts first widths) (suc q) ≡ Some y → s < y - x → index_from first widths q s ≡ Some (x + s)
inside first widths q s x y e f less = index_between first widths q s x y e f ∙ ap (λ b. cond b (Some (x + s)) None) (is_less s (y - x) less)
  where
    is_less : (a b : ℕ) → a < b → nat_lt a b ≡ true
    is_less a b h = grind (arith, nat_tests)

outside : (first : ℕ) (widths : List ℕ) (q s x y : ℕ) → slice_get (node_starts first widths) q ≡ Some x → slice_get (node_starts first widths) (suc q) ≡ Some y → y - x ≤ s → index_from first widths q s ≡ None
outside first widths q s x y e f past = index_between first widths q s x y e f ∙ ap (λ b. cond b (Some (x + s)) None) (is_past s (y - x) past)
  where
    is_past : (a b : ℕ) → b ≤ a → nat_lt a b ≡ false
    is_past a b h = grind (arith, nat_tests)

pub returns-in_err-start-clause-index : goal.returns-in_err-start-clause-index
returns-in_err-start-clause-index c =
    let starts = c.self.inside.starts.items in
    let at : slice_get (node_starts 0 (widths_in starts)) c.args.node.0 ≡ None = read_so c.deref.result.now (node_starts 0 (widths_in starts)) c.as_usize-state.result c.args.node.0 c.start_at.result None
    (c.deref.ensures.value ∙ c.self.invariant.0) (c.as_usize-state.ensures ∙ c.state.ensures) c.start_at.ensures c.in_err-start.was in
    rw (← c.self.view_is) (c.from_residual.ensures ∙ sym (no_start 0 (widths_in starts) c.args.node.0 c.args.node.1 at))

pub overflow_add-state : goal.overflow_add-state
overflow_add-state c =
    let at : slice_get c.self.inside.starts.items c.as_usize-state.result ≡ Some c.in_ok-start.start = read_so c.deref.result.now c.self.inside.starts.items c.as_usize-state.result c.as_usize-state.result c.start_at.result (Some c.in_ok-start.start)
    c.deref.ensures.value refl c.start_at.ensures c.in_ok-start.was in
    let below = slice_get_within c.self.inside.starts.items c.as_usize-state.result c.in_ok-start.start at in
    omega (arith, below, c.self.inside.starts.ok.0, c.self.inside.starts.small)

pub returns-in_err-end-clause-index : goal.returns-in_err-end-clause-index
returns-in_err-end-clause-index c =
    let starts = c.self.inside.starts.items in
    let q : c.as_usize-state.result ≡ c.args.node.0 = c.as_usize-state.ensures ∙ c.state.ensures in
    let at : slice_get (node_starts 0 (widths_in starts)) (suc c.args.node.0) ≡ None = read_so c.deref-2.result.now (node_starts 0 (widths_in starts)) (c.as_usize-state.result + 1) (suc c.args.node.0) c.start_at-2.result None
    (c.deref-2.ensures.value ∙ c.self.invariant.0) (omega (arith, q)) c.start_at-2.ensures c.in_err-end.was in
    rw (← c.self.view_is) (c.from_residual-in_err-end.ensures ∙ sym (no_index 0 (widths_in starts) c.args.node.0 c.args.node.1 at))

pub overflow_sub-end : goal.overflow_sub-end
overflow_sub-end c =
    let starts = c.self.inside.starts.items in
    let q : c.as_usize-state.result ≡ c.args.node.0 = c.as_usize-state.ensures ∙ c.state.ensures in
    let at : slice_get (node_starts 0 (widths_in starts)) c.args.node.0 ≡ Some c.in_ok-start.start = read_so c.deref.result.now (node_starts 0 (widths_in starts)) c.as_usize-state.result c.args.node.0 c.start_at.result (Some c.in_ok-start.start)
    (c.deref.ensures.value ∙ c.self.invariant.0) q c.start_at.ensures c.in_ok-start.was in
    let on : slice_get (node_starts 0 (widths_in starts)) (suc c.args.node.0) ≡ Some c.in_ok-end.end = read_so c.deref-2.result.now (node_starts 0 (widths_in starts)) (c.as_usize-state.result + 1) (suc c.args.node.0) c.start_at-2.result (Some c.in_ok-end.end)
    (c.deref-2.ensures.value ∙ c.self.invariant.0) (omega (arith, q)) c.start_at-2.ensures c.in_ok-end.was in
    starts_rise 0 (widths_in starts) c.args.node.0 c.in_ok-start.start c.in_ok-end.end at on

pub returns-then-within-end-clause-index : goal.returns-then-within-end-clause-index
returns-then-within-end-clause-index c =
    let starts = c.self.inside.starts.items in
    let q : c.as_usize-state.result ≡ c.args.node.0 = c.as_usize-state.ensures ∙ c.state.ensures in
    let at : slice_get (node_starts 0 (widths_in starts)) c.args.node.0 ≡ Some c.in_ok-start.start = read_so c.deref.result.now (node_starts 0 (widths_in starts)) c.as_usize-state.result c.args.node.0 c.start_at.result (Some c.in_ok-start.start)
    (c.deref.ensures.value ∙ c.self.invariant.0) q c.start_at.ensures c.in_ok-start.was in
    let on : slice_get (node_starts 0 (widths_in starts)) (suc c.args.node.0) ≡ Some c.in_ok-end.end = read_so c.deref-2.result.now (node_starts 0 (widths_in starts)) (c.as_usize-state.result + 1) (suc c.args.node.0) c.start_at-2.result (Some c.in_ok-end.end)
    (c.deref-2.ensures.value ∙ c.self.invariant.0) (omega (arith, q)) c.start_at-2.ensures c.in_ok-end.was in
    let less : c.args.node.1 < c.in_ok-end.end - c.in_ok-start.start = omega (arith, c.if-within-end.true, c.within.ensures) in
    rw (← c.self.view_is) (ap (λ n. Some (c.in_ok-start.start + n)) c.within-then-within-end.ensures ∙ sym (inside 0 (widths_in starts) c.args.node.0 c.args.node.1 c.in_ok-start.start c.in_ok-end.end at on less))

pub returns-then-within-end-clause-below : goal.returns-then-within-end-clause-below
returns-then-within-end-clause-below c =
    let starts = c.self.inside.starts.items in
    let q : c.as_usize-state.result ≡ c.args.node.0 = c.as_usize-state.ensures ∙ c.state.ensures in
    let at : slice_get (node_starts 0 (widths_in starts)) c.args.node.0 ≡ Some c.in_ok-start.start = read_so c.deref.result.now (node_starts 0 (widths_in starts)) c.as_usize-state.result c.args.node.0 c.start_at.result (Some c.in_ok-start.start)
    (c.deref.ensures.value ∙ c.self.invariant.0) q c.start_at.ensures c.in_ok-start.was in
    let on : slice_get (node_starts 0 (widths_in starts)) (suc c.args.node.0) ≡ Some c.in_ok-end.end = read_so c.deref-2.result.now (node_starts 0 (widths_in starts)) (c.as_usize-state.result + 1) (suc c.args.node.0) c.start_at-2.result (Some c.in_ok-end.end)
    (c.deref-2.ensures.value ∙ c.self.invariant.0) (omega (arith, q)) c.start_at-2.ensures c.in_ok-end.was in
    let less : c.args.node.1 < c.in_ok-end.end - c.in_ok-start.start = omega (arith, c.if-within-end.true, c.within.ensures) in
    let here = index_inside 0 (widths_in starts) c.args.node.0 c.args.node.1 (c.in_ok-start.start + c.args.node.1) (inside 0 (widths_in starts) c.args.node.0 c.args.node.1 c.in_ok-start.start c.in_ok-end.end at on less) in
    rw (← c.self.view_is) (omega (arith, here.1, c.within-then-within-end.ensures))

pub returns-else-within-end-clause-index : goal.returns-else-within-end-clause-index
returns-else-within-end-clause-index c =
    let starts = c.self.inside.starts.items in
    let q : c.as_usize-state.result ≡ c.args.node.0 = c.as_usize-state.ensures ∙ c.state.ensures in
    let at : slice_get (node_starts 0 (widths_in starts)) c.args.node.0 ≡ Some c.in_ok-start.start = read_so c.deref.result.now (node_starts 0 (widths_in starts)) c.as_usize-state.result c.args.node.0 c.start_at.result (Some c.in_ok-start.start)
    (c.deref.ensures.value ∙ c.self.invariant.0) q c.start_at.ensures c.in_ok-start.was in
    let on : slice_get (node_starts 0 (widths_in starts)) (suc c.args.node.0) ≡ Some c.in_ok-end.end = read_so c.deref-2.result.now (node_starts 0 (widths_in starts)) (c.as_usize-state.result + 1) (suc c.args.node.0) c.start_at-2.result (Some c.in_ok-end.end)
    (c.deref-2.ensures.value ∙ c.self.invariant.0) (omega (arith, q)) c.start_at-2.ensures c.in_ok-end.was in
    let past : c.in_ok-end.end - c.in_ok-start.start ≤ c.args.node.1 = omega (arith, c.if-within-end.false, c.within.ensures) in
    rw (← c.self.view_is) (sym (outside 0 (widths_in starts) c.args.node.0 c.args.node.1 c.in_ok-start.start c.in_ok-end.end at on past))
