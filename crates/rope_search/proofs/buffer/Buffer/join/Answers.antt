use Rattle.std.proofs.Common.{◌≡◌, ◌+◌, ◌^◌, ◌<◌, ◌≤◌, ◌++◌, length, take, drop, sym, subst, ◌∙◌, ap, arith}
use Rattle.std.specs.Prelude.{IfSome, option_map}
use Rattle.rope_search_reports.specs.Report.{IsReport, match_count}
use Rattle.rope_search.specs.declared.search.Search.{Search}
use Rattle.rope_search.specs.Histories.{text_at}
use Rattle.rope_search.specs.JoinedSteps.{number_joined}
use Rattle.rope_search.specs.KeptRows.{HoldsKept, HoldsStep}
use Rattle.rope_search.specs.Searched.{HoldsPending}
use Rattle.rope_search.proofs.JoinedLemmas.{joined_current, joined_none}
use Rattle.rope_search.proofs.KeptRowLemmas.{kept-joined}
use Rattle.rope_search.proofs.buffer.Buffer.join.Goals as goal

pub invariant_of-self-then-steps-gt1 : goal.invariant_of-self-then-steps-gt1
invariant_of-self-then-steps-gt1 c =
    let history = c.self.inside.history in
    let number = number_joined history.current c.args.steps in
    let new = c.join.new.self in
    let inside : history.current < length history.texts = c.current.ensures.inside in
    let here : text_at new.texts new.current ≡ text_at history.texts history.current =
    ap (λ ts. text_at ts new.current) c.in_ok-join.ensures.texts ∙ ap (text_at (take number history.texts ++ drop history.current history.texts)) c.in_ok-join.ensures.current
    ∙ joined_current history.texts history.current c.args.steps inside in (
      subst (λ t. IfSome c.self.inside.search (λ (s : Search). IsReport t s.finder s.rows.items × (match_count s.rows.items < 2 ^ 64))) (sym here) c.self.invariant.0,
      subst (λ t. HoldsPending t c.self.inside.pending) (sym here) c.self.invariant.1,
      λ own rows set is.
          subst (λ n. HoldsStep new.texts n own rows) (sym c.in_ok-join.ensures.current)
          (kept-joined history.texts new.texts history.current number c.undo_steps-then-steps-gt1.result (option_map (λ (s : Search). s.finder) c.self.inside.search) c.self.inside.kept
          c.keep_before.new.kept (omega arith) inside c.self.invariant.2 (c.undo_steps-then-steps-gt1.ensures ∙ c.in_ok-join.ensures.current) c.keep_before.ensures.dropped
          c.in_ok-join.ensures.texts own rows set is),
    )

pub invariant_of-self-else-steps-gt1 : goal.invariant_of-self-else-steps-gt1
invariant_of-self-else-steps-gt1 c =
    let history = c.self.inside.history in
    let new = c.join.new.self in
    let few : c.args.steps ≤ 1 = omega (arith, c.if-steps-gt1.false) in
    let texts : new.texts ≡ history.texts = c.in_ok-join.ensures.texts ∙ joined_none history.texts history.current c.args.steps few in
    let current : new.current ≡ history.current = omega (arith, c.in_ok-join.ensures.current, few) in
    let here : text_at new.texts new.current ≡ text_at history.texts history.current = ap (λ ts. text_at ts new.current) texts ∙ ap (text_at history.texts) current in (
      subst (λ t. IfSome c.self.inside.search (λ (s : Search). IsReport t s.finder s.rows.items × (match_count s.rows.items < 2 ^ 64))) (sym here) c.self.invariant.0,
      subst (λ t. HoldsPending t c.self.inside.pending) (sym here) c.self.invariant.1,
      subst (λ ts. HoldsKept ts new.current (option_map (λ (s : Search). s.finder) c.self.inside.search) c.self.inside.kept) (sym texts)
          (subst (λ n. HoldsKept history.texts n (option_map (λ (s : Search). s.finder) c.self.inside.search) c.self.inside.kept) (sym current) c.self.invariant.2),
    )
