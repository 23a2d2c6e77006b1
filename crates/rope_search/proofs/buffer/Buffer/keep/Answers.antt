use Rattle.std.proofs.Common.{◌^◌, ◌<◌, ap, sym, subst, ◌∙◌}
use Rattle.std.specs.Prelude.{IfSome, option_map}
use Rattle.rope_search_reports.specs.Report.{IsReport, match_count}
use Rattle.rope_search.specs.declared.search.Search.{Search}
use Rattle.rope_search.specs.Histories.{Texts, text_at}
use Rattle.rope_search.specs.Searched.{HoldsPending}
use Rattle.rope_search.specs.Session.{LimitedBuffer}
use Rattle.rope_search.specs.TextChanges.{ranges_in}
use Rattle.rope_search.specs.UndoSteps.{changes_with_steps, with_steps}
use Rattle.rope_search.proofs.UndoStepLemmas.{kept_current}
use Rattle.rope_search.proofs.buffer.Buffer.keep.Goals as goal

pub invariant_of-self : goal.invariant_of-self
invariant_of-self c =
    let history = c.self.inside.history in
    let both = subst (λ t. IfSome c.self.inside.search (λ (s : Search). IsReport t s.finder s.rows.items × (match_count s.rows.items < 2 ^ 64)) × HoldsPending t c.self.inside.pending)
    (sym (ap (λ (t : Texts). text_at t.texts t.current) c.keep.ensures ∙ kept_current history.texts history.current c.args.steps)) (c.self.invariant.0, c.self.invariant.1) in
    (both.0, both.1, λ own rows set is. absurd cc)

pub returns-clause-state : goal.returns-clause-state
returns-clause-state c =
    let pattern = option_map (λ (s : Search). s.finder) c.self.inside.search in
    ap (λ (t : Texts). record { texts = t.texts; current = t.current; pattern = pattern }) c.keep.ensures
    ∙ ap (λ (v : LimitedBuffer). with_steps v.state c.args.steps) c.self.view_is

pub returns-clause-changes : goal.returns-clause-changes
returns-clause-changes c =
    ap (λ (t : Texts). t.changes) c.keep.ensures ∙ ap (λ (v : LimitedBuffer). changes_with_steps v.changes v.state.current c.args.steps) c.self.view_is

pub returns-clause-text_changes : goal.returns-clause-text_changes
returns-clause-text_changes c =
    ap (λ (t : Texts). ranges_in t.is_back t.last) c.keep.ensures ∙ ap (λ (v : LimitedBuffer). v.text_changes) c.self.view_is
