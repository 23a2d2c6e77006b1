use Rattle.std.proofs.Common.{◌≡◌, ◌+◌, ◌<◌, ◌≤◌, ℕ, List, length, inl, inr, sym, subst, ◌∙◌, ap}
use Rattle.std.proofs.lemmas.Bool.{cases_lt}
use Rattle.ropey.specs.Chunks.{text_of}
use Rattle.rope_search_reports.specs.Turned.{Lead}
use Rattle.rope_search_changes.specs.declared.Change.{Change}
use Rattle.rope_search.specs.Histories.{text_at, changes_at, Texts}
use Rattle.std.specs.Prelude.{Option, Some, option_map}
use Rattle.rope_search.specs.declared.search.Search.{Search}
use Rattle.rope_search.specs.Session.{BufferState, LimitedBuffer, current_text}
use Rattle.rope_search.proofs.ChangedLemmas.{replaces-told}
use Rattle.rope_search.proofs.KeptRowLemmas.{kept-forward, turns-forward}
use Rattle.rope_search_reports.specs.Report.{IsReport}
use Rattle.rope_search.proofs.buffer.Buffer.redo.Goals as goal

pub step_over-requires-clause-led : goal.step_over-requires-clause-led
step_over-requires-clause-led c =
    let history = c.self.inside.history in
    let k = history.current in
    let past : length history.texts ≤ k + 1 → ⊥ = λ none. absurd (let e = c.next.ensures.none.1 none in let is = c.in-Some.is in cc) in
    let inside : k + 1 < length history.texts = elim (cases_lt (k + 1) (length history.texts)) [
      | inl low ↦ low
      | inr high ↦ absurd (past high)
    ] in
    let lead = c.current-current.ensures.led k inside in
    let told : c.as_slice-changes.result.now ≡ changes_at history.changes (k + 1) = c.as_slice-changes.ensures ∙ c.in-Some.ensures.changes in
    subst (λ (cs : List Change). Lead cs (text_of c.current-current.result.now) (text_of c.in-Some.version.now.text)) (sym told)
    (subst (λ (t : List ℕ). Lead (changes_at history.changes (k + 1)) t (text_of c.in-Some.version.now.text)) (sym c.current-current.ensures.text)
    (subst (λ (t : List ℕ). Lead (changes_at history.changes (k + 1)) (text_at history.texts k) t) (sym c.in-Some.ensures.text) lead))

pub returns-clause-changed : goal.returns-clause-changed
returns-clause-changed c =
    let history = c.self.inside.history in
    let finder = c.in-Some-search.search.finder in
    let state : BufferState = record { texts = history.texts; current = history.current; pattern = Some finder } in
    let one : c.self.inside.search ≡ Some c.in-Some-search.search = c.in-Some-search.is in
    let same : state ≡ c.args.self.now.state =
    ap (λ (o : Option Search). record { texts = history.texts; current = history.current; pattern = option_map (λ (s : Search). s.finder) o }) (sym one)
    ∙ ap (λ (v : LimitedBuffer). v.state) c.self.view_is in
    let is : c.args.self.now.state.pattern ≡ Some finder = ap (λ (b : BufferState). b.pattern) (sym same) in
    let here : text_of c.current-current.result.now ≡ current_text c.args.self.now.state = c.current-current.ensures.text ∙ ap current_text same in
    let after : BufferState = record { texts = c.step_forward-2.new.self.texts; current = c.step_forward-2.new.self.current; pattern = Some c.step_over.new.self.finder } in
    let there : text_of c.in-Some.version.now.text ≡ current_text after = c.in-Some.ensures.text ∙ sym (ap (λ (t : Texts). text_at t.texts t.current) c.step_forward-2.ensures.texts) in
    replaces-told c.args.self.now.state after finder (text_of c.current-current.result.now) (text_of c.in-Some.version.now.text) c.in_ok-self-inside.field-0
    is (ap Some c.step_over.ensures.finder) here there c.in_ok-self-inside.ensures.changed

pub step_over-requires-clause-kept : goal.step_over-requires-clause-kept
step_over-requires-clause-kept c =
    let history = c.self.inside.history in
    let set : option_map (λ (s : Search). s.finder) c.self.inside.search ≡ Some c.in-Some-search.search.finder = ap (option_map (λ (s : Search). s.finder)) c.in-Some-search.is in
    turns-forward history (text_of c.current-current.result.now) (text_of c.in-Some.version.now.text) c.in-Some-search.search.finder _ c.self.inside.kept c.next_step-step.result c.next_step-step.ensures set c.self.invariant.2
    c.current-current.ensures.text c.in-Some.ensures.text

pub invariant_of-self-2 : goal.invariant_of-self-2
invariant_of-self-2 c =
    let history = c.self.inside.history in
    let rows = c.step_over.new.self.rows.items in
    let there : text_of c.in-Some.version.now.text ≡ text_at c.step_forward-2.new.self.texts c.step_forward-2.new.self.current =
    c.in-Some.ensures.text ∙ sym (ap (λ (t : Texts). text_at t.texts t.current) c.step_forward-2.ensures.texts) in
    let report : IsReport (text_at c.step_forward-2.new.self.texts c.step_forward-2.new.self.current) c.in-Some-search.search.finder rows =
    subst (λ t. IsReport t c.in-Some-search.search.finder rows) there c.in_ok-self-inside.ensures.report in
    let set : option_map (λ (s : Search). s.finder) c.self.inside.search ≡ Some c.in-Some-search.search.finder = ap (option_map (λ (s : Search). s.finder)) c.in-Some-search.is in (
      (
        subst (λ f. IsReport (text_at c.step_forward-2.new.self.texts c.step_forward-2.new.self.current) f rows) (sym c.step_over.ensures.finder) report,
        c.in_ok-self-inside.ensures.few,
      ),
      c.keep_before_change-2.ensures.holds,
      kept-forward history c.step_forward-2.new.self (text_of c.current-current.result.now) (text_of c.in-Some.version.now.text) c.in-Some-search.search.finder c.step_over.new.self.finder _ c.self.inside.kept
          c.step_over.new.kept c.next_step-step.result c.next_step-step.ensures set c.self.invariant.2 c.current-current.ensures.text c.in-Some.ensures.text c.in_ok-self-inside.ensures.kept
          (ap (λ (t : Texts). t.texts) c.step_forward-2.ensures.texts) (ap (λ (t : Texts). t.current) c.step_forward-2.ensures.texts) c.step_over.ensures.finder,
    )
