use Rattle.std.proofs.Common.{◌≡◌, ◌-◌, ℕ, List, sym, subst, ◌∙◌, ap, arith}
use Rattle.ropey.specs.Chunks.{text_of}
use Rattle.rope_search_reports.specs.Turned.{Lead, listed, turned_changes}
use Rattle.rope_search_changes.specs.declared.Change.{Change}
use Rattle.rope_search.specs.Histories.{text_at, Texts}
use Rattle.rope_search.proofs.HistoryLemmas.{led-to}
use Rattle.std.specs.Prelude.{Option, Some, option_map}
use Rattle.rope_search.specs.declared.search.Search.{Search}
use Rattle.rope_search.specs.Session.{BufferState, LimitedBuffer, current_text}
use Rattle.rope_search.proofs.ChangedLemmas.{replaces-told}
use Rattle.rope_search.proofs.KeptRowLemmas.{kept-back, turns-back}
use Rattle.rope_search_reports.specs.Report.{IsReport}
use Rattle.rope_search.proofs.buffer.Buffer.undo.Goals as goal

pub turned-requires : goal.turned-requires
turned-requires c =
    let history = c.self.inside.history in
    let last = listed c.last_changes.result.now in
    let later : history.current ≡ 0 → ⊥ = λ none. absurd (let e = c.previous.ensures.none.1 none in let is = c.in-Some.is in cc) in
    let lead = led-to history.texts history.changes history.current c.current-current.ensures.led later c.current-current.ensures.inside in (
      text_at history.texts (history.current - 1),
      text_at history.texts history.current,
      subst (λ (cs : List Change). Lead cs (text_at history.texts (history.current - 1)) (text_at history.texts history.current)) (sym c.last_changes.ensures) lead,
    )

pub step_over-requires-clause-led : goal.step_over-requires-clause-led
step_over-requires-clause-led c =
    let history = c.self.inside.history in
    let last = listed c.last_changes.result.now in
    let before = text_at history.texts (history.current - 1) in
    let here = text_at history.texts history.current in
    let later : history.current ≡ 0 → ⊥ = λ none. absurd (let e = c.previous.ensures.none.1 none in let is = c.in-Some.is in cc) in
    let lead : Lead last before here =
    subst (λ (cs : List Change). Lead cs before here) (sym c.last_changes.ensures)
    (led-to history.texts history.changes history.current c.current-current.ensures.led later c.current-current.ensures.inside) in
    let back : Lead (turned_changes 0 0 last) here before = c.changes_lead_back.ensures last before here lead in
    let told : c.as_slice-changes.result.now ≡ turned_changes 0 0 last = c.as_slice-changes.ensures ∙ c.in_ok-changes.ensures.changes in
    subst (λ (cs : List Change). Lead cs (text_of c.current-current.result.now) (text_of c.in-Some.text.now)) (sym told)
    (subst (λ (t : List ℕ). Lead (turned_changes 0 0 last) t (text_of c.in-Some.text.now)) (sym c.current-current.ensures.text)
    (subst (λ (t : List ℕ). Lead (turned_changes 0 0 last) here t) (sym c.in-Some.ensures.text) back))

pub returns-clause-changed : goal.returns-clause-changed
returns-clause-changed c =
    let history = c.self.inside.history in
    let finder = c.in-Some-search.search.finder in
    let state : BufferState = record { texts = history.texts; current = history.current; pattern = Some finder } in
    let one : c.self.inside.search ≡ Some c.in-Some-search.search = c.in-Some-search.is in
    let same : state ≡ c.args.self.now.state =
    ap (λ (o : Option Search). record { texts = history.texts; current = history.current; pattern = option_map (λ (s : Search). s.finder) o }) (sym one)
    ∙ ap (λ (v : LimitedBuffer). v.state) c.self.view_is in
    let is : c.args.self.now.state.pattern ≡ Some finder = ap (λ (b : BufferState). b.pattern) (sym same) in
    let here : text_of c.current-current.result.now ≡ current_text c.args.self.now.state = c.current-current.ensures.text ∙ ap current_text same in
    let after : BufferState = record { texts = c.step_back-2.new.self.texts; current = c.step_back-2.new.self.current; pattern = Some c.step_over.new.self.finder } in
    let there : text_of c.in-Some.text.now ≡ current_text after = c.in-Some.ensures.text ∙ sym (ap (λ (t : Texts). text_at t.texts t.current) c.step_back-2.ensures.texts) in
    replaces-told c.args.self.now.state after finder (text_of c.current-current.result.now) (text_of c.in-Some.text.now) c.in_ok-self-inside.field-0
    is (ap Some c.step_over.ensures.finder) here there c.in_ok-self-inside.ensures.changed

pub step_over-requires-clause-kept : goal.step_over-requires-clause-kept
step_over-requires-clause-kept c =
    let history = c.self.inside.history in
    let set : option_map (λ (s : Search). s.finder) c.self.inside.search ≡ Some c.in-Some-search.search.finder = ap (option_map (λ (s : Search). s.finder)) c.in-Some-search.is in
    turns-back history (text_of c.current-current.result.now) (text_of c.in-Some.text.now) c.in-Some-search.search.finder _ c.self.inside.kept c.undo_steps-step.result (c.undo_steps-step.ensures) set c.self.invariant.2
    c.current-current.ensures.text c.in-Some.ensures.text

pub invariant_of-self-2 : goal.invariant_of-self-2
invariant_of-self-2 c =
    let history = c.self.inside.history in
    let later : history.current ≡ 0 → ⊥ = λ none. absurd (let e = c.previous.ensures.none.1 none in let is = c.in-Some.is in cc) in
    let rows = c.step_over.new.self.rows.items in
    let there : text_of c.in-Some.text.now ≡ text_at c.step_back-2.new.self.texts c.step_back-2.new.self.current =
    c.in-Some.ensures.text ∙ sym (ap (λ (t : Texts). text_at t.texts t.current) c.step_back-2.ensures.texts) in
    let report : IsReport (text_at c.step_back-2.new.self.texts c.step_back-2.new.self.current) c.in-Some-search.search.finder rows =
    subst (λ t. IsReport t c.in-Some-search.search.finder rows) there c.in_ok-self-inside.ensures.report in
    let set : option_map (λ (s : Search). s.finder) c.self.inside.search ≡ Some c.in-Some-search.search.finder = ap (option_map (λ (s : Search). s.finder)) c.in-Some-search.is in (
      (
        subst (λ f. IsReport (text_at c.step_back-2.new.self.texts c.step_back-2.new.self.current) f rows) (sym c.step_over.ensures.finder) report,
        c.in_ok-self-inside.ensures.few,
      ),
      c.keep_before_change-2.ensures.holds,
      kept-back history c.step_back-2.new.self (text_of c.current-current.result.now) (text_of c.in-Some.text.now) c.in-Some-search.search.finder c.step_over.new.self.finder _ c.self.inside.kept
          c.step_over.new.kept c.undo_steps-step.result (omega (arith, later)) (c.undo_steps-step.ensures) set c.self.invariant.2 c.current-current.ensures.text c.in-Some.ensures.text c.in_ok-self-inside.ensures.kept
          (ap (λ (t : Texts). t.texts) c.step_back-2.ensures.texts) (ap (λ (t : Texts). t.current) c.step_back-2.ensures.texts) c.step_over.ensures.finder,
    )
