use Rattle.std.proofs.Common.{◌≡◌, ◌≤◌, ℕ, List, Err, chars, string_bytes, refl, sym, ap, subst, ◌∙◌, arith}
use Rattle.std.proofs.lemmas.Result.{err_from_is_err_and}
use Rattle.std.proofs.lemmas.Str.{encodes-chars}
use Rattle.rope_search_reports.specs.Text.{bytes_of}
use Rattle.rope_search.specs.Changed.{TellsAfter}
use Rattle.rope_search.specs.Cost.{Costs}
use Rattle.rope_search.specs.MatchEdits.{AnswersEdit, ListsNoMatch, ReplacesMatch, rows_for_groups}
use Rattle.rope_search.specs.Order.{EditText}
use Rattle.rope_search.specs.Session.{BufferState, LimitedSession, chosen_buffer}
use Rattle.rope_search.specs.Step.{Step}
use Rattle.rope_search.specs.TextsKept.{KeepsAfter}
use Rattle.rope_search.proofs.MatchAnswerLemmas.{err-same, of-any-edit, refused-edit}
use Rattle.rope_search.proofs.session.Session.replace_match.Goals as goal

pub returns-in_default-clause-utf8 : goal.returns-in_default-clause-utf8
returns-in_default-clause-utf8 c = λ some not broken.
    let is = c.buffer.ensures.state in
    ap Err (c.match_or.ensures.other (λ none. some (sym (ap (λ (b : BufferState). b.pattern) is) ∙ none)) (λ none. not (subst (λ b. ListsNoMatch b c.args.line c.args.number) is none)))

pub returns-in_err-made-clause-step : goal.returns-in_err-made-clause-step
returns-in_err-made-clause-step c = λ utf8 from to inserted is.
    let old = c.args.self.now in
    let template = chars c.args.template.now in
    let given : chars c.in-Ok.template.now ≡ template = ap chars c.in-Ok.ensures.cases.0 in
    let fault = c.in_err-made.field-0.0 in
    let told : AnswersEdit old.limit (chosen_buffer old.state) c.args.line c.args.number template (Err fault) =
    subst (λ t. AnswersEdit old.limit (chosen_buffer old.state) c.args.line c.args.number t (Err fault)) given c.in_err-made.ensures.answer in
    let step = refused-edit c.one_list_of_groups.ensures old.limit old.state c.args.line c.args.number template from to inserted fault is told in
    let p = err_from_is_err_and c.from_residual.result c.from_residual.ensures.1 in
    rw (p.1, p.2) (subst (λ (s : LimitedSession). Step old.limit old.state (EditText from to (bytes_of inserted)) (Err fault) s.state) (sym c.in_err-made.ensures.same) step)

pub returns-clause-step : goal.returns-clause-step
returns-clause-step c = λ utf8 from to inserted is.
    let old = c.args.self.now in
    let mid = c.match_edit.new.self in
    let same : mid ≡ old = c.in_ok-made.ensures.same in
    let made = c.in_ok-made.made in
    let answer = c.in_ok-made.ensures.answer in
    let put = chars (string_bytes made.inserted) in
    let template = chars c.args.template.now in
    let given : chars c.in-Ok.template.now ≡ template = ap chars c.in-Ok.ensures.cases.0 in
    let own : ReplacesMatch (chosen_buffer old.state) c.args.line c.args.number template made.from made.to put =
    subst (λ t. ReplacesMatch (chosen_buffer old.state) c.args.line c.args.number t made.from made.to put) given answer.edit in
    let payload = c.as_bytes.result.now in
    let spelled : payload ≡ bytes_of put =
    c.as_bytes.ensures.value ∙ c.as_str.ensures.value ∙ sym (encodes-chars (string_bytes made.inserted) answer.utf8) in
    let order = EditText made.from made.to payload in
    of-any-edit c.one_list_of_groups.ensures (chosen_buffer old.state) c.args.line c.args.number template made.from made.to from to put inserted
    (λ p q i. Step old.limit old.state (EditText p q (bytes_of i)) c.apply.result c.apply.new.self.state) own is
    (subst (λ (s : LimitedSession). Step s.limit s.state (EditText made.from made.to (bytes_of put)) c.apply.result c.apply.new.self.state) same
    (subst (λ b. Step mid.limit mid.state (EditText made.from made.to b) c.apply.result c.apply.new.self.state) spelled (c.apply.ensures.step order (refl, refl, refl))))

pub returns-clause-changed : goal.returns-clause-changed
returns-clause-changed c = λ from to inserted is.
    let old = c.args.self.now in
    let mid = c.match_edit.new.self in
    let same : mid ≡ old = c.in_ok-made.ensures.same in
    let made = c.in_ok-made.made in
    let answer = c.in_ok-made.ensures.answer in
    let put = chars (string_bytes made.inserted) in
    let template = chars c.args.template.now in
    let given : chars c.in-Ok.template.now ≡ template = ap chars c.in-Ok.ensures.cases.0 in
    let own : ReplacesMatch (chosen_buffer old.state) c.args.line c.args.number template made.from made.to put =
    subst (λ t. ReplacesMatch (chosen_buffer old.state) c.args.line c.args.number t made.from made.to put) given answer.edit in
    let payload = c.as_bytes.result.now in
    let spelled : payload ≡ bytes_of put =
    c.as_bytes.ensures.value ∙ c.as_str.ensures.value ∙ sym (encodes-chars (string_bytes made.inserted) answer.utf8) in
    let order = EditText made.from made.to payload in
    of-any-edit c.one_list_of_groups.ensures (chosen_buffer old.state) c.args.line c.args.number template made.from made.to from to put inserted
    (λ p q i. TellsAfter old.state (EditText p q (bytes_of i)) c.apply.result c.apply.new.self.state old.changed c.apply.new.self.changed) own is
    (subst (λ (s : LimitedSession). TellsAfter s.state (EditText made.from made.to (bytes_of put)) c.apply.result c.apply.new.self.state s.changed c.apply.new.self.changed) same
    (subst (λ b. TellsAfter mid.state (EditText made.from made.to b) c.apply.result c.apply.new.self.state mid.changed c.apply.new.self.changed) spelled
    (c.apply.ensures.changed order (refl, refl, refl))))

pub returns-clause-kept : goal.returns-clause-kept
returns-clause-kept c = λ from to inserted is.
    let old = c.args.self.now in
    let mid = c.match_edit.new.self in
    let same : mid ≡ old = c.in_ok-made.ensures.same in
    let made = c.in_ok-made.made in
    let answer = c.in_ok-made.ensures.answer in
    let put = chars (string_bytes made.inserted) in
    let template = chars c.args.template.now in
    let given : chars c.in-Ok.template.now ≡ template = ap chars c.in-Ok.ensures.cases.0 in
    let own : ReplacesMatch (chosen_buffer old.state) c.args.line c.args.number template made.from made.to put =
    subst (λ t. ReplacesMatch (chosen_buffer old.state) c.args.line c.args.number t made.from made.to put) given answer.edit in
    let payload = c.as_bytes.result.now in
    let spelled : payload ≡ bytes_of put =
    c.as_bytes.ensures.value ∙ c.as_str.ensures.value ∙ sym (encodes-chars (string_bytes made.inserted) answer.utf8) in
    let order = EditText made.from made.to payload in
    of-any-edit c.one_list_of_groups.ensures (chosen_buffer old.state) c.args.line c.args.number template made.from made.to from to put inserted
    (λ p q i. KeepsAfter old (EditText p q (bytes_of i)) c.apply.result c.apply.new.self) own is
    (subst (λ (s : LimitedSession). KeepsAfter s (EditText made.from made.to (bytes_of put)) c.apply.result c.apply.new.self) same
    (subst (λ b. KeepsAfter mid (EditText made.from made.to b) c.apply.result c.apply.new.self) spelled (c.apply.ensures.kept order (refl, refl, refl))))

pub returns-clause-err : goal.returns-clause-err
returns-clause-err c =
    let old = c.args.self.now in
    let mid = c.match_edit.new.self in
    let same : mid ≡ old = c.in_ok-made.ensures.same in
    let made = c.in_ok-made.made in
    let answer = c.in_ok-made.ensures.answer in
    let put = chars (string_bytes made.inserted) in
    let template = chars c.args.template.now in
    let given : chars c.in-Ok.template.now ≡ template = ap chars c.in-Ok.ensures.cases.0 in
    let own : ReplacesMatch (chosen_buffer old.state) c.args.line c.args.number template made.from made.to put =
    subst (λ t. ReplacesMatch (chosen_buffer old.state) c.args.line c.args.number t made.from made.to put) given answer.edit in
    let payload = c.as_bytes.result.now in
    let spelled : payload ≡ bytes_of put =
    c.as_bytes.ensures.value ∙ c.as_str.ensures.value ∙ sym (encodes-chars (string_bytes made.inserted) answer.utf8) in
    let order = EditText made.from made.to payload in
    let new = c.apply.new.self in
    err-same old new order c.apply.result
    (subst (λ (s : LimitedSession). Step s.limit s.state order c.apply.result new.state) same (c.apply.ensures.step order (refl, refl, refl)))
    (c.apply.ensures.limit ∙ ap (λ (s : LimitedSession). s.limit) same)
    (subst (λ (s : LimitedSession). TellsAfter s.state order c.apply.result new.state s.changed new.changed) same (c.apply.ensures.changed order (refl, refl, refl)))
    (subst (λ (s : LimitedSession). KeepsAfter s order c.apply.result new) same (c.apply.ensures.kept order (refl, refl, refl)))

pub returns-clause-rows : goal.returns-clause-rows
returns-clause-rows c = λ from to inserted cost is costs.
    let old = c.args.self.now in
    let mid = c.match_edit.new.self in
    let same : mid ≡ old = c.in_ok-made.ensures.same in
    let made = c.in_ok-made.made in
    let answer = c.in_ok-made.ensures.answer in
    let put = chars (string_bytes made.inserted) in
    let template = chars c.args.template.now in
    let given : chars c.in-Ok.template.now ≡ template = ap chars c.in-Ok.ensures.cases.0 in
    let own : ReplacesMatch (chosen_buffer old.state) c.args.line c.args.number template made.from made.to put =
    subst (λ t. ReplacesMatch (chosen_buffer old.state) c.args.line c.args.number t made.from made.to put) given answer.edit in
    let payload = c.as_bytes.result.now in
    let spelled : payload ≡ bytes_of put =
    c.as_bytes.ensures.value ∙ c.as_str.ensures.value ∙ sym (encodes-chars (string_bytes made.inserted) answer.utf8) in
    let order = EditText made.from made.to payload in
    let here : Costs old.limit old.state (EditText made.from made.to (bytes_of put)) cost =
    of-any-edit c.one_list_of_groups.ensures (chosen_buffer old.state) c.args.line c.args.number template from to made.from made.to inserted put
    (λ p q i. Costs old.limit old.state (EditText p q (bytes_of i)) cost) is own costs in
    let there : Costs mid.limit mid.state order cost =
    subst (λ (s : LimitedSession). Costs s.limit s.state order cost) (sym same)
    (subst (λ b. Costs old.limit old.state (EditText made.from made.to b) cost) (sym spelled) here) in
    let most = (c.apply.ensures.searches order (refl, refl, refl)).rows cost there in
    let first = c.in_ok-made.ensures.searches.count in
    omega (arith, most, first, ap rows_for_groups given)

pub returns-clause-grows : goal.returns-clause-grows
returns-clause-grows c =
    let order = EditText c.in_ok-made.made.from c.in_ok-made.made.to c.as_bytes.result.now in
    let up = (c.apply.ensures.searches order (refl, refl, refl)).never_fall.rows in
    let first = c.in_ok-made.ensures.searches.grows in
    omega (arith, up, first)

pub returns-clause-wholes : goal.returns-clause-wholes
returns-clause-wholes c =
    let order = EditText c.in_ok-made.made.from c.in_ok-made.made.to c.as_bytes.result.now in
    let s = c.apply.ensures.searches order (refl, refl, refl) in
    let low = s.never_fall.wholes in
    let high = s.wholes in
    let first = c.in_ok-made.ensures.searches.wholes in
    omega (arith, low, high, first)
