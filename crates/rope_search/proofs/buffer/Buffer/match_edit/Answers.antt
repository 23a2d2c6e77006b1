use Rattle.std.proofs.Common.{◌≡◌, Ok, Err, chars, refl, sym, ap, ◌∙◌, subst}
use Rattle.std.specs.Prelude.{Option, Some, option_map}
use Rattle.std.proofs.lemmas.Result.{err_from_is_err_and}
use Rattle.ropey.specs.Chunks.{text_of}
use Rattle.rope_search.specs.declared.search.Search.{Search}
use Rattle.rope_search.specs.MatchEdits.{AnswersEdit}
use Rattle.rope_search.specs.Session.{BufferState, LimitedBuffer, current_text}
use Rattle.rope_search.proofs.MatchAnswerLemmas.{answers-edit}
use Rattle.rope_search.proofs.buffer.Buffer.match_edit.Goals as goal

pub returns-in_err-edit-clause-answer : goal.returns-in_err-edit-clause-answer
returns-in_err-edit-clause-answer c =
    let history = c.self.inside.history in
    let finder = c.in-Some.search.finder in
    let state : BufferState = record { texts = history.texts; current = history.current; pattern = Some finder } in
    let one : c.self.inside.search ≡ Some c.in-Some.search = c.in-Some.is in
    let same : state ≡ c.args.self.now.state =
    ap (λ (o : Option Search). record { texts = history.texts; current = history.current; pattern = option_map (λ (s : Search). s.finder) o }) (sym one)
    ∙ ap (λ (v : LimitedBuffer). v.state) c.self.view_is in
    let is : c.args.self.now.state.pattern ≡ Some finder = ap (λ (b : BufferState). b.pattern) (sym same) in
    let text = text_of c.current-text.result.now in
    let here : text ≡ current_text c.args.self.now.state = c.current-text.ensures.text ∙ ap current_text same in
    let limit : c.self.inside.limits.text ≡ c.args.self.now.limit = ap (λ (v : LimitedBuffer). v.limit) c.self.view_is in
    let template = chars c.args.template.now in
    let told = c.match_edit.ensures in
    let answer =
    answers-edit c.self.inside.limits.text c.args.self.now.state finder text c.args.line c.args.number template c.match_edit.result is here
    told.edit told.utf8 told.there told.range told.size told.fault in
    let p = err_from_is_err_and c.from_residual.result c.from_residual.ensures.1 in
    rw (p.1, p.2) (subst (λ n. AnswersEdit n c.args.self.now.state c.args.line c.args.number template (Err c.in_err-edit.field-0.0)) limit
    (subst (λ r. AnswersEdit c.self.inside.limits.text c.args.self.now.state c.args.line c.args.number template r) c.in_err-edit.was answer))

pub returns-clause-answer : goal.returns-clause-answer
returns-clause-answer c =
    let history = c.self.inside.history in
    let finder = c.in-Some.search.finder in
    let state : BufferState = record { texts = history.texts; current = history.current; pattern = Some finder } in
    let one : c.self.inside.search ≡ Some c.in-Some.search = c.in-Some.is in
    let same : state ≡ c.args.self.now.state =
    ap (λ (o : Option Search). record { texts = history.texts; current = history.current; pattern = option_map (λ (s : Search). s.finder) o }) (sym one)
    ∙ ap (λ (v : LimitedBuffer). v.state) c.self.view_is in
    let is : c.args.self.now.state.pattern ≡ Some finder = ap (λ (b : BufferState). b.pattern) (sym same) in
    let text = text_of c.current-text.result.now in
    let here : text ≡ current_text c.args.self.now.state = c.current-text.ensures.text ∙ ap current_text same in
    let limit : c.self.inside.limits.text ≡ c.args.self.now.limit = ap (λ (v : LimitedBuffer). v.limit) c.self.view_is in
    let template = chars c.args.template.now in
    let told = c.match_edit.ensures in
    let answer =
    answers-edit c.self.inside.limits.text c.args.self.now.state finder text c.args.line c.args.number template c.match_edit.result is here
    told.edit told.utf8 told.there told.range told.size told.fault in
    subst (λ n. AnswersEdit n c.args.self.now.state c.args.line c.args.number template (Ok c.in_ok-edit.edit)) limit
    (subst (λ r. AnswersEdit c.self.inside.limits.text c.args.self.now.state c.args.line c.args.number template r) c.in_ok-edit.was answer)
