use Rattle.std.proofs.Common.{◌≡◌, Ok, refl, sym, ap, ◌∙◌, subst}
use Rattle.std.specs.Prelude.{Option, Some, option_map}
use Rattle.rope_search.specs.declared.search.Search.{Search}
use Rattle.rope_search.specs.Session.{BufferState, LimitedBuffer, current_text}
use Rattle.rope_search.specs.TextMatches.{AnswersNextAll, CopiesMatchesFrom}
use Rattle.rope_search.proofs.TextMatchLemmas.{found_told}
use Rattle.rope_search.proofs.buffer.Buffer.next_all.Goals as goal

pub returns-clause-answer : goal.returns-clause-answer
returns-clause-answer c =
    let history = c.self.inside.history in
    let finder = c.in-Some.search.finder in
    let count = c.in_ok-count.count in
    let out = c.args.out.now in
    let state : BufferState = record { texts = history.texts; current = history.current; pattern = Some finder } in
    let copies : CopiesMatchesFrom (current_text state) finder c.args.from count out c.next_all.new.out =
    subst (λ t. CopiesMatchesFrom t finder c.args.from count out c.next_all.new.out) c.current.ensures.text c.in_ok-count.ensures.found in
    let one : c.self.inside.search ≡ Some c.in-Some.search = c.in-Some.is in
    let same : state ≡ c.args.self.now.state =
    ap (λ (o : Option Search). record { texts = history.texts; current = history.current; pattern = option_map (λ (s : Search). s.finder) o }) (sym one)
    ∙ ap (λ (v : LimitedBuffer). v.state) c.self.view_is in
    subst (λ b. AnswersNextAll b c.args.from (Ok count) out c.next_all.new.out) same (found_told state finder c.args.from count out c.next_all.new.out refl copies)
