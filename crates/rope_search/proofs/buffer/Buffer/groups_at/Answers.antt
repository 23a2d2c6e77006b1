use Rattle.std.proofs.Common.{◌≡◌, Ok, refl, sym, ap, ◌∙◌, subst}
use Rattle.std.specs.Prelude.{Option, Some, option_map}
use Rattle.rope_search.specs.declared.search.Search.{Search}
use Rattle.rope_search.specs.Session.{BufferState, LimitedBuffer, current_text}
use Rattle.rope_search.specs.GroupsAt.{AnswersGroups, TellsGroupsIn}
use Rattle.rope_search.proofs.GroupsAtLemmas.{groups_told}
use Rattle.rope_search.proofs.buffer.Buffer.groups_at.Goals as goal

pub returns-clause-answer : goal.returns-clause-answer
returns-clause-answer c =
    let history = c.self.inside.history in
    let finder = c.in-Some.search.finder in
    let groups = c.in_ok-groups.groups in
    let state : BufferState = record { texts = history.texts; current = history.current; pattern = Some finder } in
    let tells : TellsGroupsIn (current_text state) finder c.args.line c.args.number (Some groups) =
    subst (λ t. TellsGroupsIn t finder c.args.line c.args.number (Some groups)) c.current.ensures.text c.in_ok-groups.ensures.told in
    let one : c.self.inside.search ≡ Some c.in-Some.search = c.in-Some.is in
    let same : state ≡ c.args.self.now.state =
    ap (λ (o : Option Search). record { texts = history.texts; current = history.current; pattern = option_map (λ (s : Search). s.finder) o }) (sym one)
    ∙ ap (λ (v : LimitedBuffer). v.state) c.self.view_is in
    subst (λ b. AnswersGroups b c.args.line c.args.number (Ok groups)) same (groups_told state finder c.args.line c.args.number groups refl tells)
