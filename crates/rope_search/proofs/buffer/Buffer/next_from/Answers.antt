use Rattle.std.proofs.Common.{◌≡◌, refl, sym, ap, ◌∙◌, subst}
use Rattle.std.specs.Prelude.{Option, Some, option_map}
use Rattle.rope_search.specs.declared.search.Search.{Search}
use Rattle.rope_search.specs.Session.{BufferState, LimitedBuffer, current_text}
use Rattle.rope_search.specs.Finding.{TellsIn, TellsPositions}
use Rattle.rope_search.proofs.NextLemmas.{told_in}
use Rattle.rope_search.proofs.buffer.Buffer.next_from.Goals as goal

pub returns-clause-found : goal.returns-clause-found
returns-clause-found c =
    let history = c.self.inside.history in
    let finder = c.in-Some.search.finder in
    let found = c.in_ok-found.found in
    let state : BufferState = record { texts = history.texts; current = history.current; pattern = Some finder } in
    let tells : TellsIn (current_text state) finder c.args.from found = subst (λ t. TellsIn t finder c.args.from found) c.current.ensures.text c.in_ok-found.ensures.found in
    let one : c.self.inside.search ≡ Some c.in-Some.search = c.in-Some.is in
    let same : state ≡ c.args.self.now.state =
    ap (λ (o : Option Search). record { texts = history.texts; current = history.current; pattern = option_map (λ (s : Search). s.finder) o }) (sym one)
    ∙ ap (λ (v : LimitedBuffer). v.state) c.self.view_is in
    subst (λ b. TellsPositions b c.args.from found) same (told_in state finder c.args.from found refl tells)
