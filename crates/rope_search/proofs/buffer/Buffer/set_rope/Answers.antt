use Rattle.std.proofs.Common.{◌≡◌, ap, sym, ◌∙◌}
use Rattle.std.specs.Prelude.{is_some}
use Rattle.ropey.specs.Chunks.{text_of}
use Rattle.rope_search.specs.Session.{LimitedBuffer}
use Rattle.rope_search.specs.declared.buffer.Buffer.TheInside.{Inside}
use Rattle.rope_search.proofs.WholeLemmas.{replaces-text}
use Rattle.rope_search.proofs.buffer.Buffer.set_rope.Goals.{in-Some+in_ok-search, in_default}
use Rattle.rope_search.proofs.buffer.Buffer.set_rope.Goals as goal

pub returns-clause-changed : goal.returns-clause-changed
returns-clause-changed c =
    let history = c.self.inside.history in
    let new = c.in_ok-history.history in
    let some : is_some c.self.inside.search ≡ is_some c.match-self.self-inside.search = elim c.match-self.branch [
      | in-Some+in_ok-search w ↦ ap is_some w.in-Some.is ∙ sym (ap (λ (b : Inside). is_some b.search) w.self-inside-is)
      | in_default w ↦ sym (ap (λ (b : Inside). is_some b.search) w.self-inside-is)
    ] in
    replaces-text c.a_row_a_line.ensures history.texts new.texts history.current new.current c.self.inside.search c.match-self.self-inside.search c.args.self.now.state
    (text_of c.current-2.result.now) (text_of c.current-3.result.now) c.row_count-removed.result c.row_count-added.result c.whole-self-inside.result
    (ap (λ (v : LimitedBuffer). v.state) c.self.view_is) some c.current-2.ensures.text c.current-3.ensures.text c.row_count-removed.ensures c.row_count-added.ensures c.whole-self-inside.ensures
