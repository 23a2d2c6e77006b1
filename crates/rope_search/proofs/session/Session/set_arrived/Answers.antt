use Rattle.std.proofs.Common.{◌≡◌, ◌<◌, length, refl, ap, ◌∙◌, arith}
use Rattle.std.proofs.lemmas.Result.{err_from_is_err_and}
use Rattle.std.specs.Str.{chars}
use Rattle.ropey.specs.Chunks.{text_of}
use Rattle.rope_search.specs.Session.{with_text, limit_in}
use Rattle.rope_search_reports.proofs.PlaceLemmas.{rope-scalars}
use Rattle.rope_search.proofs.ArrivingLemmas.{Step-no_text, SearchesFor-nothing, searches_for_text}
use Rattle.rope_search.proofs.SessionLemmas.{Step-take_text, Chosen, Chosen-limit}
use Rattle.rope_search.proofs.HoldLemmas.{AllKept, kept_set, kept_limit, kept_holds, holds_text}
use Rattle.rope_search.proofs.ChangedLemmas.{tells}
use Rattle.rope_search.specs.Order.{SetText}
use Rattle.rope_search.specs.TextsKept.{KeepsOf}
use Rattle.rope_search.proofs.KeptLemmas.{keeps}
use Rattle.rope_search.proofs.session.Session.set_arrived.Goals as goal

pub returns-in_err-rope-clause-step : goal.returns-in_err-rope-clause-step
returns-in_err-rope-clause-step c = λ bytes arrives.
    let p = err_from_is_err_and c.from_residual.result c.from_residual.ensures.1 in
    rw (p.1, p.2) (Step-no_text c.args.self.now.limit c.args.self.now.state bytes _ (c.in_err-rope.ensures.within c.args.self.now.limit bytes arrives))

pub returns-in_err-rope-clause-searches : goal.returns-in_err-rope-clause-searches
returns-in_err-rope-clause-searches c = λ bytes arrives. SearchesFor-nothing c.args.self.now.limit c.args.self.now.state bytes c.args.tick.now

pub returns-clause-step : goal.returns-clause-step
returns-clause-step c = λ bytes arrives.
    let inside = c.self.inside in
    let old = c.index_mut.result.now in
    let chosen : Chosen inside.buffers.items inside.chosen (limit_in inside.buffers.items inside.chosen) old c.args.self.now =
    record { inside = omega (arith, inside.buffers.ok.0); is = c.index_mut.ensures.value; all = c.self.invariant.1.0; seen = c.self.view_is } in
    let is = c.in_ok-rope.ensures.within c.args.self.now.limit bytes arrives in
    let text : c.set_rope.new.self.state ≡ with_text old.state (chars bytes) = c.in_ok-set_rope.ensures.ok ∙ ap (λ t. with_text old.state t) is.2 in
    Step-take_text inside.buffers.items inside.chosen (limit_in inside.buffers.items inside.chosen) old c.set_rope.new.self bytes c.args.self.now
    chosen is.1 (omega (arith, is.0, Chosen-limit inside.buffers.items inside.chosen (limit_in inside.buffers.items inside.chosen) old c.args.self.now chosen)) text

pub returns-in_err-set_rope-clause-searches : goal.returns-in_err-set_rope-clause-searches
returns-in_err-set_rope-clause-searches c = λ bytes arrives.
    let inside = c.self.inside in
    let old = c.index_mut.result.now in
    let chosen : Chosen inside.buffers.items inside.chosen (limit_in inside.buffers.items inside.chosen) old c.args.self.now =
    record { inside = omega (arith, inside.buffers.ok.0); is = c.index_mut.ensures.value; all = c.self.invariant.1.0; seen = c.self.view_is } in
    let is = c.in_ok-rope.ensures.within c.args.self.now.limit bytes arrives in
    let told = c.set_rope.ensures in
    searches_for_text inside.buffers.items inside.chosen (limit_in inside.buffers.items inside.chosen) old bytes c.args.self.now _ c.args.tick.now c.set_rope.new.tick chosen is told.rows

pub returns-clause-searches : goal.returns-clause-searches
returns-clause-searches c = λ bytes arrives.
    let inside = c.self.inside in
    let old = c.index_mut.result.now in
    let chosen : Chosen inside.buffers.items inside.chosen (limit_in inside.buffers.items inside.chosen) old c.args.self.now =
    record { inside = omega (arith, inside.buffers.ok.0); is = c.index_mut.ensures.value; all = c.self.invariant.1.0; seen = c.self.view_is } in
    let is = c.in_ok-rope.ensures.within c.args.self.now.limit bytes arrives in
    let told = c.set_rope.ensures in
    searches_for_text inside.buffers.items inside.chosen (limit_in inside.buffers.items inside.chosen) old bytes c.args.self.now _ c.args.tick.now c.set_rope.new.tick chosen is told.rows

pub invariant_of-self-2 : goal.invariant_of-self-2
invariant_of-self-2 c =
    let items = c.self.inside.buffers.items in
    let k = c.self.inside.chosen in
    let new = c.set_rope.new.self in
    let inside : k < length items = omega (arith, c.self.inside.buffers.ok.0) in
    let kept : AllKept items (limit_in items k) = record { limits = c.self.invariant.1.0; texts = c.self.invariant.1.1 } in
    let told = c.set_rope.ensures in
    let is = rope-scalars c.in_ok-rope.rope c.len_bytes.ensures.cut.cut in
    let holds = holds_text c.index_mut.result.now.state new.state (text_of c.in_ok-rope.rope) (kept_holds items k c.index_mut.result.now inside c.index_mut.ensures.value kept) is (c.in_ok-set_rope.ensures.ok) in
    let all = kept_set items k new inside (told.limit ∙ kept_limit items k c.index_mut.result.now inside c.index_mut.ensures.value kept) holds kept in
    (c.self.invariant.0, (all.limits, all.texts))

pub returns-clause-changed : goal.returns-clause-changed
returns-clause-changed c = λ bytes arrives.
    let inside = c.self.inside in
    let old = c.index_mut.result.now in
    let limit = limit_in inside.buffers.items inside.chosen in
    let chosen : Chosen inside.buffers.items inside.chosen limit old c.args.self.now =
    record { inside = omega (arith, inside.buffers.ok.0); is = c.index_mut.ensures.value; all = c.self.invariant.1.0; seen = c.self.view_is } in
    tells (SetText bytes) inside.buffers.items inside.chosen limit old c.set_rope.new.self c.args.self.now chosen c.in_ok-set_rope.ensures.changed tt

pub returns-clause-kept : goal.returns-clause-kept
returns-clause-kept c = λ bytes arrives.
    let inside = c.self.inside in
    let old = c.index_mut.result.now in
    let limit = limit_in inside.buffers.items inside.chosen in
    let chosen : Chosen inside.buffers.items inside.chosen limit old c.args.self.now =
    record { inside = omega (arith, inside.buffers.ok.0); is = c.index_mut.ensures.value; all = c.self.invariant.1.0; seen = c.self.view_is } in
    let told = c.in_ok-set_rope.ensures in
    keeps (KeepsOf (SetText bytes)) inside.buffers.items inside.chosen limit old c.set_rope.new.self c.args.self.now _ chosen refl refl refl (told.changes, told.text_changes, told.whole, told.pending)
