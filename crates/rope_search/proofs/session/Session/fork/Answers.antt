use Rattle.std.proofs.Common.{◌<◌, length, ap, sym, subst, ◌∙◌, arith}
use Rattle.std.specs.Vec.{vec_len}
use Rattle.rope_search.specs.Session.{LimitedBuffer, limit_in}
use Rattle.rope_search.proofs.HoldLemmas.{AllKept, kept_push, kept_limit, kept_holds, holds_forked}
use Rattle.rope_search.proofs.session.Session.fork.Goals as goal

pub invariant_of-self-2 : goal.invariant_of-self-2
invariant_of-self-2 c =
    let items = c.self.inside.buffers.items in
    let k = c.self.inside.chosen in
    let old = c.index.result.now in
    let new = c.in_ok-buffer.buffer in
    let inside : k < length items = omega (arith, c.self.inside.buffers.ok.0) in
    let kept : AllKept items (limit_in items k) = record { limits = c.self.invariant.1.0; texts = c.self.invariant.1.1 } in
    let told = c.in_ok-buffer.ensures.ok in
    let pushed = c.in_ok-push.ensures.items in
    let holds = holds_forked old.state new.state (kept_holds items k old inside c.index.ensures kept) (ap (λ (b : LimitedBuffer). b.state) told) in
    let all = kept_push items k new inside (ap (λ (b : LimitedBuffer). b.limit) told ∙ kept_limit items k old inside c.index.ensures kept) holds kept in
    let put = subst (λ bs. AllKept bs (limit_in bs k)) (sym pushed) all in
    let long : k < vec_len c.push.new.self = omega (arith, c.self.invariant.0, c.in_ok-push.ensures.len) in
    (long, (put.limits, put.texts))
