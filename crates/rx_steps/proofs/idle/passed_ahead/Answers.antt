use Rattle.std.proofs.Common.{◌-◌, ◌<◌, take, drop, length, sym, subst, arith}
use Rattle.rx_steps.specs.Idle.{IsPassedAt}
use Rattle.rx_steps.proofs.IdleLaws.{passed_in_piece, passed_first, some_left}
use Rattle.rx_steps.proofs.idle.passed_ahead.Goals as goal

pub returns-clause-passed : goal.returns-clause-passed
returns-clause-passed g c = λ k from to.
    passed_in_piece c.args.idle.now c.args.utf8_empty c.args.input.now.cursor c.args.input.now.position c.chunk_pos.result c.chunk.result.now c.min.result c.len_of.result k c.chunk.ensures.chunk c.chunk_pos.ensures from to c.len_of.ensures.passed

pub returns-clause-no_more : goal.returns-clause-no_more
returns-clause-no_more g c = λ none below here.
    let idle = c.args.idle.now in
    let b = c.args.utf8_empty in
    let input = c.args.input.now in
    let pos = c.chunk_pos.result in
    let piece = c.chunk.result.now in
    let holds = c.position.ensures.holds in
    let some = some_left idle b input.cursor input.position pos piece c.chunk.ensures.chunk c.chunk_pos.ensures holds here in
    let few : 0 < c.min.result = omega (arith, some, below, c.min.ensures, c.saturating_sub-left.ensures, c.position.ensures.position, c.last_place.ensures) in
    c.len_of.ensures.no_more (subst (λ k. IsPassedAt idle b (take c.min.result (take (length piece - pos) (drop pos piece))) k) (sym none)
    (passed_first idle b input.cursor input.position pos piece c.min.result c.chunk.ensures.chunk c.chunk_pos.ensures holds few here))
