use Rattle.std.proofs.Common.{◌∙◌, ap}
use Rattle.std.proofs.lemmas.Result.{err_from_is_err_and}
use Rattle.rope_search.specs.Session.{LimitedSession}
use Rattle.rope_search.proofs.TurnLemmas.{SoFar-none, SoFar-push}
use Rattle.rope_search.proofs.RunEndings.{Ran-broken, Ran-unclosed, Ran-answered, TakesTurn-at, Turned-at}
use Rattle.rope_search.proofs.runs.run_turns.Goals as goal

pub loop-session-init : goal.loop-session-init
loop-session-init g c = (
  c.new-write_buffer.ensures,
  ap (λ (s : LimitedSession). s.limit) c.in-Ok.ensures.ok,
  rw (c.in-Ok.ensures.ok, c.new-read_buffer.ensures) (SoFar-none _ _),
)

pub returns-in_err-turn : goal.returns-in_err-turn
returns-in_err-turn g c =
    let p = err_from_is_err_and c.from_residual.result c.from_residual.ensures.1 in
    let so = c.loop-session.invariant in
    rw (p.1, p.2) (Ran-broken c.known.ensures c.has_report.ensures _ _ _ _ _ _ _ so.2 (TakesTurn-at _ _ _ _ _ so.1 c.in_err-turn.ensures.taken))

pub returns-in_err-close-in-Some : goal.returns-in_err-close-in-Some
returns-in_err-close-in-Some g c =
    let p = err_from_is_err_and c.from_residual-in_err-close-in-Some.result c.from_residual-in_err-close-in-Some.ensures.1 in
    let so = c.loop-session.invariant in
    let end = rw c.in-Some.is at c.in_ok-turn.ensures.taken in
    rw (p.1, p.2) (Ran-unclosed _ _ _ _ _ _ _ _ _ so.2 end.0 end.1 c.in_err-close-in-Some.ensures)

pub returns-in-Some : goal.returns-in-Some
returns-in-Some g c =
    let so = c.loop-session.invariant in
    let end = rw c.in-Some.is at c.in_ok-turn.ensures.taken in
    Ran-answered _ _ _ _ _ _ _ _ so.2 end.0 end.1 c.in_ok-close-in-Some.ensures

pub loop-session-preserved : goal.loop-session-preserved
loop-session-preserved g c =
    let so = c.loop-session.invariant in
    let turned = Turned-at _ _ _ _ so.1 (rw c.in-None.is at c.in_ok-turn.ensures.taken) in
    (c.in_ok-turn.ensures.empty, c.in_ok-turn.ensures.limit ∙ so.1, SoFar-push _ _ _ _ so.2 turned)
