use Rattle.std.proofs.Common.{◌≡◌, drop, sym, ap, ap₂, subst, ◌∙◌}
use Rattle.rx_util.specs.declared.search.MatchKind.TheVariants.{LeftmostFirst}
use Rattle.rx_engine.specs.Engines.{Engine}
use Rattle.regex_cursor.specs.Linear.{AreBehind, passed_over}
use Rattle.regex_cursor.specs.Regexes.{search_by}
use Rattle.regex_cursor.proofs.LinearLaws.{behind_listed}
use Rattle.regex_cursor.proofs.ListingLaws.{have_room, list_of}
use Rattle.regex_cursor.proofs.engines.meta.linear.list_behind.Goals as goal

pub invariant_of-result : goal.invariant_of-result
invariant_of-result g c =
    let e = c.vm-vm.result.now in
    let i = c.args.input.now in
    let listed = c.in_ok-listed.listed.items in
    let all = list_of e c.program-program.result.now c.utf8_empty-inside.result i c.args.slot_len listed c.program-program.ensures.program c.utf8_empty-inside.ensures c.in_ok-listed.ensures.listed in
    have_room e c.args.slot_len (search_by e i) listed all

pub returns-clause-behind : goal.returns-clause-behind
returns-clause-behind g c = λ leftmost.
    let e = c.vm-vm.result.now in
    let i = c.args.input.now in
    let len = c.args.slot_len in
    let listed = c.in_ok-listed.listed.items in
    let all = list_of e c.program-program.result.now c.utf8_empty-inside.result i len listed c.program-program.ensures.program c.utf8_empty-inside.ensures c.in_ok-listed.ensures.listed in
    let kind : e.match_kind ≡ LeftmostFirst = ap (λ (x : Engine). x.match_kind) c.vm-vm.ensures ∙ leftmost in
    let taken : c.passed_at-taken.result ≡ passed_over i.asked.span.start listed = c.passed_at-taken.ensures ∙ ap₂ passed_over c.start-end.ensures c.deref.ensures.value in
    subst (λ (x : Engine). AreBehind x (search_by x i) i.asked.span.start len (drop c.passed_at-taken.result listed)) c.vm-vm.ensures
    (subst (λ k. AreBehind e (search_by e i) i.asked.span.start len (drop k listed)) (sym taken) (behind_listed e kind (search_by e i) len listed all))
