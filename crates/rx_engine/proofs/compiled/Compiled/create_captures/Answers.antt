use Rattle.std.proofs.Common.{◌*◌, ◌≤◌, IfOk, length, subst}
use Rattle.rx_engine.proofs.BuildLaws.{Beside, engine_of, room_for_matches, if_ok}
use Rattle.rx_engine.proofs.compiled.Compiled.create_captures.Goals as goal

pub returns-clause-room : goal.returns-clause-room
returns-clause-room c =
    let vm = c.self.inside in
    let beside : Beside = record {
      match_kind = vm.match_kind;
      groups = vm.groups;
      which_captures = vm.which_captures;
      captures_len = vm.captures_len;
      static_captures_len = vm.static_captures_len;
      utf8_empty = vm.utf8_empty;
    } in
    subst (λ e. IfOk c.all.result (λ caps. 2 * length e.groups ≤ length caps.slots)) c.self.view_is
    (if_ok c.all.result (λ caps is. room_for_matches (engine_of vm.program.value beside) caps is) c.all.ensures.made)
