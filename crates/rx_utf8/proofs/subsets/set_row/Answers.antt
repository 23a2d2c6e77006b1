use Rattle.std.proofs.Common.{◌≡◌, ◌<◌, ◌+◌, [], length, get_or, refl, sym, subst, arith}
use Rattle.rx_utf8.specs.Subsets.{IsLeadOf, lists_of}
use Rattle.rx_utf8.proofs.ListLaws.{known_at, kept_on}
use Rattle.rx_utf8.proofs.SubsetLaws.{Led, led_push, led_skip}
use Rattle.rx_utf8.proofs.subsets.set_row.Goals.{in-Some+in_ok-push_byte, in_default}
use Rattle.rx_utf8.proofs.subsets.set_row.Goals as goal

pub loop-code-preserved : goal.loop-code-preserved
loop-code-preserved c =
    let sets = lists_of c.loop-code.subsets.sets.items in
    let sets' = lists_of c.lead.new.self.sets.items in
    let lists = lists_of c.args.lists.now in
    let to = c.loop-code.code in
    let inv = c.loop-code.invariant in
    let on = c.in_ok-next.ensures.kept in
    let within : to < length c.args.lists.now = omega arith in
    let at : get_or lists to [] ≡ c.deref.result.now = known_at c.args.lists.now c.args.lists.now to c.index-lists-code.result c.deref.result.now refl within c.index-lists-code.is c.deref.ensures.value in
    let lead : IsLeadOf sets' c.args.from (get_or lists to []) c.in_ok-next.field-0 = subst (λ xs. IsLeadOf sets' c.args.from xs c.in_ok-next.field-0) (sym at) c.in_ok-next.ensures.lead in
    let led : Led sets' c.args.from lists (to + 1) c.match-branch-2.row.items = elim c.match-branch-2.branch [
      | in-Some+in_ok-push_byte w ↦
          subst (λ row. Led sets' c.args.from lists (to + 1) row.items) (sym w.row-is)
          (led_push sets sets' c.args.from lists to c.loop-code.row.items w.push_byte.new.row.items w.in-Some.next on inv.led (subst (IsLeadOf sets' c.args.from (get_or lists to [])) w.in-Some.is lead)
          w.in_ok-push_byte.ensures.leads w.in_ok-push_byte.ensures.rises)
      | in_default w ↦
          subst (λ row. Led sets' c.args.from lists (to + 1) row.items) (sym w.row-is)
          (led_skip sets sets' c.args.from lists to c.loop-code.row.items on inv.led (subst (IsLeadOf sets' c.args.from (get_or lists to [])) w.in_default.is lead))
    ] in
    record { kept = kept_on (lists_of c.args.subsets.now.sets.items) sets sets' inv.kept on; led = led }
