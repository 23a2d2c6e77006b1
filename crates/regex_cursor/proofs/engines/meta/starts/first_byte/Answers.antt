use Rattle.std.proofs.Common.{sym, ap, subst, ◌∙◌}
use Rattle.rx_util.specs.Anchoring.{is_anchored}
use Rattle.rx_steps.specs.Searching.{search_of}
use Rattle.regex_cursor.specs.Strategies.{BeginsFrom}
use Rattle.regex_cursor.proofs.LeftLaws.{from_start}
use Rattle.regex_cursor.proofs.StartLaws.{is_free, begins_at_member, begins_at_no_member}
use Rattle.regex_cursor.proofs.engines.meta.starts.first_byte.Goals as goal

pub returns-in-Some-find-clause-start : goal.returns-in-Some-find-clause-start
returns-in-Some-find-clause-start g c =
    let i = c.args.input.now in
    let vm = c.args.strategy.now.vm in
    let free = is_free i.asked.anchored (ap is_anchored (sym c.get_anchored.ensures) ∙ sym c.is_anchored.ensures ∙ c.if-not-is_anchored.true) in
    begins_at_member vm.program c.in-Some.bytes.now (search_of vm.utf8_empty i) c.in-Some.ensures.begin free c.in-Some-find.place c.in-Some-find.ensures.found

pub returns-in-None-clause-start : goal.returns-in-None-clause-start
returns-in-None-clause-start g c =
    let i = c.args.input.now in
    let vm = c.args.strategy.now.vm in
    let free = is_free i.asked.anchored (ap is_anchored (sym c.get_anchored.ensures) ∙ sym c.is_anchored.ensures ∙ c.if-not-is_anchored.true) in
    begins_at_no_member vm.program c.in-Some.bytes.now (search_of vm.utf8_empty i) c.in-Some.ensures.begin free c.in-None.ensures.found

pub returns-in_default-clause-start : goal.returns-in_default-clause-start
returns-in_default-clause-start g c =
    let s = search_of c.args.strategy.now.vm.utf8_empty c.args.input.now in
    subst (BeginsFrom c.args.strategy.now.vm.program s) (sym c.start.ensures) (from_start c.args.strategy.now.vm.program s c.requires.ordered)
