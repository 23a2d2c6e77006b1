use Rattle.std.proofs.Common.{◌≡◌, ◌≤◌, None, length, sym, ap, ◌∙◌, arith}
use Rattle.std.proofs.lemmas.List.{length-replicate}
use Rattle.regex_cursor.proofs.StrategyLaws.{no_slot, one_slot, some_given, two_slots}
use Rattle.regex_cursor.proofs.engines.meta.left.put_first.Goals as goal

pub returns-then-len-eq0 : goal.returns-then-len-eq0
returns-then-len-eq0 c =
    let n = length c.args.slots.now in
    let len : length c.clear_slots.new.slots ≡ n = ap length c.clear_slots.ensures.all ∙ length-replicate n None in
    no_slot n c.args.span c.clear_slots.new.slots c.clear_slots.ensures.all (sym len ∙ c.if-len-eq0.true)

pub returns-then-len-eq1 : goal.returns-then-len-eq1
returns-then-len-eq1 c =
    let n = length c.args.slots.now in
    let len : length c.clear_slots.new.slots ≡ n = ap length c.clear_slots.ensures.all ∙ length-replicate n None in
    one_slot n c.args.span c.clear_slots.new.slots c.clear_slots.ensures.all c.new.result (sym len ∙ c.if-len-eq1.true) (some_given c.new.result c.args.span.start c.requires.start c.new.ensures)

pub returns : goal.returns
returns c =
    let n = length c.args.slots.now in
    let len : length c.clear_slots.new.slots ≡ n = ap length c.clear_slots.ensures.all ∙ length-replicate n None in
    let two : 2 ≤ n = omega (arith, len, c.if-len-eq0.false, c.if-len-eq1.false) in
    two_slots n c.args.span c.clear_slots.new.slots c.new.result c.new-2.result c.clear_slots.ensures.all two
    (some_given c.new.result c.args.span.start c.requires.start c.new.ensures) (some_given c.new-2.result c.args.span.end c.requires.end c.new-2.ensures)
