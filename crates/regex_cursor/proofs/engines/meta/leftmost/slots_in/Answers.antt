use Rattle.std.proofs.Common.{◌≡◌, ◌<◌, ◌≤◌, ◌^◌, Some, IfSome, length, sym, ap, subst, ◌∙◌}
use Rattle.rx_util.specs.Search.{Found}
use Rattle.rx_util.specs.declared.search.Span.{Span}
use Rattle.rx_steps.specs.Searching.{answer_slots, search_of}
use Rattle.rx_literals.specs.Literals.{literal_match}
use Rattle.regex_cursor.specs.Backs.{EndsLast, IsWhole}
use Rattle.regex_cursor.proofs.BackLaws.{slots_told, whole_fits}
use Rattle.regex_cursor.proofs.OtherLaws.{half_elsewhere}
use Rattle.regex_cursor.proofs.StrategyLaws.{slots_length}
use Rattle.regex_cursor.proofs.engines.meta.leftmost.slots_in.Goals as goal

pub returns-then-not-is_first-clause-answer : goal.returns-then-not-is_first-clause-answer
returns-then-not-is_first-clause-answer g c =
    let re = c.args.strategy.now.vm in
    let i = c.args.input.now in
    let k = c.in-Some.pattern in
    let last : EndsLast re.program re.utf8_empty i k = subst (λ o. IfSome o (EndsLast re.program re.utf8_empty i)) c.in-Some.is c.requires.known in
    half_elsewhere re c.requires.first c.vm-vm.ensures.engine (search_of re.utf8_empty i) (record { pattern = k; offset = i.asked.span.end }) i.asked.earliest (length c.args.slots.now) c.args.slots.now last
    (c.is_first.ensures.other c.if-not-is_first.true) (c.asks_whole.ensures c.if-not-asks_whole.false) c.requires.clear

pub whole_match-requires-clause-known : goal.whole_match-requires-clause-known
whole_match-requires-clause-known g c =
    let re = c.args.strategy.now.vm in
    subst (λ o. IfSome o (EndsLast re.program re.utf8_empty c.args.input.now)) c.in-Some.is c.requires.known

pub put_match-requires : goal.put_match-requires
put_match-requires g c =
    let re = c.args.strategy.now.vm in
    let i = c.args.input.now in
    let whole = subst (λ o. IfSome o (IsWhole re.program re.utf8_empty i)) c.in-Some-2.is c.in_ok-found.ensures.whole in
    let fits = whole_fits re.program re.utf8_empty i c.in-Some-2.found c.whole_match.ensures.bound whole in
    record { start = subst (λ (x : Span). x.start < 2 ^ 63) (sym c.span.ensures.span) fits.0; end = subst (λ (x : Span). x.end < 2 ^ 63) (sym c.span.ensures.span) fits.1 }

pub returns-in-Some-2-clause-answer : goal.returns-in-Some-2-clause-answer
returns-in-Some-2-clause-answer g c =
    let re = c.args.strategy.now.vm in
    let i = c.args.input.now in
    let found = c.in-Some-2.found in
    let n = length c.args.slots.now in
    let whole = subst (λ o. IfSome o (IsWhole re.program re.utf8_empty i)) c.in-Some-2.is c.in_ok-found.ensures.whole in
    let pattern : found.pattern ≡ c.in-Some.pattern = subst (λ o. IfSome o (λ (m : Found). m.pattern ≡ c.in-Some.pattern)) c.in-Some-2.is c.in_ok-found.ensures.pattern in
    let zero_is : found.pattern ≡ 0 = pattern ∙ c.is_first.ensures.first c.if-not-is_first.false in
    let slots_are : c.put_match.new.slots ≡ answer_slots n (Some (literal_match found.span)) = c.put_match.ensures ∙ ap (λ (x : Span). answer_slots n (Some (literal_match x))) c.span.ensures.span in
    let len : length c.put_match.new.slots ≡ n = ap length slots_are ∙ slots_length 0 n (literal_match found.span).notes in
    let few : n ≤ 2 = c.asks_whole.ensures c.if-not-asks_whole.false in
    slots_told re c.requires.first (search_of re.utf8_empty i) found c.vm-vm.ensures.engine i.asked.earliest c.put_match.new.slots n few len zero_is slots_are whole
