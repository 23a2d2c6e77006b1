use Rattle.std.proofs.Common.{◌≡◌, ◌+◌, ◌*◌, ◌<◌, None, Some, length, sym, subst, ap, ◌∙◌, arith}
use Rattle.std.specs.Prelude.{◌^◌, SomeIff, slice_set}
use Rattle.std.proofs.lemmas.List.{length-replicate}
use Rattle.rx_steps.specs.SearchingAll.{pattern_match}
use Rattle.rx_steps.specs.Searching.{answer_slots}
use Rattle.rx_chunk.specs.Engines.{noted_whole}
use Rattle.rx_chunk.proofs.WholeLaws.{no_slot, one_slot, some_given, two_slots}
use Rattle.rx_chunk.proofs.pikevm.all.put_whole.Goals as goal

pub returns-then-number-len : goal.returns-then-number-len
returns-then-number-len c =
    let n = length c.args.slots.now in
    let len : length c.clear_slots.new.slots ≡ n = ap length c.clear_slots.ensures.all ∙ length-replicate n None in
    no_slot (pattern_match c.args.found) n c.clear_slots.new.slots c.clear_slots.ensures.all (omega (arith, len, c.pattern.ensures, c.as_usize-number.ensures, c.if-number-len.true))

pub returns-then-number-len-2 : goal.returns-then-number-len-2
returns-then-number-len-2 c =
    let n = length c.args.slots.now in
    let len : length c.clear_slots.new.slots ≡ n = ap length c.clear_slots.ensures.all ∙ length-replicate n None in
    no_slot (pattern_match c.args.found) n c.clear_slots.new.slots c.clear_slots.ensures.all (omega (arith, len, c.pattern.ensures, c.as_usize-number.ensures, c.if-number-len-2.true))

pub returns-then-number-len-3 : goal.returns-then-number-len-3
returns-then-number-len-3 c =
    let n = length c.args.slots.now in
    let a = pattern_match c.args.found in
    let number : a.pattern ≡ c.as_usize-number.result = sym c.pattern.ensures ∙ sym c.as_usize-number.ensures in
    let len : length c.clear_slots.new.slots ≡ n = ap length c.clear_slots.ensures.all ∙ length-replicate n None in
    let start = some_given c.new.result a.start c.requires.start (subst (λ k. SomeIff c.new.result (k + 1 < 2 ^ 64) k) c.start.ensures.start c.new.ensures) in
    subst (λ k. slice_set c.clear_slots.new.slots (2 * k) c.new.result ≡ answer_slots n (Some (noted_whole a))) number
    (one_slot a n c.clear_slots.new.slots c.clear_slots.ensures.all c.new.result (omega (arith, len, number, c.if-number-len-2.false)) (omega (arith, len, number, c.if-number-len-3.true)) start)

pub returns : goal.returns
returns c =
    let n = length c.args.slots.now in
    let a = pattern_match c.args.found in
    let number : a.pattern ≡ c.as_usize-number.result = sym c.pattern.ensures ∙ sym c.as_usize-number.ensures in
    let len : length c.clear_slots.new.slots ≡ n = ap length c.clear_slots.ensures.all ∙ length-replicate n None in
    let start = some_given c.new.result a.start c.requires.start (subst (λ k. SomeIff c.new.result (k + 1 < 2 ^ 64) k) c.start.ensures.start c.new.ensures) in
    let end = some_given c.new-2.result a.end c.requires.end (subst (λ k. SomeIff c.new-2.result (k + 1 < 2 ^ 64) k) c.end.ensures.end c.new-2.ensures) in
    subst (λ k. slice_set (slice_set c.clear_slots.new.slots (2 * k) c.new.result) (2 * k + 1) c.new-2.result ≡ answer_slots n (Some (noted_whole a))) number
    (two_slots a n c.clear_slots.new.slots c.clear_slots.ensures.all c.new.result c.new-2.result (omega (arith, len, number, c.if-number-len-3.false)) start end)
