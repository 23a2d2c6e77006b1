use Rattle.std.proofs.Common.{◌≡◌, true, [], length, drop, ap, ap₂, false, ◌∙◌, arith}
use Rattle.std.proofs.lemmas.List.{take_rest}
use Rattle.rx_grammar.specs.Settings.{with_flags}
use Rattle.rx_grammar.specs.Heads.{FlagsAfter}
use Rattle.rx_grammar.proofs.HeadLaws.{no_first_flags, no_flags, flags_on, no_later_flags, no_empty_flags, flags_off}
use Rattle.rx_grammar.proofs.groups.flag_changes.Goals.{then-count-eq0, else-count-eq0}
use Rattle.rx_grammar.proofs.groups.flag_changes.Goals as goal

pub returns-in_default : goal.returns-in_default
returns-in_default c = no_first_flags (rw c.new.ensures.items at (rw c.in_default.is at c.in_ok-on.ensures))

pub returns-in_default-eat : goal.returns-in_default-eat
returns-in_default-eat c =
    let read : FlagsAfter [] c.in-Some.on.items c.args.text.now c.in-Some.rest.now = rw c.new.ensures.items at (rw c.in-Some.is at c.in_ok-on.ensures) in
    elim c.if-count-eq0.branch [
      | then-count-eq0 w ↦ rw w.result-is (no_flags read c.in_default-eat.ensures (omega (arith, c.len-count.ensures, c.in-Some.on.ok.0, w.if-count-eq0.true)))
      | else-count-eq0 w ↦ rw w.result-is (flags_on read c.in_default-eat.ensures (λ none. w.if-count-eq0.false (omega (arith, c.len-count.ensures, c.in-Some.on.ok.0, none)))
          (c.with_flags-changed.ensures ∙ ap (with_flags true c.args.config.now) c.deref.ensures.value))
    ]

pub returns-in_default-2 : goal.returns-in_default-2
returns-in_default-2 c =
    let read : FlagsAfter [] c.in-Some.on.items c.args.text.now c.in-Some.rest.now = rw c.new.ensures.items at (rw c.in-Some.is at c.in_ok-on.ensures) in
    no_later_flags read c.in-Some-eat.ensures (rw c.in_default-2.is at c.in_ok-all.ensures)

pub returns-then-len-count : goal.returns-then-len-count
returns-then-len-count c =
    let read : FlagsAfter [] c.in-Some.on.items c.args.text.now c.in-Some.rest.now = rw c.new.ensures.items at (rw c.in-Some.is at c.in_ok-on.ensures) in
    let after : FlagsAfter c.in-Some.on.items c.in-Some-2.all.items c.in-Some-eat.behind.now c.in-Some-2.last.now = rw c.in-Some-2.is at c.in_ok-all.ensures in
    no_empty_flags read c.in-Some-eat.ensures after (omega (arith, c.len-count.ensures, c.in-Some.on.ok.0, c.in-Some-2.all.ok.0, c.len.ensures, c.if-len-count.true))

pub returns : goal.returns
returns c =
    let read : FlagsAfter [] c.in-Some.on.items c.args.text.now c.in-Some.rest.now = rw c.new.ensures.items at (rw c.in-Some.is at c.in_ok-on.ensures) in
    let after : FlagsAfter c.in-Some.on.items c.in-Some-2.all.items c.in-Some-eat.behind.now c.in-Some-2.last.now = rw c.in-Some-2.is at c.in_ok-all.ensures in
    let count : c.len-count.result ≡ length c.in-Some.on.items = omega (arith, c.len-count.ensures, c.in-Some.on.ok.0) in
    let cut = take_rest c.deref-2.result.now c.len-count.result in
    let list = cut ∙ ap₂ (λ n l. drop n l) count c.deref-2.ensures.value in
    flags_off read c.in-Some-eat.ensures after (λ same. c.if-len-count.false (omega (arith, c.len-count.ensures, c.in-Some.on.ok.0, c.in-Some-2.all.ok.0, c.len.ensures, same)))
    (c.with_flags.ensures ∙ ap₂ (λ a b. with_flags false a b) (c.with_flags-changed.ensures ∙ ap (with_flags true c.args.config.now) c.deref.ensures.value) list)
