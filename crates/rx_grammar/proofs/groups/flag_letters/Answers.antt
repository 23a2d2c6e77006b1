use denote.Enum.Bare.{same_true, same_false}
use Rattle.std.proofs.Common.{rules, arith}
use Rattle.rx_grammar.specs.contracts.flags.Flag.{the_type}
use Rattle.rx_grammar.proofs.HeadLaws.{ReadFlags-more, ReadFlags-end, ReadFlags-twice}
use Rattle.rx_grammar.proofs.groups.flag_letters.Goals as goal

pub returns-then-contains : goal.returns-then-contains
returns-then-contains c =
    let found = rw c.deref.ensures.value at c.if-contains.ensures.cases in
    ReadFlags-twice found.0 c.in-Some.flag c.loop-flag.invariant c.in-Some.ensures found.1 (same_true the_type (search rules) _ _ (found.2 c.in-Some.flag))

pub loop-flag-preserved : goal.loop-flag-preserved
loop-flag-preserved c =
    let found = rw c.deref.ensures.value at c.if-contains.ensures.cases in
    ReadFlags-more c.loop-flag.invariant c.in-Some.ensures c.in_ok-push.ensures.items (λ k d lt. same_false the_type _ _ (found k d (omega arith) lt))

pub returns : goal.returns
returns c = ReadFlags-end c.loop-flag.invariant c.in_default.ensures
