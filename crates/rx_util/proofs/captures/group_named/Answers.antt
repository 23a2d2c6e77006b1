use Rattle.std.proofs.Common.{sym, ◌∙◌, true≢false, arith}
use Rattle.rx_util.specs.Groups.{names_of}
use Rattle.rx_util.proofs.NameLemmas.{further_at, not_yet, none_named}
use Rattle.rx_util.proofs.captures.group_named.Goals as goal

pub returns-then-is_named : goal.returns-then-is_named
returns-then-is_named c =
    further_at c.args.groups.now c.loop-k.k c.index-groups-k.result c.loop-k-test.true c.index-groups-k.is ∙ c.is_named.ensures.0 c.if-is_named.true

pub loop-k-preserved : goal.loop-k-preserved
loop-k-preserved c =
    not_yet (names_of c.args.groups.now) c.args.name.now c.loop-k.k c.loop-k.invariant
    (λ named. true≢false (sym (c.is_named.ensures.1 (sym (further_at c.args.groups.now c.loop-k.k c.index-groups-k.result c.loop-k-test.true c.index-groups-k.is) ∙ named)) ∙ c.if-is_named.false))

pub returns : goal.returns
returns c = none_named c.args.groups.now c.args.name.now c.loop-k.k c.loop-k.invariant (omega (arith, c.loop-k-test.false))
