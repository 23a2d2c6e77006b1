use Rattle.rope_search.proofs.HeaderLemmas.{no_space_more, no_space_all, space_ends, none_left}
use Rattle.rope_search.proofs.headers.len_to_space.Goals as goal

pub loop-at-init : goal.loop-at-init
loop-at-init c = tt

pub returns-then-byte-eq32-clause-before : goal.returns-then-byte-eq32-clause-before
returns-then-byte-eq32-clause-before c = c.loop-at.invariant

pub returns-then-byte-eq32-clause-behind : goal.returns-then-byte-eq32-clause-behind
returns-then-byte-eq32-clause-behind c = space_ends c.args.bytes.now c.loop-at.at c.loop-at-test.true c.if-byte-eq32.true

pub loop-at-preserved : goal.loop-at-preserved
loop-at-preserved c = no_space_more c.args.bytes.now c.loop-at.at c.loop-at-test.true c.if-byte-eq32.false c.loop-at.invariant

pub returns-clause-before : goal.returns-clause-before
returns-clause-before c = no_space_all c.args.bytes.now c.loop-at.at c.loop-at.invariant c.loop-at-test.false

pub returns-clause-behind : goal.returns-clause-behind
returns-clause-behind c = none_left c.args.bytes.now
