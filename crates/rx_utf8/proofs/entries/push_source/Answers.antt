use Rattle.std.proofs.Common.{◌<◌, ◌≤◌, ◌++◌, [], ◌∷◌, cond, length, get_or, ap, ◌∙◌, arith}
use Rattle.std.proofs.Math.ListN.{length-set}
use Rattle.rx_utf8.specs.Subsets.{lists_of}
use Rattle.rx_utf8.proofs.ListLaws.{one_filled, all_passed}
use Rattle.rx_utf8.proofs.entries.push_source.Goals as goal

pub loop-byte-preserved : goal.loop-byte-preserved
loop-byte-preserved c =
    let lists = c.loop-byte.lists.items in
    let byte = c.loop-byte.byte in
    let inv = c.loop-byte.invariant in
    let within : byte < length lists = omega arith in
    let from : c.args.range.first ≤ byte = omega arith in
    record {
      len = length-set lists byte c.push.new.self ∙ inv.len;
      none = λ less. omega arith;
      lists = one_filled c.args.range.first byte c.args.source from lists (lists_of c.args.lists.now.items) c.index_mut.result.now c.push.new.self within c.index_mut.ensures.value c.in_ok-push.ensures.items inv.lists;
    }

pub returns-clause-lists : goal.returns-clause-lists
returns-clause-lists c = λ b. c.loop-byte.invariant.lists b
    ∙ ap (λ t. get_or (lists_of c.args.lists.now.items) b [] ++ cond t (c.args.source ∷ []) [])
    (all_passed c.args.range.first c.args.range.last c.loop-byte.byte b (omega arith) (omega arith) (λ h. omega arith) c.loop-byte.invariant.none)
