use Rattle.std.proofs.Common.{◌≡◌, ◌+◌, ◌*◌, ◌++◌, length, map, drop, ap₂, ◌∙◌, arith}
use Rattle.rx_grammar.specs.Trees.{numbers_of}
use Rattle.rx_grammar.specs.Postorder.{tree_of}
use Rattle.rx_program.specs.Code.{patterns_code}
use Rattle.rx_program.specs.Programs.{node_of}
use Rattle.rx_program.proofs.ManyLaws.{code_on, first_left, same_first, size_of_first, states_more, weights_on}
use Rattle.rx_program.proofs.compiler.Compiler.patterns.Goals as goal

pub pattern-requires-clause-room : goal.pattern-requires-clause-room
pattern-requires-clause-room c =
    let hirs = c.args.hirs.now in
    let trees = map (λ hir. tree_of hir.now) hirs in
    let k = c.loop-number.number in
    let first = first_left hirs (λ hir. tree_of hir.now) k c.index-hirs-number.result c.loop-number-test.true c.index-hirs-number.is in
    omega (arith, c.loop-number.invariant.room, weights_on (drop k trees) (drop (k + 1) trees) (tree_of c.index-hirs-number.result.now) first)

pub loop-number-preserved : goal.loop-number-preserved
loop-number-preserved c =
    let hirs = c.args.hirs.now in
    let trees = map (λ hir. tree_of hir.now) hirs in
    let before = c.args.self.now.states.items in
    let k = c.loop-number.number in
    let tree = tree_of c.index-hirs-number.result.now in
    let slots = c.loop-number.self.slots in
    let states = c.loop-number.self.states.items in
    let more = c.pattern.new.self.states.items in
    let first = first_left hirs (λ hir. tree_of hir.now) k c.index-hirs-number.result c.loop-number-test.true c.index-hirs-number.is in
    let again = first_left hirs (λ hir. tree_of hir.now) k c.index-hirs-number-in-loop-number.result c.loop-number-test.true c.index-hirs-number-in-loop-number.is in
    let same = same_first (tree_of c.index-hirs-number-in-loop-number.result.now) tree (drop k trees) (drop (k + 1) trees) (drop (k + 1) trees) again first in
    let slots_are : c.in-Some.slots ≡ slots + 2 * length (numbers_of tree) = c.in-Some.ensures.0 ∙ ap₂ (λ n t. n + 2 * length (numbers_of t)) c.in_ok-pattern.ensures.slots same in
    record {
      code = code_on slots c.in-Some.slots k states more (drop k trees) (drop (k + 1) trees) tree (map node_of before ++ patterns_code c.args.self.now.slots 0 trees (length before)) first
          c.in_ok-pattern.ensures.nodes slots_are c.loop-number.invariant.code;
      slots = c.in-Some.ensures.1;
      idle = c.in_ok-pattern.ensures.idle;
      room = omega (arith, c.loop-number.invariant.room, weights_on (drop k trees) (drop (k + 1) trees) tree first, size_of_first tree, states_more slots k states more tree c.in_ok-pattern.ensures.nodes);
      reads = c.in_ok-pattern.ensures.reads;
    }
