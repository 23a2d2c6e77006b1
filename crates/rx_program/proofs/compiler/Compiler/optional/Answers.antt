use Rattle.std.proofs.Common.{◌≡◌, ◌+◌, ◌-◌, ◌*◌, ◌<◌, ◌^◌, suc, length, ap, ap₂, ◌∙◌, arith}
use Rattle.rx_grammar.specs.Subtrees.{subtrees_of}
use Rattle.rx_grammar.specs.Postorder.{tree_of}
use Rattle.rx_grammar.specs.Weights.{size_of}
use Rattle.rx_program.specs.Code.{entry_of, fork}
use Rattle.rx_program.specs.Jobs.{part_at}
use Rattle.rx_program.proofs.FactLaws.{known_any}
use Rattle.rx_program.proofs.DoneLaws.{one_less, optional_done, no_optional_done}
use Rattle.rx_program.proofs.compiler.Compiler.optional.Goals as goal

pub returns-then-count-eq0-clause-done : goal.returns-then-count-eq0-clause-done
returns-then-count-eq0-clause-done c = no_optional_done (subtrees_of (tree_of c.args.hir.now)) c.args.self.now.states.items c.args.self.now.jobs.items c.args.greedy c.args.count c.args.root c.args.next c.if-count-eq0.true

pub returns-clause-done : goal.returns-clause-done
returns-clause-done c =
    let parts = subtrees_of (tree_of c.args.hir.now) in
    let states = c.args.self.now.states in
    let s = size_of (part_at parts c.args.root) in
    let some : c.args.count ≡ suc (c.args.count - 1) = one_less c.args.count c.if-count-eq0.false in
    let room : length states.items + c.args.count * (1 + s) + 1 < 2 ^ 64 = c.requires.room in
    let small : s + 1 < 2 ^ 64 = omega (arith, room, ap (λ n. n * (1 + s)) some) in
    let len : c.len-inside.result ≡ length states.items = omega (arith, c.len-inside.ensures, states.ok.0) in
    optional_done parts states.items c.args.self.now.jobs.items c.push-2.new.self.items c.push-3.new.self.items c.args.count c.args.root c.args.next some c.args.greedy c.entry_of.result c.push.new.self.items c.fork.result
    c.in_ok-push.ensures.items (c.fork.ensures.node ∙ ap (λ n. fork c.args.greedy (n + 1) c.args.next) len) c.fork.ensures.reads
    (c.entry_of.ensures ∙ ap (λ n. entry_of (c.args.count - 1) n c.args.next) (ap₂ (λ a b. a + 1 + b) len ((known_any parts c.properties.result.now c.args.root _ c.properties.ensures c.requires.root).size small)))
    c.requires.root c.in_ok-push-2.ensures.items c.in_ok-push-3.ensures.items
