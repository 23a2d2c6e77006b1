use Rattle.std.proofs.Common.{◌≡◌, ◌+◌, ◌-◌, ◌<◌, ◌≤◌, ◌^◌, suc, length, sym, ap, subst, ◌∙◌, arith}
use Rattle.rx_grammar.specs.Subtrees.{subtrees_of}
use Rattle.rx_grammar.specs.Postorder.{tree_of}
use Rattle.rx_grammar.specs.Weights.{size_of}
use Rattle.rx_program.specs.Jobs.{part_at}
use Rattle.rx_program.proofs.FactLaws.{known_any}
use Rattle.rx_program.proofs.DoneLaws.{one_less, row_sizes, row_done_from, no_row_done}
use Rattle.rx_program.proofs.compiler.Compiler.row.Goals as goal

pub returns-then-count-eq0-clause-done : goal.returns-then-count-eq0-clause-done
returns-then-count-eq0-clause-done c = no_row_done (subtrees_of (tree_of c.args.hir.now)) c.args.self.now.states.items c.args.self.now.jobs.items c.args.count c.args.root c.args.size c.args.next c.if-count-eq0.true

pub overflow_sub-before : goal.overflow_sub-before
overflow_sub-before c =
    let parts = subtrees_of (tree_of c.args.hir.now) in
    let some : c.args.count ≡ suc (c.args.count - 1) = one_less c.args.count c.if-count-eq0.false in
    let sizes = row_sizes parts c.args.count c.args.root c.args.size c.args.next some c.requires.job in
    let small : size_of (part_at parts c.args.root) + 1 < 2 ^ 64 = omega (arith, sizes.1, c.requires.room) in
    subst (λ n. n ≤ c.args.size) (sym ((known_any parts c.properties.result.now c.args.root _ c.properties.ensures sizes.0).size small)) sizes.1

pub returns-clause-done : goal.returns-clause-done
returns-clause-done c =
    let parts = subtrees_of (tree_of c.args.hir.now) in
    let states = c.args.self.now.states in
    let some : c.args.count ≡ suc (c.args.count - 1) = one_less c.args.count c.if-count-eq0.false in
    let sizes = row_sizes parts c.args.count c.args.root c.args.size c.args.next some c.requires.job in
    let small : size_of (part_at parts c.args.root) + 1 < 2 ^ 64 = omega (arith, sizes.1, c.requires.room) in
    let len : c.len.result ≡ length states.items = omega (arith, c.len.ensures, states.ok.0) in
    row_done_from parts states.items c.args.self.now.jobs.items c.push.new.self.items c.push-2.new.self.items c.args.count c.args.root c.args.next some c.saturating_sub.result _ c.len.result
    (c.saturating_sub.ensures ∙ ap (λ n. c.args.root - n) (known_any parts c.properties.result.now c.args.root _ c.properties.ensures sizes.0).extent)
    c.args.size (ap (λ n. c.args.size - n) ((known_any parts c.properties.result.now c.args.root _ c.properties.ensures sizes.0).size small)) len
    c.requires.job c.in_ok-push.ensures.items c.in_ok-push-2.ensures.items
