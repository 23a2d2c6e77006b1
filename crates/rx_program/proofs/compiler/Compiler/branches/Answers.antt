use Rattle.std.proofs.Common.{◌≡◌, ◌-◌, ◌<◌, suc, length, ap, ◌∙◌}
use Rattle.rx_grammar.specs.Subtrees.{subtrees_of}
use Rattle.rx_grammar.specs.Postorder.{tree_of}
use Rattle.rx_program.proofs.FactLaws.{known_any}
use Rattle.rx_program.proofs.DoneLaws.{one_less, branches_below, branches_done, no_branches_done}
use Rattle.rx_program.proofs.compiler.Compiler.branches.Goals as goal

pub returns-then-count-eq0-clause-done : goal.returns-then-count-eq0-clause-done
returns-then-count-eq0-clause-done c = no_branches_done (subtrees_of (tree_of c.args.hir.now)) c.args.self.now.states.items c.args.self.now.jobs.items c.args.count c.args.root c.args.next c.if-count-eq0.true

pub returns-clause-done : goal.returns-clause-done
returns-clause-done c =
    let parts = subtrees_of (tree_of c.args.hir.now) in
    let some : c.args.count ≡ suc (c.args.count - 1) = one_less c.args.count c.if-count-eq0.false in
    let below : c.args.root < length parts = branches_below parts c.args.count c.args.root c.args.next some c.requires in
    branches_done parts c.args.self.now.states.items c.args.self.now.jobs.items c.push.new.self.items c.push-2.new.self.items c.args.count c.args.root c.args.next some c.saturating_sub.result
    (c.saturating_sub.ensures ∙ ap (λ n. c.args.root - n) (known_any parts c.properties.result.now c.args.root _ c.properties.ensures below).extent)
    c.requires c.in_ok-push.ensures.items c.in_ok-push-2.ensures.items
