use Rattle.std.proofs.Common.{◌≡◌, ℕ, ◌+◌, ◌-◌, ◌*◌, ◌<◌, ◌≤◌, ◌^◌, length, sym, ap, ap₂, ◌∙◌, arith}
use Rattle.rx_grammar.specs.Subtrees.{subtrees_of}
use Rattle.rx_grammar.specs.Postorder.{tree_of}
use Rattle.rx_grammar.specs.Weights.{size_of}
use Rattle.rx_program.specs.Code.{entry_of, fork}
use Rattle.rx_program.specs.Jobs.{part_at}
use Rattle.rx_program.proofs.FactLaws.{known_any}
use Rattle.rx_program.proofs.RepeatLaws.{part_fits, part_fits_on, times_done, from_done, optional_loop_done, loop_done}
use Rattle.rx_program.proofs.compiler.Compiler.repetition.Goals as goal

above_zero : (n : ℕ) → (n ≡ 0 → ⊥) → 0 < n
above_zero n e = omega (arith, e)

pub returns-in_ok-push-in-Some-2-clause-done : goal.returns-in_ok-push-in-Some-2-clause-done
returns-in_ok-push-in-Some-2-clause-done c =
    let parts = subtrees_of (tree_of c.args.hir.now) in
    let states = c.args.self.now.states in
    let rep = c.args.repetition in
    let s = size_of (part_at parts c.args.root) in
    let below : c.args.root < length parts = omega (arith, c.requires.root) in
    let test = rw c.in-Some.is at c.in-Some.most-test.1 in
    let some : 0 < c.in-Some.most = above_zero c.in-Some.most test in
    let fits : s ≤ size_of (part_at parts (c.args.root + 1)) = omega (arith, part_fits rep (part_at parts c.args.root) c.in-Some.most c.in-Some.is some, ap size_of c.requires.is) in
    let small : s + 1 < 2 ^ 64 = omega (arith, fits, c.requires.room) in
    let len : c.len-at.result ≡ length states.items = omega (arith, c.len-at.ensures, states.ok.0) in
    times_done parts states.items c.args.self.now.jobs.items c.push-in-Some.new.self.items c.push-in-Some-2.new.self.items c.args.root c.args.next rep c.requires.is below
    c.in-Some.most c.entry_of-on.result c.saturating_sub-further.result c.in-Some.is some c.saturating_sub-further.ensures
    (c.entry_of-on.ensures ∙ ap (λ n. entry_of c.saturating_sub-further.result n c.args.next) (ap₂ (λ a b. a + c.args.repetition.min * b) len ((known_any parts c.properties.result.now c.args.root _ c.properties.ensures below).size small)))
    c.in_ok-push-in-Some.ensures.items c.in_ok-push-in-Some-2.ensures.items

pub returns-in_ok-push-in-None-2-clause-done : goal.returns-in_ok-push-in-None-2-clause-done
returns-in_ok-push-in-None-2-clause-done c =
    let parts = subtrees_of (tree_of c.args.hir.now) in
    let states = c.args.self.now.states in
    let rep = c.args.repetition in
    let s = size_of (part_at parts c.args.root) in
    let below : c.args.root < length parts = omega (arith, c.requires.root) in
    let fits : s ≤ size_of (part_at parts (c.args.root + 1)) = omega (arith, part_fits_on rep (part_at parts c.args.root) c.in-None.is, ap size_of c.requires.is) in
    let small : s + 1 < 2 ^ 64 = omega (arith, fits, c.requires.room) in
    let len : c.len-at.result ≡ length states.items = omega (arith, c.len-at.ensures, states.ok.0) in
    from_done parts states.items c.args.self.now.jobs.items c.push-in-None.new.self.items c.push-in-None-2.new.self.items c.args.root c.args.next rep c.requires.is below
    _ _ c.fork-back.result c.in-None.is c.if-least-gt0.true
    (ap₂ (λ a b. a + (c.args.repetition.min - 1) * b) len ((known_any parts c.properties.result.now c.args.root _ c.properties.ensures below).size small))
    (ap₂ (λ a b. a + c.args.repetition.min * b) len ((known_any parts c.properties.result.now c.args.root _ c.properties.ensures below).size small))
    c.fork-back.ensures.node c.fork-back.ensures.reads c.in_ok-push-in-None.ensures.items c.in_ok-push-in-None-2.ensures.items

pub returns-in_ok-push-in-None-2-4-clause-done : goal.returns-in_ok-push-in-None-2-4-clause-done
returns-in_ok-push-in-None-2-4-clause-done c =
    let parts = subtrees_of (tree_of c.args.hir.now) in
    let states = c.args.self.now.states in
    let rep = c.args.repetition in
    let s = size_of (part_at parts c.args.root) in
    let below : c.args.root < length parts = omega (arith, c.requires.root) in
    let fits : s ≤ size_of (part_at parts (c.args.root + 1)) = omega (arith, part_fits_on rep (part_at parts c.args.root) c.in-None.is, ap size_of c.requires.is) in
    let small : s + 1 < 2 ^ 64 = omega (arith, fits, c.requires.room) in
    let len : c.len-at.result ≡ length states.items = omega (arith, c.len-at.ensures, states.ok.0) in
    let none : rep.min ≡ 0 = omega (arith, c.if-least-gt0.false) in
    optional_loop_done parts states.items c.args.self.now.jobs.items c.push-in-None-2-3.new.self.items c.push-in-None-2-4.new.self.items c.args.root c.args.next rep c.requires.is below
    c.push-in-None-2-2.new.self.items c.fork.result c.fork-back-in-None-2.result _ c.in-None.is none
    (sym (known_any parts c.properties.result.now c.args.root _ c.properties.ensures below).may ∙ c.if-part.true)
    (c.fork.ensures.node ∙ ap (λ n. fork c.args.repetition.greedy (n + 1) c.args.next) len)
    (c.fork-back-in-None-2.ensures.node ∙ ap (λ n. fork c.args.repetition.greedy (n + 1) c.args.next) len)
    (ap₂ (λ a b. a + 1 + b) len ((known_any parts c.properties.result.now c.args.root _ c.properties.ensures below).size small))
    c.fork.ensures.reads c.fork-back-in-None-2.ensures.reads
    c.in_ok-push-in-None-2-2.ensures.items c.in_ok-push-in-None-2-3.ensures.items c.in_ok-push-in-None-2-4.ensures.items

pub returns-in_ok-push-in-None-3-2-clause-done : goal.returns-in_ok-push-in-None-3-2-clause-done
returns-in_ok-push-in-None-3-2-clause-done c =
    let parts = subtrees_of (tree_of c.args.hir.now) in
    let states = c.args.self.now.states in
    let rep = c.args.repetition in
    let below : c.args.root < length parts = omega (arith, c.requires.root) in
    let len : c.len-at.result ≡ length states.items = omega (arith, c.len-at.ensures, states.ok.0) in
    let none : rep.min ≡ 0 = omega (arith, c.if-least-gt0.false) in
    loop_done parts states.items c.args.self.now.jobs.items c.push-in-None-3-2.new.self.items c.push-in-None-3-2.new.self.items c.args.root c.args.next rep c.requires.is below
    c.push-in-None-3.new.self.items c.fork-in-None-3.result c.len-at.result c.in-None.is none
    (sym (known_any parts c.properties.result.now c.args.root _ c.properties.ensures below).may ∙ c.if-part.false)
    (c.fork-in-None-3.ensures.node ∙ ap (λ n. fork c.args.repetition.greedy (n + 1) c.args.next) len) c.fork-in-None-3.ensures.reads len
    c.in_ok-push-in-None-3.ensures.items c.in_ok-push-in-None-3-2.ensures.items
