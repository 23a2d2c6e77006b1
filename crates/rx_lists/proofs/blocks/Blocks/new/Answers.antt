use Rattle.std.proofs.Common.{◌≡◌, ◌+◌, ◌<◌, Bool, true, sym, ap, subst, ◌∙◌, arith}
use Rattle.rx_walks.specs.Finds.{IsInside}
use Rattle.rx_walks.specs.ProgramFinds.{highest}
use Rattle.rx_steps.specs.Searching.{search_of}
use Rattle.rx_steps.proofs.OverLaws.{same_search}
use Rattle.rx_lists.specs.Blocks.{AreBlocks}
use Rattle.rx_lists.specs.LeadingSets.{HasLeadingSets, IsLeadingSet}
use Rattle.rx_lists.proofs.PassLaws.{none_leads_past, known_more, known_none}
use Rattle.rx_lists.proofs.WayLaws.{inside_is}
use Rattle.rx_lists.proofs.blocks.Blocks.new.Goals as goal

pub overflow_sub-last : goal.overflow_sub-last
overflow_sub-last g c =
    let inside = c.requires.inside true in
    let slice : c.get_slice.result.start ≡ c.args.input.now.asked.slice.start = ap (λ x. x.start) c.get_slice.ensures in
    omega (arith, c.max-first.ensures, slice, c.start.ensures, c.position-last.ensures.position, inside.0, inside.2)

pub returns-in_err-pass-clause-counted : goal.returns-in_err-pass-clause-counted
returns-in_err-pass-clause-counted g c = λ b. omega (arith, c.pass.ensures.counted, (inside_is (search_of b c.args.input.now) c.args.input.now.position (c.requires.inside b)).0)

pub pass_all-requires-clause-inside : goal.pass_all-requires-clause-inside
pass_all-requires-clause-inside g c =
    let p = c.args.program.now in
    let at = c.args.input.now.position in
    let pass = c.in_ok-pass.ensures in
    let moved = c.pass.new.input in
    let set = c.pass.new.self.set.value in
    let same : (b : Bool) → search_of b moved ≡ search_of b c.args.input.now = λ b. same_search b moved c.args.input.now pass.same.same.content pass.same.asked_is in
    let stays : moved.position ≡ at = pass.same.position_is in
    let past : (b : Bool) → highest (search_of b c.args.input.now) < at + 1 = λ b. omega (arith, c.requires.last b) in
    let leading : (b : Bool) → IsLeadingSet p (search_of b c.args.input.now) at set = λ b. pass.leading b (c.requires.inside b)
    (none_leads_past p (search_of b c.args.input.now) (at + 1) c.in_ok-new.field-0.set.value (past b) c.in_ok-new.ensures.empty) in
    λ b. subst (λ x. IsInside x moved.position) (sym (same b)) (subst (λ j. IsInside (search_of b c.args.input.now) j) (sym stays) (c.requires.inside b))

pub pass_all-requires-clause-leading : goal.pass_all-requires-clause-leading
pass_all-requires-clause-leading g c =
    let p = c.args.program.now in
    let at = c.args.input.now.position in
    let pass = c.in_ok-pass.ensures in
    let moved = c.pass.new.input in
    let set = c.pass.new.self.set.value in
    let same : (b : Bool) → search_of b moved ≡ search_of b c.args.input.now = λ b. same_search b moved c.args.input.now pass.same.same.content pass.same.asked_is in
    let stays : moved.position ≡ at = pass.same.position_is in
    let past : (b : Bool) → highest (search_of b c.args.input.now) < at + 1 = λ b. omega (arith, c.requires.last b) in
    let leading : (b : Bool) → IsLeadingSet p (search_of b c.args.input.now) at set = λ b. pass.leading b (c.requires.inside b)
    (none_leads_past p (search_of b c.args.input.now) (at + 1) c.in_ok-new.field-0.set.value (past b) c.in_ok-new.ensures.empty) in
    λ b. subst (λ x. IsLeadingSet p x moved.position set) (sym (same b)) (subst (λ j. IsLeadingSet p (search_of b c.args.input.now) j set) (sym stays) (leading b))

pub pass_all-requires-clause-known : goal.pass_all-requires-clause-known
pass_all-requires-clause-known g c =
    let p = c.args.program.now in
    let at = c.args.input.now.position in
    let pass = c.in_ok-pass.ensures in
    let moved = c.pass.new.input in
    let set = c.pass.new.self.set.value in
    let same : (b : Bool) → search_of b moved ≡ search_of b c.args.input.now = λ b. same_search b moved c.args.input.now pass.same.same.content pass.same.asked_is in
    let stays : moved.position ≡ at = pass.same.position_is in
    let past : (b : Bool) → highest (search_of b c.args.input.now) < at + 1 = λ b. omega (arith, c.requires.last b) in
    let leading : (b : Bool) → IsLeadingSet p (search_of b c.args.input.now) at set = λ b. pass.leading b (c.requires.inside b)
    (none_leads_past p (search_of b c.args.input.now) (at + 1) c.in_ok-new.field-0.set.value (past b) c.in_ok-new.ensures.empty) in
    λ b. subst (λ x. HasLeadingSets p x moved.position) (sym (same b)) (subst (λ j. HasLeadingSets p (search_of b c.args.input.now) j) (sym stays)
    (known_more p (search_of b c.args.input.now) at set (known_none p (search_of b c.args.input.now) (at + 1) (past b)) (leading b)))

pub pass_all-requires-clause-last : goal.pass_all-requires-clause-last
pass_all-requires-clause-last g c =
    let p = c.args.program.now in
    let at = c.args.input.now.position in
    let pass = c.in_ok-pass.ensures in
    let moved = c.pass.new.input in
    let set = c.pass.new.self.set.value in
    let same : (b : Bool) → search_of b moved ≡ search_of b c.args.input.now = λ b. same_search b moved c.args.input.now pass.same.same.content pass.same.asked_is in
    let stays : moved.position ≡ at = pass.same.position_is in
    let past : (b : Bool) → highest (search_of b c.args.input.now) < at + 1 = λ b. omega (arith, c.requires.last b) in
    let leading : (b : Bool) → IsLeadingSet p (search_of b c.args.input.now) at set = λ b. pass.leading b (c.requires.inside b)
    (none_leads_past p (search_of b c.args.input.now) (at + 1) c.in_ok-new.field-0.set.value (past b) c.in_ok-new.ensures.empty) in
    λ b. subst (λ x. c.position-last.result ≡ highest x) (sym (same b)) (c.position-last.ensures.position ∙ c.requires.last b)

pub returns-clause-blocks : goal.returns-clause-blocks
returns-clause-blocks g c =
    let p = c.args.program.now in
    let at = c.args.input.now.position in
    let pass = c.in_ok-pass.ensures in
    let moved = c.pass.new.input in
    let set = c.pass.new.self.set.value in
    let same : (b : Bool) → search_of b moved ≡ search_of b c.args.input.now = λ b. same_search b moved c.args.input.now pass.same.same.content pass.same.asked_is in
    let stays : moved.position ≡ at = pass.same.position_is in
    let past : (b : Bool) → highest (search_of b c.args.input.now) < at + 1 = λ b. omega (arith, c.requires.last b) in
    let leading : (b : Bool) → IsLeadingSet p (search_of b c.args.input.now) at set = λ b. pass.leading b (c.requires.inside b)
    (none_leads_past p (search_of b c.args.input.now) (at + 1) c.in_ok-new.field-0.set.value (past b) c.in_ok-new.ensures.empty) in
    λ b. subst (λ x. AreBlocks p x c.pass_all.new.self) (same b) (c.in_ok-pass_all.ensures.blocks b)
