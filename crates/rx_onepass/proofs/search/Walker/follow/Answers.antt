use Rattle.std.proofs.Common.{◌≡◌, ◌+◌, ◌-◌, ◌<◌, ◌≤◌, None, Some, IfSome, length, refl, sym, ap, subst, ◌∙◌, arith}
use Rattle.rx_walks.specs.Finds.{IsInside}
use Rattle.rx_steps.specs.Nodes.{IsNodeIn}
use Rattle.rx_steps.specs.Searching.{search_of}
use Rattle.rx_steps.proofs.OverLaws.{same_search}
use Rattle.rx_onepass.specs.Alone.{IsAlone}
use Rattle.rx_onepass.specs.Edges.{GoesToNode}
use Rattle.rx_onepass.proofs.AloneLaws.{alone_begun, alone_on, alone_ends, first_node_stands, is_anchored_input, run_on, steps_same}
use Rattle.rx_onepass.proofs.search.Walker.follow.Goals as goal

pub loop-way-init : goal.loop-way-init
loop-way-init g c =
    let p = c.args.program.now in
    let i = c.args.input.now.position in
    let s = search_of c.args.utf8_empty c.args.input.now in
    let len = length c.args.slots.now in
    let begun : IsAlone p s p.start len i c.args.slots.now (p.start, 0) =
    alone_begun p s p.start len i c.args.slots.now c.requires.begins (is_anchored_input c.args.input.now.asked.anchored c.requires.anchored) (first_node_stands p.states p.start) c.requires.empty refl in
    record {
      made = c.requires.made;
      slot_len = c.requires.slot_len;
      inside = c.requires.inside;
      alone = subst (λ n. IsAlone p s p.start len i c.args.slots.now n) (sym (c.first-node.ensures ∙ ap (λ k. (k, 0)) c.start.ensures)) begun;
      same = record { content = refl; is_sized = refl };
      asked = refl;
    }

pub step-requires-clause-node : goal.step-requires-clause-node
step-requires-clause-node g c =
    let p = c.args.program.now in
    let b = c.args.utf8_empty in
    let s = search_of b c.args.input.now in
    let len = length c.args.slots.now in
    let at = c.loop-way.invariant in
    let before = c.loop-way.input in
    let same = same_search b before c.args.input.now at.same.content at.asked in
    let ran : IsAlone p s p.start len c.run-node.new.input.position c.run-node.new.slots c.run-node.result =
    run_on p s (search_of b before) p.start len (length c.loop-way.slots) before.position c.run-node.new.input.position c.loop-way.self.slot_len c.loop-way.slots c.run-node.new.slots c.loop-way.node c.run-node.result c.loop-way.self.edges
    same at.alone.slot_len at.slot_len at.made.are_edges at.inside at.alone (c.run-node.ensures.alone p b p.start) in
    ran.stands

pub returns-in_default-clause-over : goal.returns-in_default-clause-over
returns-in_default-clause-over g c =
    let p = c.args.program.now in
    let b = c.args.utf8_empty in
    let s = search_of b c.args.input.now in
    let len = length c.args.slots.now in
    let at = c.loop-way.invariant in
    let before = c.loop-way.input in
    let after = c.run-node.new.input in
    let same = same_search b before c.args.input.now at.same.content at.asked in
    let same' = same_search b after c.args.input.now (c.run-node.ensures.same.same.content ∙ at.same.content) (c.run-node.ensures.same.asked_is ∙ at.asked) in
    let ran : IsAlone p s p.start len after.position c.run-node.new.slots c.run-node.result =
    run_on p s (search_of b before) p.start len (length c.loop-way.slots) before.position after.position c.loop-way.self.slot_len c.loop-way.slots c.run-node.new.slots c.loop-way.node c.run-node.result c.loop-way.self.edges
    same at.alone.slot_len at.slot_len at.made.are_edges at.inside at.alone (c.run-node.ensures.alone p b p.start) in
    let there : IsInside (search_of b after) after.position = subst (λ x. IsInside x after.position) (same ∙ sym same') (c.run-node.ensures.inside b (subst (λ x. IsInside x before.position) (sym same) at.inside)) in
    let way = c.in_ok-way.way in
    alone_ends p s p.start len after.position way.pattern c.run-node.new.slots c.step.new.slots c.run-node.result ran
    (steps_same p s (search_of b after) after.position c.run-node.new.slots c.step.new.slots c.run-node.result way.pattern way.node None same' c.in_default.is (c.in_ok-way.ensures.leads b there))
    (c.in_ok-way.ensures.len ∙ ran.slot_len)

pub loop-way-smaller : goal.loop-way-smaller
loop-way-smaller g c =
    let b = c.args.utf8_empty in
    let content = c.args.input.now.cursor.content in
    let at = c.loop-way.invariant in
    let before = c.loop-way.input in
    let after = c.run-node.new.input in
    let stepped = c.step.new.input in
    let last = c.advance.new.input in
    let same = same_search b before c.args.input.now at.same.content at.asked in
    let same' = same_search b stepped c.args.input.now (c.in_ok-way.ensures.same.same.content ∙ c.run-node.ensures.same.same.content ∙ at.same.content) (c.in_ok-way.ensures.same.asked_is ∙ c.run-node.ensures.same.asked_is ∙ at.asked) in
    let there : IsInside (search_of b before) after.position = c.run-node.ensures.inside b (subst (λ x. IsInside x before.position) (sym same) at.inside) in
    let here : IsInside (search_of b stepped) stepped.position = subst (λ x. IsInside x stepped.position) (same ∙ sym same') (subst (λ j. IsInside (search_of b before) j) (sym c.in_ok-way.ensures.same.position_is) there) in
    let inside : IsInside (search_of b c.args.input.now) last.position = subst (λ x. IsInside x last.position) same' (c.advance.ensures.inside c.if-not-advance.false b here) in
    let smaller : length content - last.position < length content - before.position =
    omega (arith, inside.4, c.advance.ensures.next c.if-not-advance.false, c.in_ok-way.ensures.same.position_is, c.run-node.ensures.above) in
    smaller

pub loop-way-preserved : goal.loop-way-preserved
loop-way-preserved g c =
    let p = c.args.program.now in
    let b = c.args.utf8_empty in
    let s = search_of b c.args.input.now in
    let len = length c.args.slots.now in
    let at = c.loop-way.invariant in
    let before = c.loop-way.input in
    let after = c.run-node.new.input in
    let stepped = c.step.new.input in
    let last = c.advance.new.input in
    let same = same_search b before c.args.input.now at.same.content at.asked in
    let same' = same_search b after c.args.input.now (c.run-node.ensures.same.same.content ∙ at.same.content) (c.run-node.ensures.same.asked_is ∙ at.asked) in
    let same'' = same_search b stepped c.args.input.now (c.in_ok-way.ensures.same.same.content ∙ c.run-node.ensures.same.same.content ∙ at.same.content) (c.in_ok-way.ensures.same.asked_is ∙ c.run-node.ensures.same.asked_is ∙ at.asked) in
    let ran : IsAlone p s p.start len after.position c.run-node.new.slots c.run-node.result =
    run_on p s (search_of b before) p.start len (length c.loop-way.slots) before.position after.position c.loop-way.self.slot_len c.loop-way.slots c.run-node.new.slots c.loop-way.node c.run-node.result c.loop-way.self.edges
    same at.alone.slot_len at.slot_len at.made.are_edges at.inside at.alone (c.run-node.ensures.alone p b p.start) in
    let there : IsInside (search_of b before) after.position = c.run-node.ensures.inside b (subst (λ x. IsInside x before.position) (sym same) at.inside) in
    let here : IsInside (search_of b stepped) stepped.position = subst (λ x. IsInside x stepped.position) (same ∙ sym same'') (subst (λ j. IsInside (search_of b before) j) (sym c.in_ok-way.ensures.same.position_is) there) in
    let way = c.in_ok-way.way in
    let next = c.in-Some.next in
    let on : IsAlone p s p.start len (after.position + 1) c.step.new.slots next =
    alone_on p s p.start len after.position way.pattern c.run-node.new.slots c.step.new.slots c.run-node.result next ran
    (steps_same p s (search_of b after) after.position c.run-node.new.slots c.step.new.slots c.run-node.result way.pattern way.node (Some next) same' c.in-Some.is (c.in_ok-way.ensures.leads b (subst (λ x. IsInside x after.position) (same ∙ sym same') there)))
    (c.in_ok-way.ensures.len ∙ ran.slot_len) (subst (λ o. IfSome o (IsNodeIn p.states)) c.in-Some.is c.in_ok-way.ensures.stands) in
    record {
      made = c.step.ensures.made;
      slot_len = c.step.ensures.slot_len ∙ at.slot_len;
      inside = subst (λ x. IsInside x last.position) same'' (c.advance.ensures.inside c.if-not-advance.false b here);
      alone = subst (λ j. IsAlone p s p.start len j c.step.new.slots next) (omega (arith, c.advance.ensures.next c.if-not-advance.false, c.in_ok-way.ensures.same.position_is)) on;
      same = record {
        content = c.advance.ensures.same.same.content ∙ c.in_ok-way.ensures.same.same.content ∙ c.run-node.ensures.same.same.content ∙ at.same.content;
        is_sized = c.advance.ensures.same.same.is_sized ∙ c.in_ok-way.ensures.same.same.is_sized ∙ c.run-node.ensures.same.same.is_sized ∙ at.same.is_sized;
      };
      asked = c.advance.ensures.same.asked_is ∙ c.in_ok-way.ensures.same.asked_is ∙ c.run-node.ensures.same.asked_is ∙ at.asked;
    }
