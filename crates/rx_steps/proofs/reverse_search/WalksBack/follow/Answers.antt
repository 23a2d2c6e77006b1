use Rattle.std.proofs.Common.{inl, inr, ◌≡◌, ◌+◌, ◌-◌, ◌<◌, Bool, true, [], ◌∷◌, None, refl, sym, ap, subst, ◌∙◌, arith}
use Rattle.std.specs.Prelude.{IfSome}
use Rattle.rx_walks.specs.Backward.{end_in_content}
use Rattle.rx_walks.specs.Finds.{IsInside}
use Rattle.rx_walks.specs.ProgramFinds.{lowest}
use Rattle.rx_steps.specs.ListsAll.{nodes_of}
use Rattle.rx_steps.specs.Reversed.{byte_program_of}
use Rattle.rx_steps.specs.Searching.{search_of}
use Rattle.rx_steps.specs.ComingBack.{HasComeBack, HasSteppedBack, IsStepBack}
use Rattle.rx_steps.proofs.BackComeLaws.{Stepped, best_back, come_first, ended_back, first_thread, found_back, no_nodes, passed_back, was_first, went_back}
use Rattle.rx_steps.proofs.OverLaws.{same_search}
use Rattle.rx_steps.proofs.reverse_search.WalksBack.follow.Goals as goal
use Rattle.rx_steps.proofs.reverse_search.WalksBack.follow.Goals.{in-Some, in_default, then-len-eq0-via-then-len-eq0, then-len-eq0-via-else-len-eq0+then-position-at}

pub loop-pattern-init : goal.loop-pattern-init
loop-pattern-init g c =
    let p = byte_program_of c.args.program.now in
    let q = c.args.start in
    let live = c.begin.new.self.live.threads in
    let begun : live ≡ ([], (q, 0)) ∷ [] = c.in_ok-begin.ensures.live in
    record {
      made = record {
        widths_are = ap (λ x. x.widths) c.begin.ensures.stepper ∙ c.requires.made.widths_are;
        looks = λ none. c.requires.made.looks (sym c.begin.ensures.asks_looks ∙ none);
      };
      threads = first_thread p.states q live begun;
      inside = c.requires.inside;
      come = λ b.
          let s = search_of b c.args.input.now in
          subst (λ k. HasComeBack p s q k (nodes_of live) None) (sym (c.requires.end b)) (subst (λ ts. HasComeBack p s q (end_in_content s) (nodes_of ts) None) (sym begun) (come_first p s q));
      met_inside = tt;
      same = record { content = refl; is_sized = refl };
      asked = refl;
    }

pub returns-then-len-eq0-clause-inside : goal.returns-then-len-eq0-clause-inside
returns-then-len-eq0-clause-inside g c =
    let i = c.loop-pattern.input.position in
    elim c.match-branch-3.branch [
      | in-Some w ↦ subst (λ o. IfSome o (λ f. (b : Bool) → IsInside (search_of b c.args.input.now) f.offset)) (sym w.best-is)
          (λ b. subst (λ k. IsInside (search_of b c.args.input.now) k) (sym (w.new.ensures.offset ∙ c.position-at.ensures.position)) (c.loop-pattern.invariant.inside b))
      | in_default w ↦ subst (λ o. IfSome o (λ f. (b : Bool) → IsInside (search_of b c.args.input.now) f.offset)) (sym w.best-is) c.loop-pattern.invariant.met_inside
    ]

pub returns-then-len-eq0-clause-over : goal.returns-then-len-eq0-clause-over
returns-then-len-eq0-clause-over g c = λ b.
    let p = byte_program_of c.args.program.now in
    let s = search_of b c.args.input.now in
    let q = c.args.start in
    let before = c.loop-pattern.input in
    let i = before.position in
    let nodes = nodes_of c.loop-pattern.self.live.threads in
    let next = nodes_of c.pass.new.self.live.threads in
    let met = c.in_ok-pattern.field-0 in
    let best = c.loop-pattern.best in
    let after = c.match-branch-3.best in
    let same : search_of b before ≡ s = same_search b before c.args.input.now c.loop-pattern.invariant.same.content c.loop-pattern.invariant.asked in
    let inside : IsInside s i = c.loop-pattern.invariant.inside b in
    let here : IsInside (search_of b before) i = subst (λ x. IsInside x i) (sym same) inside in
    let moved : HasSteppedBack s i c.pass.new.input.position = subst (λ x. HasSteppedBack x i c.pass.new.input.position) same (c.in_ok-pattern.ensures.moved b here) in
    let best_is : after ≡ best_back i met best = elim c.match-branch-3.branch [
      | in-Some w ↦ w.best-is ∙ found_back w.new.result w.in-Some.pattern i w.new.ensures.pattern (w.new.ensures.offset ∙ c.position-at.ensures.position) ∙ sym (ap (λ o. best_back i o best) w.in-Some.is)
      | in_default w ↦ w.best-is ∙ sym (ap (λ o. best_back i o best) w.in_default.is)
    ] in
    let on : Stepped p s q i nodes next met best after = record {
      last = subst (λ k. IsInside s k) (c.requires.end b) (c.requires.inside b);
      inside = inside;
      step = subst (λ x. IsStepBack p x i nodes next met) same (c.in_ok-pattern.ensures.step b here);
      come = c.loop-pattern.invariant.come b;
      best_is = best_is;
    } in
    ended_back p s q i nodes next met best after on (elim c.then-len-eq0.branch [
      | then-len-eq0-via-then-len-eq0 w ↦ inl (no_nodes c.pass.new.self.live.threads (sym c.len.ensures ∙ w.if-len-eq0.true))
      | then-len-eq0-via-else-len-eq0+then-position-at w ↦ inr (was_first s i c.pass.new.input.position moved (sym w.position.ensures.position ∙ w.if-position-at.true ∙ c.position-at.ensures.position))
    ])

pub loop-pattern-smaller : goal.loop-pattern-smaller
loop-pattern-smaller g c =
    let b = true in
    let s = search_of b c.args.input.now in
    let before = c.loop-pattern.input in
    let i = before.position in
    let same : search_of b before ≡ s = same_search b before c.args.input.now c.loop-pattern.invariant.same.content c.loop-pattern.invariant.asked in
    let here : IsInside (search_of b before) i = subst (λ x. IsInside x i) (sym same) (c.loop-pattern.invariant.inside b) in
    let moved : HasSteppedBack s i c.pass.new.input.position = subst (λ x. HasSteppedBack x i c.pass.new.input.position) same (c.in_ok-pattern.ensures.moved b here) in
    let went = went_back s i c.pass.new.input.position moved (λ e. c.if-position-at.false (c.position.ensures.position ∙ e ∙ sym c.position-at.ensures.position)) in
    omega (arith, went.1)

pub loop-pattern-preserved : goal.loop-pattern-preserved
loop-pattern-preserved g c =
    let p = byte_program_of c.args.program.now in
    let q = c.args.start in
    let before = c.loop-pattern.input in
    let i = before.position in
    let j = c.pass.new.input.position in
    let nodes = nodes_of c.loop-pattern.self.live.threads in
    let next = nodes_of c.pass.new.self.live.threads in
    let met = c.in_ok-pattern.field-0 in
    let best = c.loop-pattern.best in
    let after = c.match-branch-3.best in
    let best_is : after ≡ best_back i met best = elim c.match-branch-3.branch [
      | in-Some w ↦ w.best-is ∙ found_back w.new.result w.in-Some.pattern i w.new.ensures.pattern (w.new.ensures.offset ∙ c.position-at.ensures.position) ∙ sym (ap (λ o. best_back i o best) w.in-Some.is)
      | in_default w ↦ w.best-is ∙ sym (ap (λ o. best_back i o best) w.in_default.is)
    ] in
    let same : (b : Bool) → search_of b before ≡ search_of b c.args.input.now = λ b. same_search b before c.args.input.now c.loop-pattern.invariant.same.content c.loop-pattern.invariant.asked in
    let here : (b : Bool) → IsInside (search_of b before) i = λ b. subst (λ x. IsInside x i) (sym (same b)) (c.loop-pattern.invariant.inside b) in
    let moved : (b : Bool) → HasSteppedBack (search_of b c.args.input.now) i j = λ b. subst (λ x. HasSteppedBack x i j) (same b) (c.in_ok-pattern.ensures.moved b (here b)) in
    let went : (b : Bool) → (lowest (search_of b c.args.input.now) < i) × (j + 1 ≡ i) = λ b. went_back (search_of b c.args.input.now) i j (moved b) (λ e. c.if-position-at.false (c.position.ensures.position ∙ e ∙ sym c.position-at.ensures.position)) in
    record {
      made = c.in_ok-pattern.ensures.made;
      threads = c.in_ok-pattern.ensures.threads;
      inside = λ b. (let is = c.loop-pattern.invariant.inside b in let on = went b in (omega (arith, on.0, on.1), omega (arith, is.1, on.1), omega (arith, on.0, on.1), omega (arith, is.3, on.1), omega (arith, is.4, on.1)));
      come = λ b.
          let s = search_of b c.args.input.now in
          let on : Stepped p s q i nodes next met best after = record {
            last = subst (λ k. IsInside s k) (c.requires.end b) (c.requires.inside b);
            inside = c.loop-pattern.invariant.inside b;
            step = subst (λ x. IsStepBack p x i nodes next met) (same b) (c.in_ok-pattern.ensures.step b (here b));
            come = c.loop-pattern.invariant.come b;
            best_is = best_is;
          } in
          let place : i - 1 ≡ j = omega (arith, (went b).1) in
          subst (λ k. HasComeBack p s q k next after) place (passed_back p s q i nodes next met best after on (went b).0);
      met_inside = elim c.match-branch-3.branch [
        | in-Some w ↦ subst (λ o. IfSome o (λ f. (b : Bool) → IsInside (search_of b c.args.input.now) f.offset)) (sym w.best-is)
            (λ b. subst (λ k. IsInside (search_of b c.args.input.now) k) (sym (w.new.ensures.offset ∙ c.position-at.ensures.position)) (c.loop-pattern.invariant.inside b))
        | in_default w ↦ subst (λ o. IfSome o (λ f. (b : Bool) → IsInside (search_of b c.args.input.now) f.offset)) (sym w.best-is) c.loop-pattern.invariant.met_inside
      ];
      same = record {
        content = c.in_ok-pattern.ensures.same.same.content ∙ c.loop-pattern.invariant.same.content;
        is_sized = c.in_ok-pattern.ensures.same.same.is_sized ∙ c.loop-pattern.invariant.same.is_sized;
      };
      asked = c.in_ok-pattern.ensures.same.asked_is ∙ c.loop-pattern.invariant.asked;
    }
