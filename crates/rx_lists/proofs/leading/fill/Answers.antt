use Rattle.std.proofs.Common.{◌≡◌, ℕ, Some, length, slice_get, Contains, inl, inr, sym, ap, subst, ◌∙◌, arith}
use Rattle.std.proofs.lemmas.Bool.{cases_eq}
use Rattle.std.proofs.lemmas.Option.{slice_get_within}
use Rattle.rx_steps.specs.Lists.{move_at}
use Rattle.rx_lists.specs.Arrivals.{IsInList}
use Rattle.rx_lists.specs.Leading.{LeadsOn, AreSound, IsRound}
use Rattle.rx_lists.proofs.FillLaws.{sound_none}
use Rattle.rx_lists.proofs.SetLaws.{none_in, there_at}
use Rattle.rx_lists.proofs.RoundLaws.{held, back_now, back_still, still_there, fills}
use Rattle.rx_lists.proofs.leading.fill.Goals as goal

the_node : {x y : ℕ × ℕ} → Some x ≡ Some y → x ≡ y
the_node e = cc e

pub loop-done-init : goal.loop-done-init
loop-done-init c =
    let p = c.args.program.now in
    let place = c.args.place.now in
    let beyond = c.args.beyond.now.nodes in
    let round = c.in_ok-mark_all.ensures.round in
    record {
      sound = round.sound (subst (λ s. AreSound p place beyond s.nodes) (sym c.clear.ensures) (sound_none p place beyond));
      room = round.room (omega (arith, ap (λ s. length s.nodes) c.clear.ensures));
      real = round.real (λ q there. absurd (none_in q (subst (λ s. Contains s.nodes q) c.clear.ensures there)));
      begun = λ q there k i x idx at on. round.reached q there k i x idx at (subst (λ s. LeadsOn s.nodes beyond (move_at place i q x)) (sym c.clear.ensures) on);
      back = λ j r below. absurd (omega (arith, below));
      widths = c.in_ok-mark_all.ensures.widths ∙ ap (λ s. s.widths) c.clear.ensures;
    }

pub loop-done-preserved : goal.loop-done-preserved
loop-done-preserved c =
    let p = c.args.program.now in
    let place = c.args.place.now in
    let lists = c.args.arrivals.now in
    let old = c.loop-done.here.nodes in
    let new = c.go_back.new.here.nodes in
    let n = c.loop-done.done in
    let node = c.node-node.result in
    let inv = c.loop-done.invariant in
    let round = c.in_ok-go_back.ensures.round in
    let here : slice_get old n ≡ Some node = c.node-node.ensures in
    record {
      sound = round.sound inv.sound;
      room = round.room inv.room;
      real = round.real inv.real;
      begun = λ q there k i x idx at on. held old new round.kept q (inv.begun q there k i x idx at on);
      back = λ j r below e. elim (cases_eq j n) [
        | inl same ↦
            let was : slice_get old n ≡ Some r = still_there old new n r round.kept (slice_get_within old n node here) (ap (λ k. slice_get new k) (sym same) ∙ e) in
            back_now p place lists c.args.beyond.now.nodes old new r (subst (λ q. IsRound p place (λ y. (q.1 ≡ 0) × IsInList lists q.0 y) c.args.beyond.now.nodes old new) (the_node (sym here ∙ was)) round) (there_at old n r was)
        | inr other ↦ back_still p place lists old new r round.kept (inv.back j r (omega (arith, below, other)) (still_there old new j r round.kept (omega (arith, below, other, slice_get_within old n node here)) e))
      ];
      widths = c.in_ok-go_back.ensures.widths ∙ inv.widths;
    }

pub returns-clause-filled : goal.returns-clause-filled
returns-clause-filled c =
    let inv = c.loop-done.invariant in
    fills c.args.program.now c.args.place.now c.args.arrivals.now c.args.order.now c.args.beyond.now.nodes c.loop-done.here.nodes c.requires.order c.requires.arrivals inv.sound inv.real inv.begun
    (λ j r e. inv.back j r (omega (arith, slice_get_within c.loop-done.here.nodes j r e, c.loop-done-test.false, c.len.ensures)) e)
