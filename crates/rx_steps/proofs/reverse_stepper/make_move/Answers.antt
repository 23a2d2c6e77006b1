use Rattle.std.proofs.Common.{[], ◌∷◌, ◌++◌, None, map, sym, ap, ap₂, ◌∙◌}
use Rattle.rx_walks.specs.Programs.{only_if}
use Rattle.rx_walks.specs.Machines.{goes}
use Rattle.rx_utf8.specs.Automata.{step_of}
use Rattle.rx_steps.specs.Threads.{first_node}
use Rattle.rx_steps.specs.Lists.{move_at, noted_at, read_next}
use Rattle.rx_steps.specs.Reversed.{state_of}
use Rattle.rx_steps.proofs.MoveLaws.{made_goes, made_so}
use Rattle.rx_steps.proofs.reverse_stepper.make_move.Goals as goal
use Rattle.rx_steps.proofs.reverse_stepper.make_move.Goals.{in-Ranges+in_ok-read-in-Ranges, in-Look+then-has+in_ok-push-in-Look, in-Look+else-has, in-Empty+in_ok-push-in-Empty, in-BinaryUnion+in_ok-push-in-BinaryUnion+in_ok-push-in-BinaryUnion-2, in-Union+in_ok-push_all-in-Union}

pub returns-clause-made : goal.returns-clause-made
returns-clause-made c = λ i.
    let place = c.args.place.now in
    let q = c.args.node in
    let x = state_of c.args.state.now in
    let first = c.args.pending.now in
    let last = c.match-state.pending in
    let next = c.args.next.now.threads in
    let next' = c.match-state.next.threads in
    elim c.match-state.branch [
      | in-Ranges+in_ok-read-in-Ranges w ↦ made_so (read_next (step_of w.deref.result.now) q.0 w.in-Ranges.on q.1 i place.byte) (move_at place i q x) (noted_at place x first.slots) None first first last next w.read.new.next.threads next'
          (ap (λ y. move_at place i q (state_of y)) w.in-Ranges.is ∙ ap (λ a. read_next (step_of a) q.0 w.in-Ranges.on q.1 i place.byte) (sym w.deref.ensures))
          w.pending-is (ap (λ v. v.threads) w.next-is) (w.in_ok-read-in-Ranges.ensures.made i (noted_at place x first.slots) first c.requires.slots)
      | in-Look+then-has+in_ok-push-in-Look w ↦ made_goes place i q x (first_node w.in-Look.on ∷ []) first.slots first last next next'
          (ap (λ y. move_at place i q (state_of y)) w.in-Look.is ∙ ap (λ b. only_if b (goes (first_node w.in-Look.on ∷ []))) (sym w.has.ensures ∙ w.if-has.true))
          (ap (λ y. noted_at place (state_of y) first.slots) w.in-Look.is) (ap (λ v. v.threads) w.pending-is ∙ w.in_ok-push-in-Look.ensures.threads) (ap (λ v. v.threads) w.next-is)
      | in-Look+else-has w ↦ made_goes place i q x [] first.slots first last next next'
          (ap (λ y. move_at place i q (state_of y)) w.in-Look.is ∙ ap (λ b. only_if b (goes (first_node w.in-Look.on ∷ []))) (sym w.has.ensures ∙ w.if-has.false))
          (ap (λ y. noted_at place (state_of y) first.slots) w.in-Look.is) (ap (λ v. v.threads) w.pending-is) (ap (λ v. v.threads) w.next-is)
      | in-Empty+in_ok-push-in-Empty w ↦ made_goes place i q x (first_node w.in-Empty.on ∷ []) first.slots first last next next'
          (ap (λ y. move_at place i q (state_of y)) w.in-Empty.is)
          (ap (λ y. noted_at place (state_of y) first.slots) w.in-Empty.is) (ap (λ v. v.threads) w.pending-is ∙ w.in_ok-push-in-Empty.ensures.threads) (ap (λ v. v.threads) w.next-is)
      | in-BinaryUnion+in_ok-push-in-BinaryUnion+in_ok-push-in-BinaryUnion-2 w ↦ made_goes place i q x (first_node w.in-BinaryUnion.first ∷ first_node w.in-BinaryUnion.second ∷ []) first.slots first last next next'
          (ap (λ y. move_at place i q (state_of y)) w.in-BinaryUnion.is)
          (ap (λ y. noted_at place (state_of y) first.slots) w.in-BinaryUnion.is)
          (ap (λ v. v.threads) w.pending-is ∙ w.in_ok-push-in-BinaryUnion-2.ensures.threads ∙ ap₂ (λ s ts. (s, first_node w.in-BinaryUnion.first) ∷ ts) w.in_ok-push-in-BinaryUnion.ensures.slots w.in_ok-push-in-BinaryUnion.ensures.threads)
          (ap (λ v. v.threads) w.next-is)
      | in-Union+in_ok-push_all-in-Union w ↦ made_goes place i q x (map first_node w.in-Union.alternates.items) first.slots first last next next'
          (ap (λ y. move_at place i q (state_of y)) w.in-Union.is)
          (ap (λ y. noted_at place (state_of y) first.slots) w.in-Union.is)
          (ap (λ v. v.threads) w.pending-is ∙ w.in_ok-push_all-in-Union.ensures.threads ∙ ap (λ xs. map (λ r. (first.slots, r)) (map first_node xs) ++ first.threads) w.deref-in-Union.ensures.value)
          (ap (λ v. v.threads) w.next-is)
    ]
