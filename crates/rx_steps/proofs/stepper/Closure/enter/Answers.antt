use Rattle.std.proofs.Common.{◌≡◌, ℕ, ◌≤◌, ◌++◌, ◌∷◌, List, length, Option, Some, None, slice_get, refl, sym, subst}
use Rattle.rx_program.specs.declared.states.State.{State}
use Rattle.rx_steps.specs.Nodes.{widths_of, index_from, end_from, IsInserted}
use Rattle.rx_steps.specs.Lists.{AreFollowed, noted_at}
use Rattle.rx_steps.specs.ListsAll.{FollowsAll, end_met_by, nodes_of}
use Rattle.rx_steps.proofs.IndexLaws.{new_index}
use Rattle.rx_steps.proofs.FollowLaws.{entered_nowhere, entered_new, entered_less, skipped, if_ok, on_ok}
use Rattle.rx_steps.proofs.AllFollowLaws.{all_entered_nowhere, all_entered_new, all_skipped}
use Rattle.rx_steps.proofs.stepper.Closure.enter.Goals as goal

stands : (states all : List State) (q n : ℕ) (o : Option State) → slice_get states q ≡ o → states ≡ all → q ≡ n → slice_get all n ≡ o
stands states all q n o e f g = cc (e, f, g)

pub returns-in_default-clause-followed : goal.returns-in_default-clause-followed
returns-in_default-clause-followed c = λ m i threads others moves way.
    entered_nowhere m i threads c.args.program.now c.args.place.now c.args.self.now.visited.ids c.args.self.now.pending.slots c.args.node (c.args.self.now.pending.threads ++ others) c.args.next.now.threads moves
    (stands c.states.result.now c.args.program.now.states c.state.result c.args.node.0 None c.in_default.ensures c.states.ensures.states c.state.ensures) way

pub returns-then-not-insert-clause-followed : goal.returns-then-not-insert-clause-followed
returns-then-not-insert-clause-followed c = λ m i threads others moves way.
    let p = c.args.program.now in
    let ids = c.args.self.now.visited.ids in
    skipped m i threads p c.args.place.now ids c.insert.new.self.ids c.args.self.now.pending.slots c.args.node c.in-Some.state.now (c.args.self.now.pending.threads ++ others) c.args.next.now.threads
    (index_from 0 (widths_of p) c.args.node.0 c.args.node.1) c.insert.result refl c.if-not-insert.true
    (subst (λ w. IsInserted (index_from 0 w c.args.node.0 c.args.node.1) c.insert.result ids c.insert.new.self.ids) c.requires.made c.insert.ensures.inserted) moves
    (stands c.states.result.now p.states c.state.result c.args.node.0 (Some c.in-Some.state.now) c.in-Some.ensures c.states.ensures.states c.state.ensures) c.requires.node way

pub returns-clause-followed : goal.returns-clause-followed
returns-clause-followed c =
    let p = c.args.program.now in
    let ids = c.args.self.now.visited.ids in
    let here = stands c.states.result.now p.states c.state.result c.args.node.0 (Some c.in-Some.state.now) c.in-Some.ensures c.states.ensures.states c.state.ensures in
    let new = new_index (index_from 0 (widths_of p) c.args.node.0 c.args.node.1) c.insert.result ids c.insert.new.self.ids c.if-not-insert.false
    (subst (λ w. IsInserted (index_from 0 w c.args.node.0 c.args.node.1) c.insert.result ids c.insert.new.self.ids) c.requires.made c.insert.ensures.inserted) in
    if_ok c.make_move.result (λ met made m i threads others moves way.
    subst (λ xs. AreFollowed m i threads (widths_of p) xs (c.make_move.new.pending.threads ++ others) c.make_move.new.next.threads c.make_move.new.pending.slots met) (sym new.3)
    (entered_new m i threads p c.args.place.now ids c.args.node new.0 c.in-Some.state.now met c.args.self.now.pending c.make_move.new.pending others c.args.next.now.threads c.make_move.new.next.threads moves here new.1 new.2 (made i) way)) c.make_move.ensures.made

pub returns-clause-threads : goal.returns-clause-threads
returns-clause-threads c =
    let p = c.args.program.now in
    let here = stands c.states.result.now p.states c.state.result c.args.node.0 (Some c.in-Some.state.now) c.in-Some.ensures c.states.ensures.states c.state.ensures in
    on_ok c.make_move.result (λ kept. kept p.states here) c.make_move.ensures.threads

pub returns-clause-less : goal.returns-clause-less
returns-clause-less c =
    let p = c.args.program.now in
    let ids = c.args.self.now.visited.ids in
    let here = stands c.states.result.now p.states c.state.result c.args.node.0 (Some c.in-Some.state.now) c.in-Some.ensures c.states.ensures.states c.state.ensures in
    let new = new_index (index_from 0 (widths_of p) c.args.node.0 c.args.node.1) c.insert.result ids c.insert.new.self.ids c.if-not-insert.false
    (subst (λ w. IsInserted (index_from 0 w c.args.node.0 c.args.node.1) c.insert.result ids c.insert.new.self.ids) c.requires.made c.insert.ensures.inserted) in
    let room = subst (λ w. length c.insert.new.self.ids ≤ end_from 0 w) c.requires.made (c.insert.ensures.room c.if-not-insert.false) in
    on_ok c.make_move.result (λ fan. entered_less p ids c.insert.new.self.ids c.args.self.now.pending.size c.make_move.new.pending.size c.args.node.0 new.0 (end_from 0 (widths_of p)) c.in-Some.state.now here new.3 room fan) c.make_move.ensures.fan

pub returns-in_default-clause-all : goal.returns-in_default-clause-all
returns-in_default-clause-all c = λ start.
    all_entered_nowhere c.args.program.now c.args.place.now start c.args.node (nodes_of c.args.self.now.pending.threads) c.args.self.now.visited.ids c.args.next.now.threads
    (stands c.states.result.now c.args.program.now.states c.state.result c.args.node.0 None c.in_default.ensures c.states.ensures.states c.state.ensures)

pub returns-then-not-insert-clause-all : goal.returns-then-not-insert-clause-all
returns-then-not-insert-clause-all c = λ start.
    let p = c.args.program.now in
    let ids = c.args.self.now.visited.ids in
    all_skipped p c.args.place.now start c.args.node c.in-Some.state.now (nodes_of c.args.self.now.pending.threads) ids c.insert.new.self.ids c.args.next.now.threads
    (index_from 0 (widths_of p) c.args.node.0 c.args.node.1) c.insert.result refl c.if-not-insert.true
    (subst (λ w. IsInserted (index_from 0 w c.args.node.0 c.args.node.1) c.insert.result ids c.insert.new.self.ids) c.requires.made c.insert.ensures.inserted)
    (stands c.states.result.now p.states c.state.result c.args.node.0 (Some c.in-Some.state.now) c.in-Some.ensures c.states.ensures.states c.state.ensures) c.requires.node

pub returns-clause-all : goal.returns-clause-all
returns-clause-all c =
    let p = c.args.program.now in
    let ids = c.args.self.now.visited.ids in
    let here = stands c.states.result.now p.states c.state.result c.args.node.0 (Some c.in-Some.state.now) c.in-Some.ensures c.states.ensures.states c.state.ensures in
    let new = new_index (index_from 0 (widths_of p) c.args.node.0 c.args.node.1) c.insert.result ids c.insert.new.self.ids c.if-not-insert.false
    (subst (λ w. IsInserted (index_from 0 w c.args.node.0 c.args.node.1) c.insert.result ids c.insert.new.self.ids) c.requires.made c.insert.ensures.inserted) in
    if_ok c.make_move.result (λ met made start.
    subst (λ xs. FollowsAll p c.args.place.now start (c.args.node ∷ nodes_of c.args.self.now.pending.threads) (nodes_of c.make_move.new.pending.threads) ids xs c.args.next.now.threads c.make_move.new.next.threads (end_met_by start met)) (sym new.3)
    (all_entered_new p c.args.place.now start c.args.node new.0 c.in-Some.state.now (noted_at c.args.place.now c.in-Some.state.now c.args.self.now.pending.slots) met c.args.self.now.pending c.make_move.new.pending ids c.args.next.now.threads c.make_move.new.next.threads new.1 new.2 here made)) c.make_move.ensures.made
