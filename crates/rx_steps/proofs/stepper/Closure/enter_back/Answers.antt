use Rattle.std.proofs.Common.{◌≡◌, ℕ, ◌≤◌, ◌∷◌, List, length, Option, Some, None, slice_get, map, refl, sym, ap, subst}
use Rattle.rx_program.specs.declared.states.State.{State}
use Rattle.rx_steps.specs.Nodes.{widths_of, index_from, end_from, IsInserted}
use Rattle.rx_steps.specs.Lists.{noted_at}
use Rattle.rx_steps.specs.ListsAll.{FollowsAll, end_met_by, nodes_of}
use Rattle.rx_steps.specs.Reversed.{byte_program_of, state_of}
use Rattle.rx_steps.proofs.IndexLaws.{new_index}
use Rattle.rx_steps.proofs.FollowLaws.{entered_less, if_ok, on_ok}
use Rattle.rx_steps.proofs.AllFollowLaws.{all_entered_nowhere, all_entered_new, all_skipped}
use Rattle.rx_steps.proofs.stepper.Closure.enter_back.Goals as goal

stands : (states all : List State) (q n : ℕ) (o : Option State) → slice_get states q ≡ o → states ≡ all → q ≡ n → slice_get all n ≡ o
stands states all q n o e f g = cc (e, f, g)

pub returns-clause-threads : goal.returns-clause-threads
returns-clause-threads c =
    let p = byte_program_of c.args.program.now in
    let here = stands (map state_of c.states.result.now) p.states c.state.result c.args.node.0 (Some (state_of c.in-Some.state.now)) c.in-Some.ensures (ap (map state_of) c.states.ensures.states) c.state.ensures in
    on_ok c.make_move.result (λ kept. kept p.states here) c.make_move.ensures.threads

pub returns-clause-less : goal.returns-clause-less
returns-clause-less c =
    let p = byte_program_of c.args.program.now in
    let ids = c.args.self.now.visited.ids in
    let here = stands (map state_of c.states.result.now) p.states c.state.result c.args.node.0 (Some (state_of c.in-Some.state.now)) c.in-Some.ensures (ap (map state_of) c.states.ensures.states) c.state.ensures in
    let new = new_index (index_from 0 (widths_of p) c.args.node.0 c.args.node.1) c.insert.result ids c.insert.new.self.ids c.if-not-insert.false
    (subst (λ w. IsInserted (index_from 0 w c.args.node.0 c.args.node.1) c.insert.result ids c.insert.new.self.ids) c.requires.made c.insert.ensures.inserted) in
    let room = subst (λ w. length c.insert.new.self.ids ≤ end_from 0 w) c.requires.made (c.insert.ensures.room c.if-not-insert.false) in
    on_ok c.make_move.result (λ fan. entered_less p ids c.insert.new.self.ids c.args.self.now.pending.size c.make_move.new.pending.size c.args.node.0 new.0 (end_from 0 (widths_of p)) (state_of c.in-Some.state.now) here new.3 room fan) c.make_move.ensures.fan

pub returns-in_default-clause-all : goal.returns-in_default-clause-all
returns-in_default-clause-all c = λ start.
    all_entered_nowhere (byte_program_of c.args.program.now) c.args.place.now start c.args.node (nodes_of c.args.self.now.pending.threads) c.args.self.now.visited.ids c.args.next.now.threads
    (stands (map state_of c.states.result.now) (byte_program_of c.args.program.now).states c.state.result c.args.node.0 None c.in_default.ensures (ap (map state_of) c.states.ensures.states) c.state.ensures)

pub returns-then-not-insert-clause-all : goal.returns-then-not-insert-clause-all
returns-then-not-insert-clause-all c = λ start.
    let p = byte_program_of c.args.program.now in
    let ids = c.args.self.now.visited.ids in
    all_skipped p c.args.place.now start c.args.node (state_of c.in-Some.state.now) (nodes_of c.args.self.now.pending.threads) ids c.insert.new.self.ids c.args.next.now.threads
    (index_from 0 (widths_of p) c.args.node.0 c.args.node.1) c.insert.result refl c.if-not-insert.true
    (subst (λ w. IsInserted (index_from 0 w c.args.node.0 c.args.node.1) c.insert.result ids c.insert.new.self.ids) c.requires.made c.insert.ensures.inserted)
    (stands (map state_of c.states.result.now) p.states c.state.result c.args.node.0 (Some (state_of c.in-Some.state.now)) c.in-Some.ensures (ap (map state_of) c.states.ensures.states) c.state.ensures) c.requires.node

pub returns-clause-all : goal.returns-clause-all
returns-clause-all c =
    let p = byte_program_of c.args.program.now in
    let ids = c.args.self.now.visited.ids in
    let here = stands (map state_of c.states.result.now) p.states c.state.result c.args.node.0 (Some (state_of c.in-Some.state.now)) c.in-Some.ensures (ap (map state_of) c.states.ensures.states) c.state.ensures in
    let new = new_index (index_from 0 (widths_of p) c.args.node.0 c.args.node.1) c.insert.result ids c.insert.new.self.ids c.if-not-insert.false
    (subst (λ w. IsInserted (index_from 0 w c.args.node.0 c.args.node.1) c.insert.result ids c.insert.new.self.ids) c.requires.made c.insert.ensures.inserted) in
    if_ok c.make_move.result (λ met made start.
    subst (λ xs. FollowsAll p c.args.place.now start (c.args.node ∷ nodes_of c.args.self.now.pending.threads) (nodes_of c.make_move.new.pending.threads) ids xs c.args.next.now.threads c.make_move.new.next.threads (end_met_by start met)) (sym new.3)
    (all_entered_new p c.args.place.now start c.args.node new.0 (state_of c.in-Some.state.now) (noted_at c.args.place.now (state_of c.in-Some.state.now) c.args.self.now.pending.slots) met c.args.self.now.pending c.make_move.new.pending ids c.args.next.now.threads c.make_move.new.next.threads new.1 new.2 here made)) c.make_move.ensures.made
