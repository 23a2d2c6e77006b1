use Rattle.std.proofs.Common.{Some, refl, sym, subst}
use Rattle.rx_program.specs.Programs.{node_of}
use Rattle.rx_literals.proofs.WayLaws.{GoesTo, on_ok, goes_on_there, goes_on_by}
use Rattle.rx_literals.proofs.beginning.Beginnings.go_on_at.Goals as goal

pub returns-in-Empty : goal.returns-in-Empty
returns-in-Empty c =
    let to : GoesTo (Some (node_of c.args.state.now)) c.in-Empty.next = subst (λ s. GoesTo (Some (node_of s)) c.in-Empty.next) (sym c.in-Empty.is) refl in
    on_ok c.go_to.result (goes_on_by (Some (node_of c.args.state.now)) c.in-Empty.next to c.args.beginning c.args.self.now.list.items c.go_to.new.self.list.items) c.go_to.ensures

pub returns-in-Look : goal.returns-in-Look
returns-in-Look c =
    let to : GoesTo (Some (node_of c.args.state.now)) c.in-Look.next = subst (λ s. GoesTo (Some (node_of s)) c.in-Look.next) (sym c.in-Look.is) refl in
    on_ok c.go_to-in-Look.result (goes_on_by (Some (node_of c.args.state.now)) c.in-Look.next to c.args.beginning c.args.self.now.list.items c.go_to-in-Look.new.self.list.items) c.go_to-in-Look.ensures

pub returns-in-Capture : goal.returns-in-Capture
returns-in-Capture c =
    let to : GoesTo (Some (node_of c.args.state.now)) c.in-Capture.next = subst (λ s. GoesTo (Some (node_of s)) c.in-Capture.next) (sym c.in-Capture.is) refl in
    on_ok c.go_to-in-Capture.result (goes_on_by (Some (node_of c.args.state.now)) c.in-Capture.next to c.args.beginning c.args.self.now.list.items c.go_to-in-Capture.new.self.list.items) c.go_to-in-Capture.ensures

pub returns-in-Match : goal.returns-in-Match
returns-in-Match c =
    on_ok c.leave.result (goes_on_there (Some (node_of c.args.state.now)) c.args.beginning c.args.self.now.list.items c.leave.new.self.list.items) c.leave.ensures
