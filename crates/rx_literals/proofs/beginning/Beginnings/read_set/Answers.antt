use Rattle.std.proofs.Common.{Some, string_bytes}
use Rattle.rx_walks.specs.Programs.{set}
use Rattle.rx_literals.specs.Ways.{HasMembers}
use Rattle.rx_literals.proofs.WayLaws.{on_ok, goes_on_there, goes_on_over, readings_of}
use Rattle.rx_literals.proofs.beginning.Beginnings.read_set.Goals as goal

pub returns-in_ok-read-in-Some : goal.returns-in_ok-read-in-Some
returns-in_ok-read-in-Some c =
    let has : HasMembers c.args.ranges.now c.in-Some.characters.items = c.in_ok-characters.ensures c.in-Some.characters c.in-Some.is in
    let made = readings_of (record { literal = string_bytes c.beginning.inside.literal; node = c.beginning.inside.at }) c.args.beginning c.deref.result.now c.in-Some.characters.items c.args.next
    c.args.self.now.list.items c.read.new.self.list.items c.beginning.view_is c.deref.ensures.value c.in_ok-read-in-Some.ensures in
    goes_on_over c.args.ranges.now c.args.next c.in-Some.characters.items has c.args.beginning c.args.self.now.list.items c.read.new.self.list.items made

pub returns-in_default : goal.returns-in_default
returns-in_default c =
    on_ok c.leave.result (goes_on_there (Some (set c.args.ranges.now c.args.next)) c.args.beginning c.args.self.now.list.items c.leave.new.self.list.items) c.leave.ensures
