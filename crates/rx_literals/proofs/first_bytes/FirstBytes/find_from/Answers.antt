use Rattle.rx_literals.specs.FirstBytes.{is_among}
use Rattle.rx_literals.proofs.FirstLaws.{first_behind, none_behind}
use Rattle.rx_literals.proofs.first_bytes.FirstBytes.find_from.Goals as goal

pub returns-in-Some : goal.returns-in-Some
returns-in-Some c = first_behind (is_among c.args.self.now) c.args.hay.now c.args.from c.requires c.in-Some.further c.in-Some.ensures

pub returns-in-None : goal.returns-in-None
returns-in-None c = none_behind (is_among c.args.self.now) c.args.hay.now c.args.from c.requires c.in-None.ensures
