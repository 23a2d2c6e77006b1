use Rattle.std.proofs.Common.{ap, ◌∙◌, arith, ◌++◌, take, length, length-take-le}
use Rattle.ropey.proofs.ReadLemmas.{read_behind, read_more}
use Rattle.ropey.proofs.read_window.ReadWindow.read.Goals as goal

pub returns-in-Ok-clause-ok : goal.returns-in-Ok-clause-ok
returns-in-Ok-clause-ok g c =
    let inside = c.self.inside in
    let buf = c.read.new.buf in
    let count = c.in-Ok.count in
    let few = c.in-Ok.ensures.bound in
    let behind = read_behind inside.bytes buf inside.len _ count (omega arith) (omega (arith, few)) ∙ ap (λ t. t ++ take count buf) c.self.view_is in
    read_more _ _ _ _ buf count c.in-Ok.ensures.bytes (omega (arith, c.read.auto.buf, ap length c.self.view_is, length-take-le inside.len inside.bytes (omega arith), c.requires)) (omega (arith, few)) behind
