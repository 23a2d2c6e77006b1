use Rattle.std.proofs.Common.{ap, arith}
use Rattle.str_indices.specs.Text.{byte_len}
use Rattle.ropey_tree.specs.Nodes.{all_pieces}
use Rattle.ropey_tree.specs.Siblings.{views}
use Rattle.ropey.proofs.Pieces.{bytes-concat}
use Rattle.ropey.proofs.rope_builder.RopeBuilder.finish.Goals as goal

pub from_leaves-requires-clause-text : goal.from_leaves-requires-clause-text
from_leaves-requires-clause-text c =
    let e = c.in_ok-leaves.ensures in
    record { cut = e.cut; fits = omega (arith, bytes-concat (all_pieces (views c.in_ok-leaves.leaves.items)), ap byte_len e.text, c.self.invariant.0, c.self.invariant.1) }
