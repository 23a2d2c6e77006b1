use Rattle.std.proofs.Common.{◌^◌, ◌<◌, length, arith}
use Rattle.ropey_tree.specs.Nodes.{all_pieces}
use Rattle.ropey_tree.specs.Siblings.{views}
use Rattle.ropey.proofs.Making.{fits_in}
use Rattle.ropey.proofs.rope.Rope.from_str.Goals as goal

pub from_leaves-requires-clause-text : goal.from_leaves-requires-clause-text
from_leaves-requires-clause-text c =
    let e = c.in_ok-leaves.ensures in
    let fits : length c.args.text.now < 2 ^ 63 = omega (arith, c.if-text-gt-MAX_TEXT_BYTES.false) in
    fits_in (all_pieces (views c.in_ok-leaves.leaves.items)) c.args.text.now e.cut e.text c.utf8.text fits
