use Rattle.std.proofs.Common.{◌++◌, length}
use denote.Text.{Utf8}
use denote.Shadow.{shadow}
use Rattle.std.specs.List.{concat}
use Rattle.std.specs.Str.{chars}
use Rattle.ropey_tree.specs.Nodes.{all_pieces}
use Rattle.ropey_tree.specs.Siblings.{views}
use Rattle.ropey_tree.proofs.Filling.{IsFilling}
use Rattle.ropey_tree.proofs.cutter.append_leaves.Given as goal

abbrev pub invariant-loop-left : goal.invariant-loop-left
invariant-loop-left l = shadow (Utf8 l.left)
    × IsFilling ((concat (all_pieces (views l.leaves.items)) ++ l.rest) ++ chars l.text) (chars l.left) l.filled (views l.leaves.items ++ views l.made.items)

abbrev pub decreases-loop-left : goal.decreases-loop-left
decreases-loop-left l = length l.left
