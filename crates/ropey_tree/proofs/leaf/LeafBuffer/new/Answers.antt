use Rattle.std.proofs.Common.{◌≡◌, [], ap, ◌∙◌}
use Rattle.std.specs.Str.{chars}
use Rattle.std.proofs.lemmas.Str.{chars-nil}
use Rattle.ropey_tree.proofs.leaf.LeafBuffer.new.Goals as goal

pub returns : goal.returns
returns c = let none : chars c.new.result.bytes ≡ [] = ap chars c.new.ensures ∙ chars-nil in none
