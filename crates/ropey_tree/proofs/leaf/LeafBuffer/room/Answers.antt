use Rattle.std.proofs.Common.{◌≡◌, length, ap, ◌∙◌, arith}
use Rattle.std.specs.Str.{chars}
use Rattle.std.proofs.lemmas.Str.{encodes-chars}
use Rattle.str_indices.specs.Text.{byte_len}
use Rattle.ropey_tree.proofs.leaf.LeafBuffer.room.Goals as goal

pub returns : goal.returns
returns c =
    let bytes = ap length (encodes-chars c.as_str.result.now c.as_str.utf8) in
    let same = ap length c.as_str.ensures.value in
    let view : byte_len (chars c.as_str.result.now) ≡ byte_len c.args.self.now = ap byte_len (ap chars c.as_str.ensures.value ∙ c.self.view_is) in
    omega (arith, bytes, same, view, c.remaining_capacity.ensures)
