use Rattle.std.proofs.Common.{◌≡◌, length, ap, ◌∙◌, arith}
use Rattle.std.specs.Str.{chars}
use Rattle.std.proofs.lemmas.Str.{encodes-chars}
use Rattle.str_indices.specs.Text.{byte_len}
use Rattle.ropey_tree.proofs.leaf.LeafBuffer.into_leaf.Goals as goal

pub new-requires : goal.new-requires
new-requires c =
    let bytes = ap length (encodes-chars c.as_str.result.now c.as_str.utf8) in
    let view : byte_len (chars c.as_str.result.now) ≡ byte_len c.args.self = ap byte_len (ap chars c.as_str.ensures.value ∙ c.self.view_is) in
    record { not_empty = omega (arith, bytes, view, c.requires); not_long = omega (arith, c.as_str.ensures.fits) }

pub returns : goal.returns
returns c =
    let text : c.in_ok-leaf.leaf ≡ c.args.self = c.in_ok-leaf.ensures ∙ ap chars c.as_str.ensures.value ∙ c.self.view_is in
    record { text = text; piece = rw text at c.as_str-2.ensures.piece }
