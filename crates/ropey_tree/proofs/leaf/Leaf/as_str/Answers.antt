use Rattle.std.proofs.Common.{◌≡◌, ap, arith, length}
use Rattle.std.specs.Prelude.{string_bytes}
use Rattle.std.specs.Str.{chars}
use Rattle.std.proofs.lemmas.Str.{encodes-chars, scalars-chars}
use Rattle.ropey_tree.proofs.leaf.Leaf.as_str.Goals as goal

pub returns-clause-bytes : goal.returns-clause-bytes
returns-clause-bytes c = let bytes = encodes-chars c.as_str.result.now c.as_str.utf8 in let same = ap chars c.as_str.ensures.value in cc

pub returns-clause-piece : goal.returns-clause-piece
returns-clause-piece c =
    let same = ap chars c.as_str.ensures.value in
    let is : c.args.self.now ≡ chars c.as_str.result.now = cc in
    let bytes = ap length (encodes-chars c.as_str.result.now c.as_str.utf8) in
    let len : length c.as_str.result.now ≡ length (string_bytes c.self.inside.text) = ap length c.as_str.ensures.value in
    rw is (record {
      scalars = scalars-chars c.as_str.result.now c.as_str.utf8;
      not_empty = omega (arith, bytes, len, c.self.invariant.0);
      not_long = omega (arith, bytes, len, c.self.invariant.1);
    })
