use Rattle.std.proofs.Common.{length, ap, arith}
use Rattle.std.proofs.lemmas.Str.{encodes-chars}
use Rattle.ropey_tree.specs.Counts.{total}
use Rattle.ropey.proofs.Pieces.{bytes-concat}
use Rattle.ropey.proofs.trees.replaced_in_leaf.Goals as goal

pub overflow_sub-len : goal.overflow_sub-len
overflow_sub-len c =
    omega (arith, c.height.ensures.tree.text.fits, ap (λ v. (total v.pieces).bytes) c.deref.ensures, bytes-concat c.args.node.now.value.pieces, c.requires.len)

pub replace_in_leaf-requires-clause-fits : goal.replace_in_leaf-requires-clause-fits
replace_in_leaf-requires-clause-fits c =
    omega (
      arith,
      c.height.ensures.tree.text.fits,
      ap (λ v. (total v.pieces).bytes) c.deref.ensures,
      c.if-text-len.false,
      bytes-concat c.args.node.now.value.pieces,
      c.requires.len,
      ap length (encodes-chars c.args.text.now c.utf8.text),
    )
