use Rattle.std.proofs.Common.{ap, sym, ◌∙◌}
use Rattle.str_indices.specs.Text.{byte_len}
use Rattle.ropey_tree.specs.Splits.{pieces_in}
use Rattle.ropey.specs.Chunks.{text_of}
use Rattle.ropey.proofs.Pieces.{bytes-concat}
use Rattle.ropey.proofs.rope.Rope.split_off_at.Goals as goal

pub returns-clause-place : goal.returns-clause-place
returns-clause-place c =
    let s = c.in_ok-halves.ensures in
    ap (λ ps. byte_len (text_of ps)) (c.of_tree-2.view_is ∙ c.of_tree.ensures) ∙ sym (bytes-concat (pieces_in c.in_ok-halves.halves.left)) ∙ s.place
