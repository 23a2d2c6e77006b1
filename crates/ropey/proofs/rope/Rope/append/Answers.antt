use Rattle.std.proofs.Common.{ap, ◌∙◌, arith}
use Rattle.str_indices.specs.Text.{byte_len}
use Rattle.ropey_tree.specs.Splits.{pieces_in}
use Rattle.ropey.specs.Chunks.{text_of}
use Rattle.ropey.proofs.Pieces.{bytes-concat}
use Rattle.ropey.proofs.rope.Rope.append.Goals as goal

pub append-requires : goal.append-requires
append-requires c =
    let copied = c.in_ok-front.ensures in
    record {
      fits = omega (
        arith,
        c.if-len_bytes.false,
        c.len_bytes.ensures.bytes,
        c.len_bytes-2.ensures.bytes,
        c.len_bytes-2.ensures.fits,
        bytes-concat (pieces_in c.front.inside.root),
        bytes-concat (pieces_in c.other.inside.root),
        ap (λ ps. byte_len (text_of ps)) (c.front.view_is ∙ copied.cases),
        ap (λ ps. byte_len (text_of ps)) c.other.view_is,
      );
    }
