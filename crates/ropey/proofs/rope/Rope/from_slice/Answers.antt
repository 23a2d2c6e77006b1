use Rattle.std.proofs.Common.{ap, arith}
use Rattle.std.specs.Prelude.{Err}
use Rattle.std.proofs.lemmas.Result.{err_from_is_err_and}
use Rattle.str_indices.specs.Text.{byte_len}
use Rattle.ropey.proofs.Copying.{other_of}
use Rattle.ropey.proofs.rope.Rope.from_slice.Goals as goal

pub returns-in_err-append_slice-clause-refused : goal.returns-in_err-append_slice-clause-refused
returns-in_err-append_slice-clause-refused c =
    let p = err_from_is_err_and c.from_residual.result c.from_residual.ensures.1 in
    let refused = c.in_err-append_slice.ensures in
    rw (p.1, p.2) (other_of refused.refused (λ same. omega (arith, refused.size.0 (ap Err same), ap byte_len c.new-builder.ensures, c.len_bytes.ensures.bytes, c.len_bytes.ensures.fits)))
