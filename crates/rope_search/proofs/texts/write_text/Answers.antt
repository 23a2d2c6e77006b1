use Rattle.std.proofs.Common.{◌≡◌, decimal}
use Rattle.std.proofs.lemmas.Result.{err_from_is_err_and}
use Rattle.str_indices.specs.Text.{byte_len}
use Rattle.ropey.specs.Chunks.{text_of}
use Rattle.rope_search_reports.specs.Text.{bytes_of}
use Rattle.rope_search.proofs.PrintLemmas.{Writes-text, WritesUntil-text, WritesUntil-head, shown}
use Rattle.rope_search.proofs.texts.write_text.Goals as goal

pub returns-in_err-put_parts-clause-written : goal.returns-in_err-put_parts-clause-written
returns-in_err-put_parts-clause-written g c =
    let p = err_from_is_err_and c.from_residual.result c.from_residual.ensures.1 in
    let bytes = bytes_of (text_of c.args.text.now) in
    let is : c.as_bytes-len.result.now ≡ decimal (byte_len (text_of c.args.text.now)) = cc in
    rw (p.1, p.2) (WritesUntil-head _ bytes _ _ _ _ (rw c.requires at c.in_err-put_parts.ensures.written) (shown bytes c.as_bytes-len.result.now is))

pub returns-in_err-put_text-clause-written : goal.returns-in_err-put_text-clause-written
returns-in_err-put_text-clause-written g c =
    let p = err_from_is_err_and c.from_residual-in_err-put_text.result c.from_residual-in_err-put_text.ensures.1 in
    let bytes = bytes_of (text_of c.args.text.now) in
    let is : c.as_bytes-len.result.now ≡ decimal (byte_len (text_of c.args.text.now)) = cc in
    rw (p.1, p.2) (WritesUntil-text _ bytes _ _ _ _ _ _ (rw c.requires at c.in_ok-put_parts.ensures.written) c.in_err-put_text.ensures.written (shown bytes c.as_bytes-len.result.now is))

pub returns-clause-written : goal.returns-clause-written
returns-clause-written g c =
    let bytes = bytes_of (text_of c.args.text.now) in
    let is : c.as_bytes-len.result.now ≡ decimal (byte_len (text_of c.args.text.now)) = cc in
    Writes-text c.send_parts.result bytes _ _ _ _ _ _ _ _ (rw c.requires at c.in_ok-put_parts.ensures.written) c.in_ok-put_text.ensures.written
    (shown bytes c.as_bytes-len.result.now is) c.send_parts.ensures.written
