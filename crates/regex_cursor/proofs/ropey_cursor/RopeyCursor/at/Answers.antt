use Rattle.std.proofs.Common.{◌∙◌, ap, arith}
use Rattle.std.specs.Prelude.{encode_utf8_all}
use Rattle.ropey.specs.Chunks.{text_of}
use Rattle.regex_cursor.proofs.PlaceLaws.{all_are, holds, may_show}
use Rattle.regex_cursor.proofs.ropey_cursor.RopeyCursor.at.Goals as goal

pub showing_next-requires : goal.showing_next-requires
showing_next-requires c = may_show _ _ _ _ _ _ _ c.len_bytes-len.ensures.cut.cut c.chunks_at_byte-chunks.ensures c.len_bytes-len.ensures.bytes (omega (arith, c.min-byte_idx.ensures, c.saturating_sub.ensures)) c.len_bytes-len.ensures.fits

pub returns-clause-content : goal.returns-clause-content
returns-clause-content c = c.showing_next.ensures.content ∙ ap (λ p. encode_utf8_all (text_of p)) (all_are _ _ _ _ _ _ _ c.len_bytes-len.ensures.cut.cut c.chunks_at_byte-chunks.ensures c.len_bytes-len.ensures.bytes (omega (arith, c.min-byte_idx.ensures, c.saturating_sub.ensures)))

pub returns-clause-holds : goal.returns-clause-holds
returns-clause-holds c =
    let e = c.showing_next.ensures in
    holds _ _ _ _ _ _ _ c.len_bytes-len.ensures.cut.cut c.chunks_at_byte-chunks.ensures c.len_bytes-len.ensures.bytes (omega (arith, c.min-byte_idx.ensures, c.saturating_sub.ensures))
    _ _ e.lawful e.content e.start e.end (omega (arith, c.requires, c.len_bytes-len.ensures.bytes)) (omega (arith, c.min-byte_idx.ensures, c.saturating_sub.ensures))
