use Rattle.std.proofs.Common.{◌≡◌, ◌-◌, ◌<◌, ◌⊎◌, inl, inr, length, take, get_or, ap, sym, ◌∙◌, arith}
use Rattle.ropey.specs.Slices.{slice_pieces, slice_text}
use Rattle.rope_search_reports.proofs.PartLemmas.{clipped}
use Rattle.rope_search_reports.proofs.BreakLemmas.{without-crlf, without-one}
use Rattle.ropey.specs.Chunks.{text_of}
use Rattle.rope_search_reports.proofs.walk.without_break.Goals as goal
use Rattle.rope_search_reports.proofs.walk.without_break.Goals.{else-last-eq10-via-then-last-eq10+then-len-gt1+else-char-eq13, else-last-eq10-via-then-last-eq10+else-len-gt1, else-last-eq10-via-else-last-eq10}

pub returns-then-char-eq13 : goal.returns-then-char-eq13
returns-then-char-eq13 c = λ own is.
    let line = slice_text c.args.line in
    let len = c.len_chars-len.ensures in
    let lf : get_or line (length line - 1) 0 ≡ 10 = ap (λ n. get_or line (n - 1) 0) (sym len) ∙ sym c.char-last.ensures ∙ c.if-last-eq10.true in
    let cr : get_or line (length line - 2) 0 ≡ 13 = ap (λ n. get_or line (n - 2) 0) (sym len) ∙ sym c.char.ensures ∙ c.if-char-eq13.true in
    let taken : take (c.len_chars-len.result - 2) line ≡ own =
    ap (λ n. take (n - 2) line) len ∙ without-crlf line own is (omega (arith, len, c.if-len-gt1.true)) lf cr in
    ap text_of c.slice.ensures ∙ clipped 0 (c.len_chars-len.result - 2) (slice_pieces c.args.line) ∙ taken

pub returns : goal.returns
returns c = λ own is.
    let line = slice_text c.args.line in
    let len = c.len_chars-len.ensures in
    let same : c.char-last.result ≡ get_or line (length line - 1) 0 = c.char-last.ensures ∙ ap (λ n. get_or line (n - 1) 0) len in
    let last : (get_or line (length line - 1) 0 ≡ 10) ⊎ (get_or line (length line - 1) 0 ≡ 13) = elim c.else-last-ne10.either [
      | inl cr ↦ inr (sym same ∙ cr.1)
      | inr lf ↦ inl (sym same ∙ lf)
    ] in
    let not_both : get_or line (length line - 1) 0 ≡ 10 → 1 < length line → get_or line (length line - 2) 0 ≡ 13 → ⊥ =
    λ lf more cr. elim c.else-last-eq10.branch [
      | else-last-eq10-via-then-last-eq10+then-len-gt1+else-char-eq13 w ↦ w.if-char-eq13.false (w.char.ensures ∙ ap (λ n. get_or line (n - 2) 0) len ∙ cr)
      | else-last-eq10-via-then-last-eq10+else-len-gt1 w ↦ omega (arith, w.if-len-gt1.false, more, len)
      | else-last-eq10-via-else-last-eq10 w ↦ w.if-last-eq10.false (same ∙ lf)
    ] in
    let taken : take (c.len_chars-len.result - 1) line ≡ own =
    ap (λ n. take (n - 1) line) len ∙ without-one line own is (omega (arith, len, c.if-len-eq0.false)) last not_both in
    ap text_of c.slice-2.ensures ∙ clipped 0 (c.len_chars-len.result - 1) (slice_pieces c.args.line) ∙ taken
