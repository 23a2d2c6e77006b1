use Rattle.std.proofs.Common.{◌≡◌, ◌+◌, List, ℕ, length, take, drop, get_or, sym, subst, ◌∙◌, ◌&&◌}
use Rattle.std.specs.Prelude.{◌==◌}
use Rattle.str_indices.specs.Text.{starts_with_lf}
use Rattle.memchr.specs.Find.{Nowhere, NoneAfter, Passes, is_byte2}
use Rattle.rope_search_reports.proofs.BackLemmas.{no-break, behind-break}
use Rattle.rope_search_reports.proofs.line_start.line_start_before.Goals as goal

pub returns-in_default : goal.returns-in_default
returns-in_default c =
    no-break c.args.text.now c.args.place c.utf8.text c.requires
    (subst (λ (bs : List ℕ). Nowhere (Passes (is_byte2 10 13) (take c.args.place bs)) 0 (length (take c.args.place bs))) c.as_bytes-bytes.ensures.value c.in_default.ensures)

pub returns : goal.returns
returns c =
    let found = subst (λ (bs : List ℕ). NoneAfter (Passes (is_byte2 10 13) (take c.args.place bs)) 0 (length (take c.args.place bs)) c.in-Some.last × Passes (is_byte2 10 13) (take c.args.place bs) c.in-Some.last) c.as_bytes-bytes.ensures.value c.in-Some.ensures in
    let whole = subst (λ (bs : List ℕ). c.is_cr_of_cr_lf.result ≡ ((get_or bs c.in-Some.last 0 == 13) && starts_with_lf (drop (c.in-Some.last + 1) bs))) c.as_bytes-bytes.ensures.value c.is_cr_of_cr_lf.ensures in
    behind-break c.args.text.now c.args.place c.utf8.text c.requires c.in-Some.last found.0 found.1 (sym whole ∙ c.if-is_cr_of_cr_lf.false)
