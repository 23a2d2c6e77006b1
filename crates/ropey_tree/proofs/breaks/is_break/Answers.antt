use Rattle.std.proofs.Common.{◌≡◌, cond, ◌||◌, true, false, length, ap, sym, ◌∙◌}
use Rattle.std.specs.Str.{chars}
use Rattle.std.proofs.lemmas.Str.{encodes-chars}
use Rattle.str_indices.specs.Text.{starts_with_lf, ends_with_cr}
use Rattle.ropey_tree.proofs.Ends.{one_byte_text}
use Rattle.ropey_tree.proofs.breaks.is_break.Goals as goal

pub returns-then-is_lf_first : goal.returns-then-is_lf_first
returns-then-is_lf_first c =
    let text = chars c.args.text.now in
    let one = one_byte_text text (ap length (encodes-chars c.args.text.now c.utf8.text) ∙ c.requires) in
    let lf : starts_with_lf text ≡ true = sym c.is_lf_first.ensures ∙ c.if-is_lf_first.true in
    one.breaks ∙ ap (λ b. cond (b || ends_with_cr text) 1 0) lf ∙ ap (λ b. cond b 1 0) (sym c.if-is_lf_first.true)

pub returns-else-is_lf_first : goal.returns-else-is_lf_first
returns-else-is_lf_first c =
    let text = chars c.args.text.now in
    let one = one_byte_text text (ap length (encodes-chars c.args.text.now c.utf8.text) ∙ c.requires) in
    let lf : starts_with_lf text ≡ false = sym c.is_lf_first.ensures ∙ c.if-is_lf_first.false in
    one.breaks ∙ ap (λ b. cond (b || ends_with_cr text) 1 0) lf ∙ ap (λ b. cond b 1 0) (sym c.is_cr_last.ensures)
