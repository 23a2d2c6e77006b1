use Rattle.std.specs.Str.{chars}
use Rattle.str_indices.specs.Text.{byte_len, breaks}
use Rattle.ropey_tree.specs.Breaks.{is_break}
use Rattle.std.proofs.Common.{◌≡◌, cond, ap, sym, ◌∙◌, arith, length}
use Rattle.std.proofs.lemmas.Bool.Decides.{nat_tests}
use Rattle.std.proofs.lemmas.Str.{encodes-chars}
use Rattle.ropey_tree.proofs.Ends.{counts-none, one_byte_text}
use Rattle.ropey_tree.proofs.counts.Counts.of.Goals as goal

pub returns-then-is_empty : goal.returns-then-is_empty
returns-then-is_empty c =
    let none : length c.args.text.now ≡ 0 = grind (arith, nat_tests, c.is_empty.ensures, c.if-is_empty.true) in
    c.zero.ensures ∙ sym (counts-none c.args.text.now none)

pub returns-then-is_break : goal.returns-then-is_break
returns-then-is_break c =
    let text = chars c.args.text.now in
    let bytes : byte_len text ≡ 1 = ap length (encodes-chars c.args.text.now c.utf8.text) ∙ c.if-text-eq1.true in
    let is = one_byte_text text bytes in
    let length_is = is.chars in
    let units_are = is.units in
    let breaks_are : breaks is_break text ≡ 1 = c.is_break.ensures ∙ ap (λ b. cond b 1 0) c.if-is_break.true in
    cc

pub returns-else-is_break : goal.returns-else-is_break
returns-else-is_break c =
    let text = chars c.args.text.now in
    let bytes : byte_len text ≡ 1 = ap length (encodes-chars c.args.text.now c.utf8.text) ∙ c.if-text-eq1.true in
    let is = one_byte_text text bytes in
    let length_is = is.chars in
    let units_are = is.units in
    let breaks_are : breaks is_break text ≡ 0 = c.is_break.ensures ∙ ap (λ b. cond b 1 0) c.if-is_break.false in
    cc

pub returns : goal.returns
returns c = let bytes = ap length (encodes-chars c.args.text.now c.utf8.text) in cc
