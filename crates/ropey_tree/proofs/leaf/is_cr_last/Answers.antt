use Rattle.std.proofs.Common.{◌≡◌, ◌+◌, ◌-◌, ◌≤◌, nat_eq, length, get_or, not, ap, sym, ◌∙◌, arith}
use Rattle.std.specs.Prelude.{encode_utf8_all}
use Rattle.std.specs.Str.{chars}
use Rattle.std.proofs.lemmas.Bool.Decides.{nat_tests}
use Rattle.std.proofs.lemmas.Str.{encodes-chars}
use Rattle.ropey_tree.proofs.Ends.{no_cr_in_none}
use Rattle.ropey_tree.proofs.OverSeams.{last_is_cr}
use Rattle.ropey_tree.proofs.leaf.is_cr_last.Goals as goal

pub returns-then-not-is_empty : goal.returns-then-not-is_empty
returns-then-not-is_empty c =
    let text = chars c.args.text.now in
    let some : 1 ≤ length c.args.text.now = grind (arith, nat_tests, c.is_empty.ensures, c.if-not-is_empty.true) in
    let same : encode_utf8_all text ≡ c.args.text.now = encodes-chars c.args.text.now c.utf8.text in
    let bytes : c.as_bytes.result.now ≡ encode_utf8_all text = c.as_bytes.ensures.value ∙ sym same in
    let end = length c.args.text.now - 1 in
    let len : length (encode_utf8_all text) ≡ end + 1 = omega (arith, ap length same, some) in
    ap (λ bs. nat_eq (get_or bs end 0) 13) bytes ∙ last_is_cr text end len

pub returns-else-not-is_empty : goal.returns-else-not-is_empty
returns-else-not-is_empty c =
    let none : length c.args.text.now ≡ 0 = grind (arith, nat_tests, c.is_empty.ensures, c.if-not-is_empty.false) in
    ap not c.if-not-is_empty.false ∙ sym (no_cr_in_none c.args.text.now none)
