use Rattle.std.proofs.Common.{◌≡◌, ℕ, suc, ◌+◌, ◌-◌, List, length, take, drop, arith, ap, subst, ◌∙◌}
use Rattle.std.proofs.lemmas.List.{nil_from_length, take_all, length-drop}
use Rattle.std.proofs.lemmas.Str.{chars-nil}
use Rattle.std.specs.Str.{chars}
use Rattle.rope_search_templates.proofs.PieceLemmas.{first-pair, pair-ends, first-text, none-up-to, HasNoDollar}
use Rattle.rope_search_templates.proofs.pieces.first_piece.Goals as goal

pub returns-in_default-clause-none : goal.returns-in_default-clause-none
returns-in_default-clause-none c = ap chars (nil_from_length c.args.left.now (omega arith)) ∙ chars-nil

pub range_from-requires : goal.range_from-requires
range_from-requires c = λ _. pair-ends c.args.left.now c.in-Some.piece c.utf8.left c.in-Some.ensures.pair

pub returns-in-Some-clause-piece : goal.returns-in-Some-clause-piece
returns-in-Some-clause-piece c = first-pair c.args.left.now c.range_from.result.now c.in-Some.piece c.utf8.left c.in-Some.ensures.pair c.range_from.ensures.value

pub returns-clause-piece : goal.returns-clause-piece
returns-clause-piece c =
    let left = c.args.left.now in
    let bytes = c.as_bytes.result.now in
    let n = c.unwrap_or-len.result in
    let hay : take (length bytes - 1) (drop 1 bytes) ≡ drop 1 left = take_all (length bytes - 1) (drop 1 bytes) (omega (arith, length-drop 1 bytes)) ∙ ap (drop 1) c.as_bytes.ensures.value in
    let none : HasNoDollar (take n (drop 1 left)) = subst (λ (h : List ℕ). HasNoDollar (take n h)) hay (rw c.unwrap_or-len.ensures (none-up-to _ _ c.memchr.ensures)) in
    let more : 1 + n ≡ suc n = omega arith in
    let front : 1 + n - 0 ≡ suc n = omega arith in
    first-text left c.range_from-2.result.now c.range.result n c.utf8.left (record {
      some = omega arith;
      text_utf8 = c.range.utf8;
      text_is = c.range.ensures.value ∙ ap (λ k. take k left) front;
      behind_is = c.range_from-2.ensures.value ∙ ap (λ k. drop k left) more;
      none = none;
      plain = c.in_default-pair.ensures.none;
    })
