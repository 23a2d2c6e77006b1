use Rattle.std.proofs.Common.{◌≡◌, ◌++◌, [], ◌∷◌, length, inl, refl, ap, sym, ◌∙◌, arith, length-append}
use Rattle.std.specs.List.{concat}
use Rattle.std.specs.Str.{chars}
use Rattle.std.proofs.lemmas.List.{append-nil}
use Rattle.std.proofs.lemmas.Str.{encodes-chars}
use Rattle.str_indices.specs.Text.{byte_len, starts_with_lf, ends_with_cr}
use Rattle.ropey_tree.specs.Counts.{counts_of, minus}
use Rattle.ropey_tree.proofs.CuttingLaws.{counts-second}
use Rattle.ropey_tree.proofs.Editing.{not_both, one_replaced, replaced_in, piece_of, two_may}
use Rattle.ropey_tree.proofs.edits.with_text_replaced.Goals as goal

pub returns-in_default-clause-none : goal.returns-in_default-clause-none
returns-in_default-clause-none c = λ leaves h may. c.in_default.ensures.none (concat leaves) h

pub returns-then-not-has_ends_of-clause-none : goal.returns-then-not-has_ends_of-clause-none
returns-then-not-has_ends_of-clause-none c = λ leaves h may long.
    let f = chars c.in-Some.front.now in
    let g = chars c.in-Some.gone.now in
    let b = chars c.in-Some.back.now in
    let t = chars c.args.text.now in
    let e = c.in-Some.ensures in
    let same : concat leaves ≡ f ++ t ++ b = one_replaced c.args.leaf.now c.args.from c.args.to t (f ++ t ++ b) (concat leaves) (replaced_in c.args.leaf.now f g b t c.args.from c.args.to e.parts e.starts e.ends) h in
    let is : chars c.as_str-new.result.now ≡ concat leaves = ap chars c.as_str-new.ensures.value ∙ c.in_ok-whole.ensures.text ∙ sym same in
    absurd (not_both c.has_ends_of.result (c.has_ends_of.ensures.same (ap starts_with_lf is ∙ may.starts) (ap ends_with_cr is ∙ may.ends)) c.if-not-has_ends_of.true)

pub counts_replaced-counts-requires-clause-few : goal.counts_replaced-counts-requires-clause-few
counts_replaced-counts-requires-clause-few c = c.in-Some.ensures.whole

pub returns-then-new-lt-MAX_BYTES-clause-may_stand : goal.returns-then-new-lt-MAX_BYTES-clause-may_stand
returns-then-new-lt-MAX_BYTES-clause-may_stand c =
    let new = c.as_str-new.result.now in
    let leaf : c.of.result ≡ chars new = c.of.ensures ∙ sym (ap chars c.as_str-new.ensures.value) in
    let len = ap length c.as_str-new.ensures.value ∙ ap length c.in_ok-whole.ensures.bytes ∙ length-append (c.in-Some.front.now ++ c.args.text.now) c.in-Some.back.now in
    let front = length-append c.in-Some.front.now c.args.text.now in
    let one : concat (c.of.result ∷ []) ≡ chars new = append-nil c.of.result ∙ leaf in
    record {
      cut = rw leaf (piece_of new c.as_str-new.utf8 (omega (arith, len, front, c.in-Some.ensures.some)) (omega (arith, c.if-new-lt-MAX_BYTES.true)));
      starts = ap starts_with_lf one ∙ c.has_ends_of.ensures.starts c.if-not-has_ends_of.false;
      ends = ap ends_with_cr one ∙ c.has_ends_of.ensures.ends c.if-not-has_ends_of.false;
      number = inl refl;
    }

pub returns-then-new-lt-MAX_BYTES-clause-counted : goal.returns-then-new-lt-MAX_BYTES-clause-counted
returns-then-new-lt-MAX_BYTES-clause-counted c =
    let new = c.as_str-new.result.now in
    let leaf : c.of.result ≡ chars new = c.of.ensures ∙ sym (ap chars c.as_str-new.ensures.value) in
    let text : chars new ≡ chars c.in-Some.front.now ++ chars c.args.text.now ++ chars c.in-Some.back.now = ap chars c.as_str-new.ensures.value ∙ c.in_ok-whole.ensures.text in
    (c.counts_replaced-counts.ensures ∙ ap counts_of (sym (leaf ∙ text)), omega (arith, ap byte_len leaf, ap length (encodes-chars new c.as_str-new.utf8), c.if-new-lt-MAX_BYTES.true))

pub returns-clause-may_stand : goal.returns-clause-may_stand
returns-clause-may_stand c =
    let new = c.as_str-new.result.now in
    let a = c.in_ok-two.two.0 in
    let b = c.in_ok-two.two.1 in
    let e = c.in_ok-two.ensures in
    let both : concat (a ∷ b ∷ []) ≡ chars new = ap (λ t. a ++ t) (append-nil b) ∙ e.text in
    record {
      cut = e.cut;
      starts = ap starts_with_lf both ∙ c.has_ends_of.ensures.starts c.if-not-has_ends_of.false;
      ends = ap ends_with_cr both ∙ c.has_ends_of.ensures.ends c.if-not-has_ends_of.false;
      number = two_may a b (chars new) e.text (omega (arith, ap length (encodes-chars new c.as_str-new.utf8), c.if-new-lt-MAX_BYTES.false)) e.front e.back;
    }

pub returns-clause-counted : goal.returns-clause-counted
returns-clause-counted c =
    let a = c.in_ok-two.two.0 in
    let b = c.in_ok-two.two.1 in
    let new = c.as_str-new.result.now in
    let text : chars new ≡ chars c.in-Some.front.now ++ chars c.args.text.now ++ chars c.in-Some.back.now = ap chars c.as_str-new.ensures.value ∙ c.in_ok-whole.ensures.text in
    let whole = c.counts_replaced-counts.ensures ∙ ap counts_of (sym text) in
    (c.counts-less.ensures, c.saturating_sub-more.ensures ∙ ap (λ k. minus k c.counts-less.result) whole ∙ ap (minus (counts_of (chars new))) c.counts-less.ensures ∙ counts-second a b (chars new) c.in_ok-two.ensures.cut c.in_ok-two.ensures.text)
