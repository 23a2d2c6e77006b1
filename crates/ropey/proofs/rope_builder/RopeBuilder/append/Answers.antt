use Rattle.std.proofs.Common.{◌≡◌, ◌+◌, length, ap, sym, ◌∙◌, refl, arith}
use Rattle.std.specs.Str.{chars}
use Rattle.std.proofs.lemmas.Str.{encodes-chars}
use Rattle.str_indices.specs.Text.{byte_len}
use Rattle.ropey.proofs.Pieces.{byte_len-append}
use Rattle.ropey.proofs.rope_builder.RopeBuilder.append.Goals as goal

pub returns-then-text-self-clause-size : goal.returns-then-text-self-clause-size
returns-then-text-self-clause-size c =
    let len : byte_len c.args.self.now ≡ c.self.inside.len = ap byte_len (sym c.self.view_is) ∙ sym c.self.invariant.0 in
    (λ _. omega (arith, c.if-text-self.true, len, c.self.invariant.1), λ _. refl)

pub invariant_of-self-2 : goal.invariant_of-self-2
invariant_of-self-2 c =
    let text = c.args.text.now in
    let whole : byte_len c.append.new.self ≡ c.self.inside.len + length text =
    ap byte_len c.in_ok-append.ensures.text ∙ byte_len-append c.self.inside.text (chars text) ∙ omega (arith, c.self.invariant.0, ap length (encodes-chars text c.utf8.text)) in
    (sym whole, omega (arith, c.if-text-self.false, c.self.invariant.1))
