use Rattle.std.proofs.Common.{refl, arith}
use Rattle.std.proofs.lemmas.Str.{IsUtf8-string_bytes}
use Rattle.rx_escape.proofs.EscapedLaws.{bytes_no_shorter, spells_text}
use Rattle.rx_escape.proofs.escaping.escape.Goals as goal

pub returns-then-text-gt-MAX_BYTES-clause-too_long : goal.returns-then-text-gt-MAX_BYTES-clause-too_long
returns-then-text-gt-MAX_BYTES-clause-too_long c =
    let long = bytes_no_shorter c.args.text.now c.utf8.text in
    λ some. (λ is. omega (arith, long, c.if-text-gt-MAX_BYTES.true), λ more. refl)

pub returns-clause-spells : goal.returns-clause-spells
returns-clause-spells c =
    spells_text _ _ (IsUtf8-string_bytes c.in_ok-pattern.pattern) c.utf8.text c.in_ok-pattern.ensures (omega (arith, c.len.ensures, c.if-len-gt-MAX_BYTES.false))
