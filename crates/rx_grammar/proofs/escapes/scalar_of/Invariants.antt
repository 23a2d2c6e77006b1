use Rattle.std.proofs.Common.{◌≡◌, ◌≤◌, true, drop}
use Rattle.std.specs.Char.{is_ascii_hexdigit}
use Rattle.std.specs.List.{AllByRecursion}
use Rattle.rx_grammar.specs.Escapes.{hex_after}
use Rattle.rx_grammar.proofs.escapes.scalar_of.Given as goal

abbrev pub invariant-loop-digit : goal.invariant-loop-digit
invariant-loop-digit l = record {
  value : hex_after l.code (drop l.digit-index l.digits) ≡ hex_after 0 l.digits;
  left : AllByRecursion (λ c. is_ascii_hexdigit c ≡ true) l.digits → AllByRecursion (λ c. is_ascii_hexdigit c ≡ true) (drop l.digit-index l.digits);
  whole : AllByRecursion (λ c. is_ascii_hexdigit c ≡ true) (drop l.digit-index l.digits) → AllByRecursion (λ c. is_ascii_hexdigit c ≡ true) l.digits;
  bound : l.code ≤ 0x10_FFFF;
}
