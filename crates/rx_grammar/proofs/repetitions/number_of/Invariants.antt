use Rattle.std.proofs.Common.{◌≡◌, ◌≤◌, true, drop}
use Rattle.std.specs.Char.{is_ascii_digit}
use Rattle.std.specs.List.{AllByRecursion}
use Rattle.rx_grammar.specs.Repetitions.{decimal_after}
use Rattle.rx_grammar.proofs.repetitions.number_of.Given as goal

abbrev pub invariant-loop-digit : goal.invariant-loop-digit
invariant-loop-digit l = record {
  value : decimal_after l.number (drop l.digit-index l.digits) ≡ decimal_after 0 l.digits;
  left : AllByRecursion (λ c. is_ascii_digit c ≡ true) l.digits → AllByRecursion (λ c. is_ascii_digit c ≡ true) (drop l.digit-index l.digits);
  bound : l.number ≤ 65535;
}
