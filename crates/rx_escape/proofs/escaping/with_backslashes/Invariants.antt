use Rattle.std.proofs.Common.{◌≡◌, encode_utf8_all, string_bytes}
use Rattle.rx_escape.specs.Escaped.{escaped}
use Rattle.rx_escape.proofs.escaping.with_backslashes.Given as goal

abbrev pub invariant-loop-c : goal.invariant-loop-c
invariant-loop-c l = string_bytes l.pattern ≡ encode_utf8_all (escaped l.yielded)
