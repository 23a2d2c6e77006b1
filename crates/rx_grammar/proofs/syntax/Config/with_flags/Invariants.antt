use Rattle.std.proofs.Common.{◌≡◌, drop}
use Rattle.rx_grammar.specs.Settings.{with_flags}
use Rattle.rx_grammar.proofs.syntax.Config.with_flags.Given as goal

-- the flags that are left bring the settings so far to those of all flags
abbrev pub invariant-loop-flag : goal.invariant-loop-flag
invariant-loop-flag l = with_flags l.on l.changed (drop l.flag-index l.flags) ≡ with_flags l.on l.self l.flags
