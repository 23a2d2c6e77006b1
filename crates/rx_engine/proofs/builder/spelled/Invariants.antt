use Rattle.std.proofs.Common.{map, take}
use Rattle.rx_grammar.specs.Postorder.{tree_of}
use Rattle.rx_engine.specs.Engines.{Spell}
use Rattle.rx_engine.proofs.builder.spelled.Given as goal

-- what the patterns so far spell
abbrev pub invariant-loop-number : goal.invariant-loop-number
invariant-loop-number l = Spell (take l.number (map (λ text. text.now) l.patterns)) l.settings (map tree_of l.hirs.items)
