use Rattle.std.proofs.Common.{inl, inr}
use Rattle.rx_grammar.specs.Settings.{default_settings}
use Rattle.regex_cursor.proofs.laws.tree_or_none.Goals as goal

pub returns : goal.returns
returns c = λ text. elim (c.spells_or_not.ensures text default_settings) [
  | inl some ↦ inl some
  | inr none ↦ elim none [ inl deep ↦ inr deep.nothing | inr never ↦ inr (never default_settings.nest_limit) ]
]
