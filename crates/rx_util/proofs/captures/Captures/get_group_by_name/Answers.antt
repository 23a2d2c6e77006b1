use Rattle.rx_util.proofs.captures.Captures.get_group_by_name.Goals as goal

pub returns-clause-unnamed : goal.returns-clause-unnamed
returns-clause-unnamed c = λ none. absurd (none c.in_ok-index.index ((c.group_named.ensures c.in_ok-index.index).0 c.in_ok-index.was))
