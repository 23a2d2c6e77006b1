use Rattle.std.proofs.Common.{sym, ◌∙◌}
use Rattle.rx_util.proofs.NameLemmas.{name_at}
use Rattle.rx_util.proofs.captures.name_of_group.Goals as goal

pub returns : goal.returns
returns c =
    c.text_of.ensures ∙ sym (name_at c.args.groups.now c.args.group c.index-groups-group.result c.if-group-eq0.false c.if-group-groups.false c.index-groups-group.is)
