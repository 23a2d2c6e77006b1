use Rattle.std.proofs.Common.{ap, sym, ◌∙◌, option_map}
use Rattle.rx_util.specs.Groups.{names_of}
use Rattle.rx_util.proofs.NameLemmas.{named_exactly}
use Rattle.rx_util.proofs.captures.GroupInfo.to_index.Goals as goal

pub returns : goal.returns
returns c =
    named_exactly c.args.self.now c.args.pid _ c.args.name.now c.group_named.result c.further_names.ensures.distinct
    (sym c.further_names.ensures.names ∙ ap (option_map (λ names. names_of names.now)) c.in_ok-further_names.was) c.group_named.ensures
