use Rattle.std.proofs.Common.{◌∙◌, ap}
use Rattle.std.specs.Str.{chars}
use Rattle.rx_walks.specs.Characters.{only_one}
use Rattle.rx_steps.proofs.SideLaws.{one_of_text, none_of_others}
use Rattle.rx_steps.proofs.sides.character_of.Goals as goal

pub returns-in-Ok : goal.returns-in-Ok
returns-in-Ok c = one_of_text c.args.bytes.now c.only_one.result c.in-Ok.ensures.cases.1 (c.only_one.ensures ∙ ap (λ bytes. only_one (chars bytes)) c.in-Ok.ensures.cases.0)

pub returns-in-Err : goal.returns-in-Err
returns-in-Err c = none_of_others c.args.bytes.now c.in-Err.ensures.cases.0
