use Rattle.std.proofs.Common.{subst, ⊎_elim}
use Rattle.rx_grammar.specs.Input.{Begins}
use Rattle.rx_grammar.specs.Heads.{FlagsChange}
use Rattle.rx_grammar.proofs.InputLemmas.{Begins-from}
use Rattle.rx_grammar.proofs.GroupLaws.{flags_unique}
use Rattle.rx_grammar.proofs.HeadLaws.{no_flagged_head, setting_head, changing_head}
use Rattle.rx_grammar.proofs.groups.flagged_head.Goals as goal

pub returns-in_default : goal.returns-in_default
returns-in_default c = no_flagged_head c.args.config.now c.requires.colon c.requires.name (λ on off w u flags close. (rw c.in_default.is at c.in_ok-changed.ensures) on off w flags)

pub returns-in-Some-eat : goal.returns-in-Some-eat
returns-in-Some-eat c = setting_head (rw c.in-Some.is at c.in_ok-changed.ensures) c.in-Some-eat.ensures

pub returns-in-Some-eat-2 : goal.returns-in-Some-eat-2
returns-in-Some-eat-2 c = changing_head (rw c.in-Some.is at c.in_ok-changed.ensures) c.in-Some-eat-2.ensures

pub returns-in-None : goal.returns-in-None
returns-in-None c =
    let change : FlagsChange c.args.config.now c.args.text.now c.in-Some.changed c.in-Some.rest.now = rw c.in-Some.is at c.in_ok-changed.ensures in
    no_flagged_head c.args.config.now c.requires.colon c.requires.name (λ on off w u flags close.
    let same = flags_unique flags change.reads in
    ⊎_elim (λ e. c.in_default-eat.ensures (subst (Begins 41) same.2 (Begins-from e))) (λ e. c.in-None.ensures (subst (Begins 58) same.2 (Begins-from e))) close)
