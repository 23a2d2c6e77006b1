use Rattle.std.proofs.Common.{◌≡◌, ◌∷◌, Some, encode_utf8_all, rules, sym, subst, ◌∙◌}
use Rattle.std.specs.String.{string_bytes}
use Rattle.rx_grammar.specs.Groups.{Opening, numbered, unnumbered}
use Rattle.rx_grammar.proofs.GroupLaws.{name_bytes}
use Rattle.rx_grammar.proofs.HeadLaws.{colon_head, no_name_head, name_head}
use Rattle.rx_grammar.proofs.groups.marked_head.Goals as goal

pub returns-in-Some : goal.returns-in-Some
returns-in-Some c =
    let s = c.args.config.now in
    subst (λ x. Opening s (40 ∷ 63 ∷ c.args.text.now) x unnumbered c.in-Some.rest.now) (sym c.copied.ensures) (colon_head s c.in-Some.ensures)

pub returns-in_default-group_name : goal.returns-in_default-group_name
returns-in_default-group_name c = no_name_head c.args.config.now c.in-Some-before_name.ensures c.in_default-group_name.ensures

pub returns : goal.returns
returns c =
    let s = c.args.config.now in
    let u = c.in-Some-group_name.rest.now in
    let name = c.in-Some-group_name.name.now in
    let kept : string_bytes c.in_ok-collect.field-0 ≡ encode_utf8_all name = search rules in
    let is = kept ∙ name_bytes name c.in-Some-group_name.ensures.0 in
    let opened = name_head s c.in-Some-before_name.ensures c.in-Some-group_name.ensures.0 c.in-Some-group_name.ensures.1 in
    let named = subst (λ x. Opening s (40 ∷ 63 ∷ c.args.text.now) s (numbered (Some x)) u) (sym is) opened in
    subst (λ x. Opening s (40 ∷ 63 ∷ c.args.text.now) x (numbered (Some (string_bytes c.in_ok-collect.field-0))) u) (sym c.copied-3.ensures) named
