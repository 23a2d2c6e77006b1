use Rattle.std.proofs.Common.{◌≡◌, ◌≤◌, length, chars, IfOk, IfErr, rules, ap, subst, ◌∙◌, arith}
use Rattle.std.proofs.lemmas.Str.{chars_from_encodes, encodes-chars}
use Rattle.rx_grammar.specs.Postorder.{tree_of}
use Rattle.rx_grammar.specs.Grammar.{Spells}
use Rattle.rx_grammar.specs.Stacks.{IsReason}
use Rattle.rx_grammar.proofs.OutcomeLaws.{nesting_exactly, outside_exactly}
use Rattle.rx_grammar.proofs.patterns.parse.Goals as goal

pub returns-then-text-gt-MAX_BYTES-clause-nesting : goal.returns-then-text-gt-MAX_BYTES-clause-nesting
returns-then-text-gt-MAX_BYTES-clause-nesting c =
    let long = c.if-text-gt-MAX_BYTES.true in
    let same = ap length (encodes-chars c.args.text.now c.utf8.text) in
    λ some. (λ e. absurd (cc), λ deep. absurd (omega (arith, deep.spells.size, same, long)))

pub returns-clause-spells : goal.returns-clause-spells
returns-clause-spells c =
    let items : c.in_ok-characters.characters.items ≡ chars c.args.text.now = search (rules, chars_from_encodes) in
    subst (λ x. IfOk c.parse_characters.result (λ hir. Spells x c.args.config.now (tree_of hir))) (c.deref.ensures.value ∙ items) c.parse_characters.ensures.spells

pub returns-clause-nesting : goal.returns-clause-nesting
returns-clause-nesting c =
    let items : c.in_ok-characters.characters.items ≡ chars c.args.text.now = search (rules, chars_from_encodes) in
    let text = c.deref.ensures.value ∙ items in
    let spells = subst (λ x. IfOk c.parse_characters.result (λ hir. Spells x c.args.config.now (tree_of hir))) text c.parse_characters.ensures.spells in
    let refused = subst (λ x. IfErr c.parse_characters.result (λ e. IsReason e x c.args.config.now)) text c.parse_characters.ensures.refused in
    nesting_exactly (chars c.args.text.now) c.args.config.now (λ hir. tree_of hir) c.parse_characters.result spells refused

pub returns-clause-outside : goal.returns-clause-outside
returns-clause-outside c =
    let items : c.in_ok-characters.characters.items ≡ chars c.args.text.now = search (rules, chars_from_encodes) in
    let text = c.deref.ensures.value ∙ items in
    let spells = subst (λ x. IfOk c.parse_characters.result (λ hir. Spells x c.args.config.now (tree_of hir))) text c.parse_characters.ensures.spells in
    let refused = subst (λ x. IfErr c.parse_characters.result (λ e. IsReason e x c.args.config.now)) text c.parse_characters.ensures.refused in
    let fits : length c.args.text.now ≤ 65536 = omega (arith, c.if-text-gt-MAX_BYTES.false) in
    outside_exactly (chars c.args.text.now) c.args.config.now (λ hir. tree_of hir) (length c.args.text.now) c.parse_characters.result fits spells refused
