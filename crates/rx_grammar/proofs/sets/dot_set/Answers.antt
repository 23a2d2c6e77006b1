use Rattle.std.proofs.Common.{◌≡◌, ◌≢◌, ℕ, Bool, true, false, sym, subst, ◌∙◌}
use Rattle.rx_grammar.specs.Sets.{IsSetOf}
use Rattle.rx_grammar.proofs.ReaderLemmas.{IfOk-map}
use Rattle.rx_grammar.proofs.sets.dot_set.Goals as goal

-- what `.` matches, by its flag and the terminator
abbrev dot_if : Bool → ℕ → ℕ → Type 0
dot_if all terminator d = elim all [ true ↦ Unit {0} | false ↦ d ≢ terminator ]

pub returns-then-get_dot_matches_new_line : goal.returns-then-get_dot_matches_new_line
returns-then-get_dot_matches_new_line c =
    let settings = c.args.config.now in
    let on : true ≡ settings.dot_matches_new_line = sym c.if-get_dot_matches_new_line.true ∙ c.get_dot_matches_new_line.ensures in
    IfOk-map c.any.result _ _ c.any.ensures (λ set is. subst (λ (b : Bool). IsSetOf set.value (λ d. dot_if b settings.line_terminator d)) on is)

pub returns-else-get_dot_matches_new_line : goal.returns-else-get_dot_matches_new_line
returns-else-get_dot_matches_new_line c =
    let settings = c.args.config.now in
    let off : false ≡ settings.dot_matches_new_line = sym c.if-get_dot_matches_new_line.false ∙ c.get_dot_matches_new_line.ensures in
    let same : c.from.result ≡ settings.line_terminator = c.from.ensures ∙ c.get_line_terminator.ensures in
    IfOk-map c.all_but.result _ _ c.all_but.ensures
    (λ set is. subst (λ (b : Bool). IsSetOf set.value (λ d. dot_if b settings.line_terminator d)) off
    (subst (λ (t : ℕ). IsSetOf set.value (λ d. d ≢ t)) same is))
