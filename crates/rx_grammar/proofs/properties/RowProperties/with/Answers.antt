use Rattle.std.proofs.Common.{◌≡◌, ◌&&◌, ◌||◌, Some, refl, sym, ap, ap₂, ◌∙◌, arith}
use Rattle.rx_grammar.specs.declared.properties.Properties.{Properties}
use Rattle.rx_grammar.specs.StaticGroups.{both_groups}
use Rattle.rx_grammar.specs.Rows.{common_with}
use Rattle.rx_grammar.proofs.RowLaws.{IsRowOf-more}
use Rattle.rx_grammar.proofs.StaticGroupLaws.{groups_in-last, common_in-last, groups_in-le, static_groups-less}
use Rattle.rx_grammar.proofs.properties.RowProperties.with.Goals.{then-self, else-self}
use Rattle.rx_grammar.proofs.properties.RowProperties.with.Goals as goal

pub returns-then-self-2 : goal.returns-then-self-2
returns-then-self-2 c = λ trees tree is known.
    let all : c.if-self.result ≡ (c.args.self.all_may_be_empty && c.args.part.may_be_empty) = elim c.if-self.branch [
      | then-self w ↦ w.result-is ∙ sym (ap (λ b. b && c.args.part.may_be_empty) w.if-self.true)
      | else-self w ↦ w.result-is ∙ w.if-self.false ∙ sym (ap (λ b. b && c.args.part.may_be_empty) w.if-self.false)
    ] in
    let own = ap (λ (p : Properties). p.static_groups) known in
    let fits = c.both-groups.ensures (λ n m e d. omega (arith, c.requires, is.extent, ap (λ (p : Properties). p.extent) known, groups_in-le trees (sym is.groups ∙ e), static_groups-less tree (sym own ∙ d))) in
    let groups = fits ∙ ap₂ (λ a b. both_groups a b) is.groups own ∙ sym (groups_in-last trees tree) in
    let common = ap Some (c.common_with.ensures ∙ ap₂ (λ a b. common_with a b) own is.common) ∙ sym (common_in-last trees tree) in
    IsRowOf-more tree is known refl c.saturating_add.ensures c.saturating_add-2.ensures all (c.if-self-2.true ∙ sym (ap (λ b. b || c.args.part.may_be_empty) c.if-self-2.true)) groups common

pub returns-else-self-2 : goal.returns-else-self-2
returns-else-self-2 c = λ trees tree is known.
    let all : c.if-self.result ≡ (c.args.self.all_may_be_empty && c.args.part.may_be_empty) = elim c.if-self.branch [
      | then-self w ↦ w.result-is ∙ sym (ap (λ b. b && c.args.part.may_be_empty) w.if-self.true)
      | else-self w ↦ w.result-is ∙ w.if-self.false ∙ sym (ap (λ b. b && c.args.part.may_be_empty) w.if-self.false)
    ] in
    let own = ap (λ (p : Properties). p.static_groups) known in
    let fits = c.both-groups.ensures (λ n m e d. omega (arith, c.requires, is.extent, ap (λ (p : Properties). p.extent) known, groups_in-le trees (sym is.groups ∙ e), static_groups-less tree (sym own ∙ d))) in
    let groups = fits ∙ ap₂ (λ a b. both_groups a b) is.groups own ∙ sym (groups_in-last trees tree) in
    let common = ap Some (c.common_with.ensures ∙ ap₂ (λ a b. common_with a b) own is.common) ∙ sym (common_in-last trees tree) in
    IsRowOf-more tree is known refl c.saturating_add.ensures c.saturating_add-2.ensures all (sym (ap (λ b. b || c.args.part.may_be_empty) c.if-self-2.false)) groups common
