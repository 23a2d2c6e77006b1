use Rattle.std.proofs.Common.{◌≡◌, ℕ, ◌<◌, ◌+◌, ◌++◌, [], length, get_or, drop, sym, ap, subst, ◌∙◌, arith}
use Rattle.rx_utf8.specs.Subsets.{is_place, lists_of, sources}
use Rattle.rx_utf8.proofs.SourceLaws.{fill_taken, fill_left}
use Rattle.rx_utf8.proofs.entries.set_sources.Goals.{then-is_place+in_ok-push_source, else-is_place}
use Rattle.rx_utf8.proofs.entries.set_sources.Goals as goal

pub loop-entry-preserved : goal.loop-entry-preserved
loop-entry-preserved c =
    let into = is_place c.args.end c.args.states.now in
    let entries = c.args.entries.now in
    let i = c.loop-entry.entry-index in
    let inv = c.loop-entry.invariant in
    let within : i < length entries = omega arith in
    elim c.if-is_place.branch [
      | then-is_place+in_ok-push_source w ↦ record {
        len = ap (λ v. length v.items) w.lists-is ∙ w.push_source.ensures.len;
        lists = subst (λ v. (b : ℕ) → get_or (lists_of v.items) b [] ++ sources into (drop (i + 1) entries) b ≡ sources into entries b) (sym w.lists-is)
            (fill_taken into entries i _ (lists_of c.loop-entry.lists.items) (lists_of w.push_source.new.lists.items) within (sym c.is_place.ensures ∙ w.if-is_place.true) w.in_ok-push_source.ensures.lists inv.lists);
      }
      | else-is_place w ↦ record {
        len = ap (λ v. length v.items) w.lists-is ∙ inv.len;
        lists = subst (λ v. (b : ℕ) → get_or (lists_of v.items) b [] ++ sources into (drop (i + 1) entries) b ≡ sources into entries b) (sym w.lists-is)
            (fill_left into entries i _ (lists_of c.loop-entry.lists.items) within (sym c.is_place.ensures ∙ w.if-is_place.false) inv.lists);
      }
    ]
