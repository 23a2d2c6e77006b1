use Rattle.std.proofs.Common.{◌≡◌, ◌+◌, ◌-◌, ◌<◌, map, ap, subst, arith}
use Rattle.std.proofs.lemmas.List.{length-map}
use Rattle.rope_search_reports.specs.Turned.{Lead}
use Rattle.rope_search.specs.Histories.{Texts, text_at, changes_at}
use Rattle.rope_search.specs.TextChanges.{AreTextChanges, ranges_of, turned_range}
use Rattle.rope_search.proofs.HistoryLemmas.{text_in, changes_in, led-to}
use Rattle.rope_search.proofs.TextChangeLemmas.{back-ranges}
use Rattle.rope_search.proofs.history.History.step_back.Goals as goal

pub invariant_of-self : goal.invariant_of-self
invariant_of-self c =
    let items = c.self.inside.versions.items in
    let texts = map text_in items in
    let changes = map changes_in items in
    let current = c.self.inside.current in
    let later : 0 < current = omega (arith, c.requires, ap (λ (t : Texts). t.current) c.self.view_is) in
    let lead = led-to texts changes current c.self.invariant.1 (λ none. absurd (omega (arith, none, later)))
    (omega (arith, c.self.invariant.0, length-map items text_in, c.self.inside.versions.ok.0)) in
    let same : current ≡ current - 1 + 1 = omega (arith, later) in (
      omega (arith, c.self.invariant.0),
      c.self.invariant.1,
      (text_at texts (current - 1), text_at texts current, subst (λ k. Lead (changes_at changes k) (text_at texts (current - 1)) (text_at texts current)) same lead),
    )

pub returns-clause-ranges : goal.returns-clause-ranges
returns-clause-ranges c =
    let items = c.self.inside.versions.items in
    let texts = map text_in items in
    let changes = map changes_in items in
    let current = c.self.inside.current in
    let later : 0 < current = omega (arith, c.requires, ap (λ (t : Texts). t.current) c.self.view_is) in
    let lead = led-to texts changes current c.self.invariant.1 (λ none. absurd (omega (arith, none, later)))
    (omega (arith, c.self.invariant.0, length-map items text_in, c.self.inside.versions.ok.0)) in
    let same : current ≡ current - 1 + 1 = omega (arith, later) in
    let seen = c.args.self.now in
    let lead' = subst (λ (t : Texts). Lead (changes_at changes current) (text_at t.texts (current - 1)) (text_at t.texts current)) c.self.view_is lead in
    let back = back-ranges (changes_at changes current) (text_at seen.texts (current - 1)) (text_at seen.texts current) c.text-2.ensures.scalars c.text.ensures.scalars lead' in
    subst (λ k. AreTextChanges (text_at seen.texts k) (text_at seen.texts (k - 1)) (map turned_range (ranges_of (changes_at changes (current - 1 + 1)))))
    (ap (λ (t : Texts). t.current) c.self.view_is)
    (subst (λ k. AreTextChanges (text_at seen.texts current) (text_at seen.texts (current - 1)) (map turned_range (ranges_of (changes_at changes k)))) same back)
