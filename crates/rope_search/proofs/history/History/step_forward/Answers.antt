use Rattle.std.proofs.Common.{◌+◌, ◌<◌, length, map, ap, subst, arith}
use Rattle.std.proofs.lemmas.List.{length-map}
use Rattle.rope_search_reports.specs.Turned.{Lead}
use Rattle.rope_search.specs.Histories.{Texts, text_at, changes_at}
use Rattle.rope_search.specs.TextChanges.{AreTextChanges, ranges_of}
use Rattle.rope_search.proofs.HistoryLemmas.{text_in, changes_in}
use Rattle.rope_search.proofs.TextChangeLemmas.{led-ranges}
use Rattle.rope_search.proofs.history.History.step_forward.Goals as goal

pub invariant_of-self : goal.invariant_of-self
invariant_of-self c =
    let items = c.self.inside.versions.items in
    let texts = map text_in items in
    let current = c.self.inside.current in
    let inside : current + 1 < length texts = omega (arith, c.requires, ap (λ (t : Texts). t.current) c.self.view_is, ap (λ (t : Texts). length t.texts) c.self.view_is) in (
      omega (arith, inside, length-map items text_in, c.self.inside.versions.ok.0),
      c.self.invariant.1,
      (text_at texts current, text_at texts (current + 1), c.self.invariant.1 current inside),
    )

pub returns-clause-ranges : goal.returns-clause-ranges
returns-clause-ranges c =
    let items = c.self.inside.versions.items in
    let texts = map text_in items in
    let changes = map changes_in items in
    let current = c.self.inside.current in
    let inside : current + 1 < length texts = omega (arith, c.requires, ap (λ (t : Texts). t.current) c.self.view_is, ap (λ (t : Texts). length t.texts) c.self.view_is) in
    let seen = c.args.self.now in
    let lead = subst (λ (t : Texts). Lead (changes_at changes (current + 1)) (text_at t.texts current) (text_at t.texts (current + 1))) c.self.view_is (c.self.invariant.1 current inside) in
    let on = led-ranges (changes_at changes (current + 1)) (text_at seen.texts current) (text_at seen.texts (current + 1)) c.text.ensures.scalars c.text-2.ensures.scalars lead in
    subst (λ k. AreTextChanges (text_at seen.texts k) (text_at seen.texts (k + 1)) (ranges_of (changes_at changes (current + 1)))) (ap (λ (t : Texts). t.current) c.self.view_is) on
