use Rattle.std.proofs.Common.{◌≡◌, ◌+◌, ◌-◌, ◌<◌, ◌≤◌, List, [], ◌∷◌, ◌++◌, length, take, drop, map, refl, ap, sym, subst, ◌∙◌, arith}
use Rattle.std.specs.Prelude.{Option, option_map}
use Rattle.std.proofs.lemmas.List.{length-map}
use Rattle.rope_search_reports.specs.Turned.{Lead, listed}
use Rattle.rope_search_reports.specs.declared.changes.Changes.{Changes}
use Rattle.rope_search_changes.specs.declared.Change.{Change}
use Rattle.rope_search.specs.declared.history.Version.{Version}
use Rattle.rope_search.specs.Histories.{LeadSomewhere, Texts, changes_at, changes_last, text_at}
use Rattle.rope_search.specs.JoinedSteps.{AreComposed, JoinsChanges, number_joined}
use Rattle.rope_search.proofs.HistoryLemmas.{text_in, changes_in}
use Rattle.rope_search.proofs.UndoStepLemmas.{seen_at}
use Rattle.rope_search.proofs.JoinedLemmas.{among, joined_versions, last_joined, led_part}
use Rattle.rope_search.proofs.history.History.join.Goals as goal

pub changes_between-requires-clause-led : goal.changes_between-requires-clause-led
changes_between-requires-clause-led c =
    led_part c.self.inside.versions.items c.deref.result.now c.self.inside.current c.args.steps c.deref.ensures.value c.self.invariant.1

pub invariant_of-self : goal.invariant_of-self
invariant_of-self c =
    let items = c.self.inside.versions.items in
    let current = c.self.inside.current in
    let steps = c.args.steps in
    let version : Version = record { text = c.index_mut.result.now.text; changes = c.replace-led.new.dest } in
    let within : steps ≤ current = omega (arith, c.requires, ap (λ (t : Texts). t.current) c.self.view_is) in
    let inside : current < length items = omega (arith, c.self.invariant.0, c.self.inside.versions.ok.0) in
    let made : changes_in version ≡ listed c.in_ok-changes.changes = ap listed c.replace-led.ensures.after in
    let all = c.deref.ensures.value in
    let lead = subst (λ vs. Lead (changes_in version) (text_at (map text_in (among vs current steps)) 0) (text_at (map text_in (among vs current steps)) (length (among vs current steps) - 1))) all
    (subst (λ cs. Lead cs (text_at (map text_in (among c.deref.result.now current steps)) 0)
    (text_at (map text_in (among c.deref.result.now current steps)) (length (among c.deref.result.now current steps) - 1))) (sym made) c.in_ok-changes.ensures.lead) in
    let are = subst (λ vs. AreComposed (drop 1 (map changes_in (among vs current steps))) (changes_in version)) all
    (subst (AreComposed (drop 1 (map changes_in (among c.deref.result.now current steps)))) (sym made) c.in_ok-changes.ensures.composed) in
    let joined = joined_versions items c.remove.new.versions.items current steps version c.index_mut.result.now (omega (arith, c.if-steps-le1.false)) within inside c.self.invariant.1
    c.remove.ensures.items (ap text_in c.index_mut.ensures.value) lead are in
    let number : current - steps + 1 ≡ number_joined current steps = omega (arith, c.if-steps-le1.false, within) in
    let led : listed c.replace-led.result ≡ changes_at (map changes_in items) current =
    ap listed (c.replace-led.ensures.value ∙ ap (λ (v : Version). v.changes) c.index_mut.ensures.value) ∙ sym (seen_at changes_in items current c.index_mut.result.now [] inside) in
    let last = ap (λ (cs : List (List Change)). changes_last (option_map listed c.apart_of.result) c.self.inside.is_back cs (current - steps + 1)) joined.changes
    ∙ ap (λ n. changes_last (option_map listed c.apart_of.result) c.self.inside.is_back
    (take (number_joined current steps) (map changes_in items) ++ changes_in version ∷ drop (current + 1) (map changes_in items)) n) number
    ∙ last_joined c.replace-apart.result c.apart_of.result c.self.inside.is_back c.replace-led.result (map changes_in items) (changes_in version) current (number_joined current steps)
    (omega (arith, inside, length-map items changes_in)) (omega arith) led c.apart_of.ensures.kept c.apart_of.ensures.undone (λ none front. c.apart_of.ensures.first none front refl)
    ∙ ap (λ (o : Option Changes). changes_last (option_map listed o) c.self.inside.is_back (map changes_in items) current) c.replace-apart.ensures.value in
    (omega (arith, number, joined.inside, c.remove.new.versions.ok.0), joined.led, subst LeadSomewhere (sym last) c.self.invariant.2)

pub returns-clause-texts : goal.returns-clause-texts
returns-clause-texts c =
    let items = c.self.inside.versions.items in
    let current = c.self.inside.current in
    let steps = c.args.steps in
    let version : Version = record { text = c.index_mut.result.now.text; changes = c.replace-led.new.dest } in
    let within : steps ≤ current = omega (arith, c.requires, ap (λ (t : Texts). t.current) c.self.view_is) in
    let inside : current < length items = omega (arith, c.self.invariant.0, c.self.inside.versions.ok.0) in
    let made : changes_in version ≡ listed c.in_ok-changes.changes = ap listed c.replace-led.ensures.after in
    let all = c.deref.ensures.value in
    let lead = subst (λ vs. Lead (changes_in version) (text_at (map text_in (among vs current steps)) 0) (text_at (map text_in (among vs current steps)) (length (among vs current steps) - 1))) all
    (subst (λ cs. Lead cs (text_at (map text_in (among c.deref.result.now current steps)) 0)
    (text_at (map text_in (among c.deref.result.now current steps)) (length (among c.deref.result.now current steps) - 1))) (sym made) c.in_ok-changes.ensures.lead) in
    let are = subst (λ vs. AreComposed (drop 1 (map changes_in (among vs current steps))) (changes_in version)) all
    (subst (AreComposed (drop 1 (map changes_in (among c.deref.result.now current steps)))) (sym made) c.in_ok-changes.ensures.composed) in
    let joined = joined_versions items c.remove.new.versions.items current steps version c.index_mut.result.now (omega (arith, c.if-steps-le1.false)) within inside c.self.invariant.1
    c.remove.ensures.items (ap text_in c.index_mut.ensures.value) lead are in
    joined.texts ∙ ap (λ (t : Texts). take (number_joined t.current steps) t.texts ++ drop t.current t.texts) c.self.view_is

pub returns-clause-changes : goal.returns-clause-changes
returns-clause-changes c =
    let items = c.self.inside.versions.items in
    let current = c.self.inside.current in
    let steps = c.args.steps in
    let version : Version = record { text = c.index_mut.result.now.text; changes = c.replace-led.new.dest } in
    let within : steps ≤ current = omega (arith, c.requires, ap (λ (t : Texts). t.current) c.self.view_is) in
    let inside : current < length items = omega (arith, c.self.invariant.0, c.self.inside.versions.ok.0) in
    let made : changes_in version ≡ listed c.in_ok-changes.changes = ap listed c.replace-led.ensures.after in
    let all = c.deref.ensures.value in
    let lead = subst (λ vs. Lead (changes_in version) (text_at (map text_in (among vs current steps)) 0) (text_at (map text_in (among vs current steps)) (length (among vs current steps) - 1))) all
    (subst (λ cs. Lead cs (text_at (map text_in (among c.deref.result.now current steps)) 0)
    (text_at (map text_in (among c.deref.result.now current steps)) (length (among c.deref.result.now current steps) - 1))) (sym made) c.in_ok-changes.ensures.lead) in
    let are = subst (λ vs. AreComposed (drop 1 (map changes_in (among vs current steps))) (changes_in version)) all
    (subst (AreComposed (drop 1 (map changes_in (among c.deref.result.now current steps)))) (sym made) c.in_ok-changes.ensures.composed) in
    let joined = joined_versions items c.remove.new.versions.items current steps version c.index_mut.result.now (omega (arith, c.if-steps-le1.false)) within inside c.self.invariant.1
    c.remove.ensures.items (ap text_in c.index_mut.ensures.value) lead are in
    subst (λ (t : Texts). JoinsChanges t.changes t.current steps (map changes_in c.remove.new.versions.items)) c.self.view_is
    (λ few. absurd (omega (arith, few, c.if-steps-le1.false)), λ some. record { composed = changes_in version; are = joined.are; is = joined.changes })

pub returns-clause-last : goal.returns-clause-last
returns-clause-last c =
    let items = c.self.inside.versions.items in
    let current = c.self.inside.current in
    let steps = c.args.steps in
    let version : Version = record { text = c.index_mut.result.now.text; changes = c.replace-led.new.dest } in
    let within : steps ≤ current = omega (arith, c.requires, ap (λ (t : Texts). t.current) c.self.view_is) in
    let inside : current < length items = omega (arith, c.self.invariant.0, c.self.inside.versions.ok.0) in
    let made : changes_in version ≡ listed c.in_ok-changes.changes = ap listed c.replace-led.ensures.after in
    let all = c.deref.ensures.value in
    let lead = subst (λ vs. Lead (changes_in version) (text_at (map text_in (among vs current steps)) 0) (text_at (map text_in (among vs current steps)) (length (among vs current steps) - 1))) all
    (subst (λ cs. Lead cs (text_at (map text_in (among c.deref.result.now current steps)) 0)
    (text_at (map text_in (among c.deref.result.now current steps)) (length (among c.deref.result.now current steps) - 1))) (sym made) c.in_ok-changes.ensures.lead) in
    let are = subst (λ vs. AreComposed (drop 1 (map changes_in (among vs current steps))) (changes_in version)) all
    (subst (AreComposed (drop 1 (map changes_in (among c.deref.result.now current steps)))) (sym made) c.in_ok-changes.ensures.composed) in
    let joined = joined_versions items c.remove.new.versions.items current steps version c.index_mut.result.now (omega (arith, c.if-steps-le1.false)) within inside c.self.invariant.1
    c.remove.ensures.items (ap text_in c.index_mut.ensures.value) lead are in
    let number : current - steps + 1 ≡ number_joined current steps = omega (arith, c.if-steps-le1.false, within) in
    let led : listed c.replace-led.result ≡ changes_at (map changes_in items) current =
    ap listed (c.replace-led.ensures.value ∙ ap (λ (v : Version). v.changes) c.index_mut.ensures.value) ∙ sym (seen_at changes_in items current c.index_mut.result.now [] inside) in
    let last = ap (λ (cs : List (List Change)). changes_last (option_map listed c.apart_of.result) c.self.inside.is_back cs (current - steps + 1)) joined.changes
    ∙ ap (λ n. changes_last (option_map listed c.apart_of.result) c.self.inside.is_back
    (take (number_joined current steps) (map changes_in items) ++ changes_in version ∷ drop (current + 1) (map changes_in items)) n) number
    ∙ last_joined c.replace-apart.result c.apart_of.result c.self.inside.is_back c.replace-led.result (map changes_in items) (changes_in version) current (number_joined current steps)
    (omega (arith, inside, length-map items changes_in)) (omega arith) led c.apart_of.ensures.kept c.apart_of.ensures.undone (λ none front. c.apart_of.ensures.first none front refl)
    ∙ ap (λ (o : Option Changes). changes_last (option_map listed o) c.self.inside.is_back (map changes_in items) current) c.replace-apart.ensures.value in
    last ∙ ap (λ (t : Texts). t.last) c.self.view_is
