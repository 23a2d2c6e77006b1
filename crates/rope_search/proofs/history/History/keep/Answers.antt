use Rattle.std.proofs.Common.{◌≡◌, ◌+◌, ◌-◌, ◌<◌, List, ℕ, [], length, take, drop, map, slice_index_or, slice_set, ap, sym, subst, ◌∙◌, arith, length-take, length-drop}
use Rattle.std.specs.Prelude.{Option, option_map}
use Rattle.std.proofs.lemmas.List.{length-map, length-set}
use Rattle.rope_search_reports.specs.Turned.{listed}
use Rattle.rope_search_changes.specs.declared.Change.{Change}
use Rattle.rope_search_reports.specs.declared.changes.Changes.{Changes}
use Rattle.rope_search.specs.declared.history.Version.{Version}
use Rattle.rope_search.specs.Histories.{LeadOn, LeadSomewhere, changes_last}
use Rattle.rope_search.specs.UndoSteps.{first_kept}
use Rattle.rope_search.proofs.HistoryLemmas.{text_in, changes_in}
use Rattle.rope_search.proofs.UndoStepLemmas.{led_kept, texts_kept, changes_kept, last_kept, undone_told, led_told, less_told, not_less_told}
use Rattle.rope_search.proofs.history.History.keep.Goals as goal

pub invariant_of-self : goal.invariant_of-self
invariant_of-self c =
    let items = c.self.inside.versions.items in
    let current = c.self.inside.current in
    let steps = c.args.steps in
    let n = first_kept current steps in
    let kept = c.shrink_to_fit.new.self.items in
    let version : Version = record { text = c.index_mut.result.now.text; changes = c.replace-led.new.dest } in
    let first : c.saturating_sub-first.result ≡ n = c.saturating_sub-first.ensures in
    let inside : current < length items = omega (arith, c.self.invariant.0, c.self.inside.versions.ok.0) in
    let is : kept ≡ drop n (take (current + 1) items) =
    c.shrink_to_fit.ensures.items ∙ c.drop_first.ensures ∙ ap (drop c.saturating_sub-first.result) c.cut_off-undone.ensures.items ∙ ap (λ k. drop k (take (current + 1) items)) first in
    let long : length kept ≡ current + 1 - n = omega (arith, ap length is, length-drop n (take (current + 1) items), length-take (current + 1) items, inside) in
    let same : text_in version ≡ text_in (slice_index_or kept 0 c.index_mut.result.now) = ap text_in c.index_mut.ensures.value in
    let none : changes_in version ≡ [] = ap listed c.replace-led.ensures.after ∙ c.new.ensures.items in
    let texts = texts_kept items kept n (current + 1) version c.index_mut.result.now is same in
    let changes = changes_kept items kept current steps version is none (omega (arith, long)) in
    let last = last_kept c.replace-apart.result c.apart_of.result c.cut_off-undone.result c.self.inside.is_back _ c.replace-led.result items
    (map changes_in (slice_set kept 0 version)) current steps inside changes
    (undone_told items (current + 1) _ c.cut_off-undone.result c.self.inside.versions.ok.0 c.cut_off-undone.ensures.changes)
    (led_told items kept current steps c.replace-led.result c.index_mut.result.now is inside (c.replace-led.ensures.value ∙ ap (λ (v : Version). v.changes) c.index_mut.ensures.value))
    (λ yes. omega (arith, less_told c.saturating_sub-first.result current yes, first))
    (λ no. omega (arith, not_less_told c.saturating_sub-first.result current no, first))
    c.apart_of.ensures.kept c.apart_of.ensures.undone c.apart_of.ensures.later c.apart_of.ensures.first
    ∙ ap (λ (o : Option Changes). changes_last (option_map listed o) c.self.inside.is_back (map changes_in items) current) c.replace-apart.ensures.value in (
      omega (arith, long, first, length-set kept 0 version),
      subst (λ (ts : List (List ℕ)). LeadOn ts (map changes_in (slice_set kept 0 version))) (sym texts)
          (subst (λ (cs : List (List Change)). LeadOn (drop n (take (current + 1) (map text_in items))) cs) (sym changes)
          (led_kept (map text_in items) (map changes_in items) current steps (omega (arith, inside, length-map items text_in)) c.self.invariant.1)),
      subst (λ k. LeadSomewhere (changes_last (option_map listed c.apart_of.result) c.self.inside.is_back (map changes_in (slice_set kept 0 version)) (current - k))) (sym first)
          (subst LeadSomewhere (sym last) c.self.invariant.2),
    )

pub returns : goal.returns
returns c =
    let items = c.self.inside.versions.items in
    let current = c.self.inside.current in
    let steps = c.args.steps in
    let n = first_kept current steps in
    let kept = c.shrink_to_fit.new.self.items in
    let version : Version = record { text = c.index_mut.result.now.text; changes = c.replace-led.new.dest } in
    let first : c.saturating_sub-first.result ≡ n = c.saturating_sub-first.ensures in
    let inside : current < length items = omega (arith, c.self.invariant.0, c.self.inside.versions.ok.0) in
    let is : kept ≡ drop n (take (current + 1) items) =
    c.shrink_to_fit.ensures.items ∙ c.drop_first.ensures ∙ ap (drop c.saturating_sub-first.result) c.cut_off-undone.ensures.items ∙ ap (λ k. drop k (take (current + 1) items)) first in
    let long : length kept ≡ current + 1 - n = omega (arith, ap length is, length-drop n (take (current + 1) items), length-take (current + 1) items, inside) in
    let same : text_in version ≡ text_in (slice_index_or kept 0 c.index_mut.result.now) = ap text_in c.index_mut.ensures.value in
    let none : changes_in version ≡ [] = ap listed c.replace-led.ensures.after ∙ c.new.ensures.items in
    let texts = texts_kept items kept n (current + 1) version c.index_mut.result.now is same in
    let changes = changes_kept items kept current steps version is none (omega (arith, long)) in
    let last = last_kept c.replace-apart.result c.apart_of.result c.cut_off-undone.result c.self.inside.is_back _ c.replace-led.result items
    (map changes_in (slice_set kept 0 version)) current steps inside changes
    (undone_told items (current + 1) _ c.cut_off-undone.result c.self.inside.versions.ok.0 c.cut_off-undone.ensures.changes)
    (led_told items kept current steps c.replace-led.result c.index_mut.result.now is inside (c.replace-led.ensures.value ∙ ap (λ (v : Version). v.changes) c.index_mut.ensures.value))
    (λ yes. omega (arith, less_told c.saturating_sub-first.result current yes, first))
    (λ no. omega (arith, not_less_told c.saturating_sub-first.result current no, first))
    c.apart_of.ensures.kept c.apart_of.ensures.undone c.apart_of.ensures.later c.apart_of.ensures.first
    ∙ ap (λ (o : Option Changes). changes_last (option_map listed o) c.self.inside.is_back (map changes_in items) current) c.replace-apart.ensures.value in
    rw (sym c.self.view_is)
    (ap (λ (ts : List (List ℕ)). record {
      texts = ts;
      changes = map changes_in (slice_set kept 0 version);
      current = current - c.saturating_sub-first.result;
      is_back = c.self.inside.is_back;
      last = changes_last (option_map listed c.apart_of.result) c.self.inside.is_back (map changes_in (slice_set kept 0 version)) (current - c.saturating_sub-first.result);
    }) texts
    ∙ ap (λ (k : ℕ). record {
      texts = drop n (take (current + 1) (map text_in items));
      changes = map changes_in (slice_set kept 0 version);
      current = current - k;
      is_back = c.self.inside.is_back;
      last = changes_last (option_map listed c.apart_of.result) c.self.inside.is_back (map changes_in (slice_set kept 0 version)) (current - k);
    }) first
    ∙ ap (λ (l : List Change). record { texts = drop n (take (current + 1) (map text_in items)); changes = map changes_in (slice_set kept 0 version); current = current - n; is_back = c.self.inside.is_back; last = l }) last
    ∙ ap (λ (cs : List (List Change)). record {
      texts = drop n (take (current + 1) (map text_in items));
      changes = cs;
      current = current - n;
      is_back = c.self.inside.is_back;
      last = changes_last (option_map listed c.self.inside.apart) c.self.inside.is_back (map changes_in items) current;
    }) changes)
