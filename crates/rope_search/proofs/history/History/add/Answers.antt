use Rattle.std.proofs.Common.{◌≡◌, ◌+◌, ◌<◌, List, ℕ, [], ◌∷◌, ◌++◌, false, length, take, map, refl, ap, sym, subst, ◌∙◌, arith, length-append, length-take}
use Rattle.std.specs.Prelude.{option_map}
use Rattle.std.proofs.lemmas.List.{length-map}
use Rattle.ropey.specs.Chunks.{text_of}
use Rattle.rope_search_reports.specs.Turned.{Lead, listed}
use Rattle.rope_search_changes.specs.declared.Change.{Change}
use Rattle.rope_search.specs.Histories.{Texts, LeadOn, LeadSomewhere, text_at, changes_at, changes_last}
use Rattle.rope_search_reports.specs.Text.{IsText}
use Rattle.rope_search_reports.proofs.PlaceLemmas.{rope-scalars}
use Rattle.rope_search.specs.declared.history.Version.{Version}
use Rattle.rope_search.proofs.HistoryLemmas.{text_in, changes_in, shown-more, led-more, last-more}
use Rattle.rope_search.proofs.TextChangeLemmas.{led-ranges}
use Rattle.rope_search.proofs.history.History.add.Goals as goal

pub invariant_of-self : goal.invariant_of-self
invariant_of-self c =
    let items = c.self.inside.versions.items in (
      omega (arith, c.self.invariant.0, ap length c.in_err-push_at.ensures.err, c.self.inside.versions.ok.0, c.push_at.new.versions.ok.0),
      subst (λ (vs : List Version). LeadOn (map text_in vs) (map changes_in vs)) (sym c.in_err-push_at.ensures.err) c.self.invariant.1,
      subst (λ (vs : List Version). LeadSomewhere (changes_last (option_map listed c.self.inside.apart) c.self.inside.is_back (map changes_in vs) c.self.inside.current))
          (sym c.in_err-push_at.ensures.err) c.self.invariant.2,
    )

pub invariant_of-self-2 : goal.invariant_of-self-2
invariant_of-self-2 c =
    let items = c.self.inside.versions.items in
    let current = c.self.inside.current in
    let n = current + 1 in
    let version : Version = record { text = c.args.text; changes = c.args.changes } in
    let texts = shown-more text_in items version n _ c.in_ok-push_at.ensures.ok in
    let changes = shown-more changes_in items version n _ c.in_ok-push_at.ensures.ok in
    let same : length (map changes_in items) ≡ length (map text_in items) = length-map items changes_in ∙ sym (length-map items text_in) in
    let lead : Lead (listed c.args.changes) (text_at (map text_in items) current) (text_of c.args.text) =
    subst (λ (t : Texts). Lead (listed c.args.changes) (text_at t.texts t.current) (text_of c.args.text)) (sym c.self.view_is) c.requires in
    let inside : current < length (map text_in items) = omega (arith, c.self.invariant.0, length-map items text_in, c.self.inside.versions.ok.0) in
    let told : changes_at (map changes_in c.push_at.new.versions.items) n ≡ listed c.args.changes =
    ap (λ (cs : List (List Change)). changes_at cs n) changes ∙ last-more (map changes_in items) (listed c.args.changes) [] n n (omega (arith, inside, same)) refl in
    let led = led-more (map text_in items) (map changes_in items) (text_of c.args.text) (listed c.args.changes) current inside same c.self.invariant.1 lead in (
      omega (arith, c.self.invariant.0, ap length c.in_ok-push_at.ensures.ok, length-append (take n items) (version ∷ []), length-take n items, c.self.inside.versions.ok.0, c.push_at.new.versions.ok.0),
      subst (λ (ts : List (List ℕ)). LeadOn ts (map changes_in c.push_at.new.versions.items)) (sym texts)
          (subst (λ (cs : List (List Change)). LeadOn (take n (map text_in items) ++ text_in version ∷ []) cs) (sym changes) led),
      (
        text_at (map text_in items) current,
        text_of c.args.text,
        subst (λ (cs : List Change). Lead cs (text_at (map text_in items) current) (text_of c.args.text)) (sym told) lead,
      ),
    )

pub returns-clause-ok : goal.returns-clause-ok
returns-clause-ok c =
    let items = c.self.inside.versions.items in
    let n = c.self.inside.current + 1 in
    let version : Version = record { text = c.args.text; changes = c.args.changes } in
    let texts = shown-more text_in items version n _ c.in_ok-push_at.ensures.ok in
    let changes = shown-more changes_in items version n _ c.in_ok-push_at.ensures.ok in
    let same : length (map changes_in items) ≡ length items = length-map items changes_in in
    let told : changes_at (take n (map changes_in items) ++ listed c.args.changes ∷ []) n ≡ listed c.args.changes =
    last-more (map changes_in items) (listed c.args.changes) [] n n (omega (arith, same, c.self.invariant.0, c.self.inside.versions.ok.0)) refl in
    let all = take n (map text_in items) ++ text_in version ∷ [] in
    rw (sym c.self.view_is)
    (ap (λ (l : List (List ℕ)). record { texts = l; changes = map changes_in c.push_at.new.versions.items; current = n; is_back = false; last = changes_at (map changes_in c.push_at.new.versions.items) n }) texts
    ∙ ap (λ (l : List (List Change)). record { texts = all; changes = l; current = n; is_back = false; last = changes_at l n }) changes
    ∙ ap (λ (l : List Change). record { texts = all; changes = take n (map changes_in items) ++ changes_in version ∷ []; current = n; is_back = false; last = l }) told)

pub returns-clause-ranges : goal.returns-clause-ranges
returns-clause-ranges c =
    led-ranges (listed c.args.changes) (text_at c.args.self.now.texts c.args.self.now.current) (text_of c.args.text)
    (subst (λ k. IsText (text_at c.args.self.now.texts k)) (ap (λ (t : Texts). t.current) c.self.view_is) c.text.ensures.scalars)
    (rope-scalars c.args.text c.len_bytes-next.ensures.cut.cut) c.requires
