-- All rows of a report reported as replaced, by a call that sets the pattern or the text.
use Rattle.std.proofs.Common.{◌≡◌, ℕ, List, sym, ap, ◌∙◌, subst, if◌then◌else◌}
use Rattle.std.specs.Prelude.{Option, None, Some, is_some, option_map}
use Rattle.std.proofs.lemmas.Bool.{true≢false}
use Rattle.rope_search_reports.specs.Laws.{HasARowALine}
use Rattle.rope_search_reports.specs.Text.{line_count}
use Rattle.rope_search.specs.declared.search.Search.{Search}
use Rattle.rope_search.specs.declared.stretches.Stretch.{Stretch}
use Rattle.rope_search.specs.Changed.{Replaces}
use Rattle.rope_search.specs.Histories.{text_at}
use Rattle.rope_search.specs.Session.{BufferState}
use Rattle.rope_search.specs.Stretches.{whole_stretch}
use Rattle.rope_search.proofs.ChangedLemmas.{replaces-whole}

-- if a pattern is set
pub replaces-set : HasARowALine → (texts : List (List ℕ)) (current : ℕ) (search : Option Search) (old : BufferState) (text pattern : List ℕ) (removed added : ℕ) (stretch : Stretch)
    → record { texts = texts; current = current; pattern = option_map (λ (s : Search). s.finder) search } ≡ old → text ≡ text_at texts current
    → removed ≡ (if is_some search then line_count text else 0) → added ≡ line_count text → stretch ≡ whole_stretch removed added
    → Replaces old (record { texts = texts; current = current; pattern = Some pattern }) stretch
replaces-set law texts current None old text pattern removed added stretch same here is is' told =
    let before : BufferState = record { texts = texts; current = current; pattern = None } in
    let after : BufferState = record { texts = texts; current = current; pattern = Some pattern } in
    subst (λ b. Replaces b after stretch) same (subst (Replaces before after) (sym told) (replaces-whole law before after removed added is (is' ∙ ap line_count here)))
replaces-set law texts current (Some s) old text pattern removed added stretch same here is is' told =
    let before : BufferState = record { texts = texts; current = current; pattern = Some s.finder } in
    let after : BufferState = record { texts = texts; current = current; pattern = Some pattern } in
    subst (λ b. Replaces b after stretch) same
    (subst (Replaces before after) (sym told) (replaces-whole law before after removed added (is ∙ ap line_count here) (is' ∙ ap line_count here)))

-- if a text is set, under a pattern or none
pub replaces-text : HasARowALine → (texts texts' : List (List ℕ)) (current current' : ℕ) (search search' : Option Search) (old : BufferState) (text text' : List ℕ) (removed added : ℕ) (stretch : Stretch)
    → record { texts = texts; current = current; pattern = option_map (λ (s : Search). s.finder) search } ≡ old → is_some search ≡ is_some search'
    → text ≡ text_at texts current → text' ≡ text_at texts' current' → removed ≡ (if is_some search then line_count text else 0)
    → added ≡ (if is_some search then line_count text' else 0) → stretch ≡ whole_stretch removed added
    → Replaces old (record { texts = texts'; current = current'; pattern = option_map (λ (s : Search). s.finder) search' }) stretch
replaces-text law texts texts' current current' None None old text text' removed added stretch same set here here' is is' told =
    let before : BufferState = record { texts = texts; current = current; pattern = None } in
    let after : BufferState = record { texts = texts'; current = current'; pattern = None } in
    subst (λ b. Replaces b after stretch) same (subst (Replaces before after) (sym told) (replaces-whole law before after removed added is is'))
replaces-text law texts texts' current current' None (Some s) old text text' removed added stretch same set here here' is is' told = absurd (true≢false (sym set))
replaces-text law texts texts' current current' (Some s) None old text text' removed added stretch same set here here' is is' told = absurd (true≢false set)
replaces-text law texts texts' current current' (Some s) (Some s') old text text' removed added stretch same set here here' is is' told =
    let before : BufferState = record { texts = texts; current = current; pattern = Some s.finder } in
    let after : BufferState = record { texts = texts'; current = current'; pattern = Some s'.finder } in
    subst (λ b. Replaces b after stretch) same
    (subst (Replaces before after) (sym told) (replaces-whole law before after removed added (is ∙ ap line_count here) (is' ∙ ap line_count here')))
