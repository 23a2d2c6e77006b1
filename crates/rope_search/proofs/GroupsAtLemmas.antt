-- The answer to a request for the groups of a match.
use Rattle.std.proofs.Common.{◌≡◌, ℕ, List, map, ap, ◌∙◌, Ok, slice_set}
use Rattle.std.specs.Prelude.{Some}
use Rattle.std.proofs.lemmas.List.{set-get_or}
use Rattle.rope_search_reports.specs.Replacement.{Groups}
use Rattle.rope_search.specs.GroupsAt.{AnswersGroups, TellsGroupsIn}
use Rattle.rope_search.specs.Session.{BufferState, LimitedBuffer, LimitedSession, current_text, limit_in}
use Rattle.rope_search.proofs.SessionLemmas.{Chosen, state_with}

-- ---- with a pattern, from the result for the buffer's text

pub groups_told : (b : BufferState) (p : List ℕ) (line number : ℕ) (groups : Groups) → b.pattern ≡ Some p → TellsGroupsIn (current_text b) p line number (Some groups)
    → AnswersGroups b line number (Ok groups)
groups_told b p line number groups is tells = record { pattern = p; is_pattern = is; tells = tells }

-- ---- a session whose chosen buffer is unchanged is unchanged

pub session_kept : (items : List LimitedBuffer) (k : ℕ) (old new : LimitedBuffer) (s : LimitedSession) → Chosen items k (limit_in items k) old s → new ≡ old
    → record { limit = limit_in (slice_set items k new) k; state = state_with items k new; changed = map (λ (b : LimitedBuffer). b.changed) (slice_set items k new); buffers = slice_set items k new } ≡ s
session_kept items k old new s c same =
    let whole : slice_set items k new ≡ items = ap (slice_set items k) (same ∙ c.is) ∙ set-get_or items k old in
    let seen : List LimitedBuffer → LimitedSession = λ bs. record {
      limit = limit_in bs k;
      state = record { buffers = map (λ (b : LimitedBuffer). b.state) bs; chosen = k };
      changed = map (λ (b : LimitedBuffer). b.changed) bs;
      buffers = bs;
    } in
    ap seen whole ∙ c.seen
