-- No command changes a buffer that isn't chosen.
use Rattle.std.proofs.Common.{◌≡◌, ◌≢◌, ℕ, ◌<◌, [], ◌∷◌, length, slice_index_or, ap, ◌∙◌}
use Rattle.std.specs.Prelude.{None, Some, Ok, Err}
use Rattle.std.proofs.lemmas.List.{get_or-set_other, get_or_append_left}
use Rattle.rope_search_io.specs.declared.faults.Fault.TheVariants.{Memory}
use Rattle.rope_search.specs.declared.commands.Reply.{Reply}
use Rattle.rope_search.specs.declared.commands.Reply.TheVariants.{Done, Number, Found, NoMatch, List as Listing, Print}
use Rattle.rope_search.specs.Laws.{OthersStay}
use Rattle.rope_search.specs.Order.{Order, SetText, EditText, UndoEdit, RedoEdit, PrintText, ForkBuffer, SetPattern, DropPattern, ListMatches, FindNext, ReplaceAll, UseBuffer}
use Rattle.rope_search.specs.Session.{BufferState, State, fresh, current_text, chosen_buffer, with_text, undone, redone, with_pattern, with_chosen}
use Rattle.rope_search.specs.Step.{Does}

-- a buffer of a session
abbrev buffer_of : State → ℕ → BufferState
buffer_of s k = slice_index_or s.buffers k (fresh [])

-- it is the same if nothing changes, and if the chosen one is replaced and is another one
same : (old new : State) (k : ℕ) → new ≡ old → buffer_of new k ≡ buffer_of old k
same old new k is = ap (λ s. buffer_of s k) is

beside : (old new : State) (buffer : BufferState) (k : ℕ) → new ≡ with_chosen old buffer → k ≢ old.chosen → buffer_of new k ≡ buffer_of old k
beside old new buffer k is other = ap (λ s. buffer_of s k) is ∙ get_or-set_other old.buffers old.chosen k buffer (fresh []) other

stays : (old : State) (o : Order) (r : Reply) (new : State) (k : ℕ) → Does old o r new → k < length old.buffers → k ≢ old.chosen → buffer_of new k ≡ buffer_of old k
stays old (SetText payload) Done new k h inside other = beside old new (with_text (chosen_buffer old) h.0) k h.2 other
stays old (EditText from to payload) Done new k h inside other = beside old new h.1 k h.4 other
stays old UndoEdit Done new k h inside other = beside old new (undone (chosen_buffer old)) k h other
stays old RedoEdit Done new k h inside other = beside old new (redone (chosen_buffer old)) k h other
stays old PrintText Print new k h inside other = same old new k h
stays old ForkBuffer (Number n) new k h inside other =
    ap (λ s. buffer_of s k) h.1 ∙ get_or_append_left old.buffers (fresh (current_text (chosen_buffer old)) ∷ []) (fresh []) k inside
stays old (SetPattern payload) Done new k h inside other = beside old new (with_pattern (chosen_buffer old) (Some h.0)) k h.2 other
stays old DropPattern Done new k h inside other = beside old new (with_pattern (chosen_buffer old) None) k h other
stays old ListMatches Listing new k h inside other = same old new k h
stays old (FindNext from) (Found start end) new k h inside other = same old new k h.1
stays old (FindNext from) NoMatch new k h inside other = same old new k h.1
stays old (ReplaceAll payload) (Number n) new k h inside other = beside old new h.1 k h.4 other
stays old (UseBuffer n) Done new k h inside other = ap (λ s. buffer_of s k) h
stays old o r new k h inside other = absurd h

pub others_stay : OthersStay
others_stay limit old new order (Ok reply) k step inside other = stays old order reply new k step.1 inside other
others_stay limit old new order (Err Memory) k step inside other = same old new k step.1
others_stay limit old new order (Err fault) k step inside other = same old new k step.1
