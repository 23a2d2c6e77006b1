-- What a buffer keeps of an edit and of a replacement.
use Rattle.std.proofs.Common.{◌≡◌, ℕ, ◌+◌, ◌-◌, List, [], ◌∷◌, ◌++◌, take, drop, sym, ap, ◌∙◌, subst, arith}
use Rattle.str_indices.specs.Text.{byte_len}
use Rattle.rope_search_changes.specs.declared.Change.{Change}
use Rattle.rope_search_reports.specs.declared.positions.Position.{Position}
use Rattle.rope_search.specs.declared.parts.Part.{Part}
use Rattle.rope_search.specs.Session.{LimitedBuffer, current_text}
use Rattle.rope_search.specs.TextChanges.{ranges_of}
use Rattle.rope_search.specs.Places.{IsMarked, IsMarkedBetween}
use Rattle.rope_search.specs.Histories.{with_changes, KeepsEdit}
use Rattle.rope_search.proofs.PartLaws.{byte_len-append, take_between}

-- a change by its offsets
abbrev at_places : ℕ → ℕ → ℕ → Change
at_places old_end new_start new_end = record { old_end = old_end; new_start = new_start; new_end = new_end }

places_are : (text inserted : List ℕ) (part : Part) (len : ℕ) → IsMarked text part → byte_len inserted ≡ len
    → at_places part.end.byte_idx part.start.byte_idx (part.start.byte_idx + len)
    ≡ at_places (byte_len (take part.start.char_idx text) + byte_len (take (part.end.char_idx - part.start.char_idx) (drop part.start.char_idx text)))
    (byte_len (take part.start.char_idx text)) (byte_len (take part.start.char_idx text) + byte_len inserted)
places_are text inserted part len marked long =
    let before = take part.start.char_idx text in
    let here = take (part.end.char_idx - part.start.char_idx) (drop part.start.char_idx text) in
    let front : before ++ here ≡ take part.end.char_idx text = take_between text part.start.char_idx part.end.char_idx marked.ordered in
    let end : part.end.byte_idx ≡ byte_len before + byte_len here = sym (sym (byte_len-append before here) ∙ ap byte_len front ∙ marked.ends) in
    let last : part.start.byte_idx + len ≡ byte_len before + byte_len inserted = omega (arith, marked.starts, long) in
    ap (λ n. at_places n part.start.byte_idx (part.start.byte_idx + len)) end
    ∙ ap (λ n. at_places (byte_len before + byte_len here) n (part.start.byte_idx + len)) (sym marked.starts)
    ∙ ap (at_places (byte_len before + byte_len here) (byte_len before)) last

pub keeps_edit : (old new : LimitedBuffer) (from to : Position) (text inserted : List ℕ) (part : Part) (change : Change) (len : ℕ) → text ≡ current_text old.state
    → IsMarkedBetween text from to part → change ≡ record { old_end = part.end.byte_idx; new_start = part.start.byte_idx; new_end = part.start.byte_idx + len }
    → byte_len inserted ≡ len → new.changes ≡ with_changes old (change ∷ []) → new.text_changes ≡ ranges_of (change ∷ []) → KeepsEdit old from to inserted new
keeps_edit old new from to text inserted part change len here marked is long kept ranges =
    let own : IsMarkedBetween (current_text old.state) from to part = subst (λ t. IsMarkedBetween t from to part) here marked in
    let t = current_text old.state in
    record {
      before = take part.start.char_idx t;
      part = take (part.end.char_idx - part.start.char_idx) (drop part.start.char_idx t);
      behind = drop part.end.char_idx t;
      between = own.between;
      kept = kept ∙ ap (λ c. with_changes old (c ∷ [])) (is ∙ places_are t inserted part len own.marked long);
      ranges = ranges ∙ ap (λ c. ranges_of (c ∷ [])) (is ∙ places_are t inserted part len own.marked long);
    }
