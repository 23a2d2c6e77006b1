-- The positions at two offsets, and the part of the text between them.
use Rattle.std.proofs.Common.{◌≡◌, ℕ, ◌<◌, ◌≤◌, List, ◌++◌, ap, sym, subst, ◌∙◌, arith}
use Rattle.str_indices.specs.Text.{byte_len}
use Rattle.rope_search_io.specs.declared.faults.Fault.{Fault}
use Rattle.rope_search_io.specs.declared.faults.Fault.TheVariants.{Nothing, Range, Utf8, Pattern, Limit, Size, Memory}
use Rattle.rope_search_io.specs.Faults.{rank_of}
use Rattle.rope_search_reports.specs.Position.{IsAt}
use Rattle.rope_search_reports.specs.Text.{IsText}
use Rattle.rope_search_reports.specs.declared.positions.Position.{Position}
use Rattle.rope_search_reports.proofs.PlaceLemmas.{split_at}
use Rattle.rope_search_reports.proofs.SpotLemmas.{spot-one}
use Rattle.rope_search_reports.proofs.TextPlaces.{places}
use Rattle.rope_search.specs.ByteEdits.{AreAtBytes, AreNoRange, ForBytes}
use Rattle.rope_search.specs.Order.{EditText}
use Rattle.rope_search.specs.Places.{HasNoneBetween}
use Rattle.rope_search.specs.Session.{State, chosen_buffer, current_text}
use Rattle.rope_search.specs.Step.{IsFirstRefusal, Refuses}
use Rattle.rope_search.proofs.PartLaws.{byte_len-append, front_within}

-- ---- one position at an offset

one-spot : (text : List ℕ) (p q : Position) (byte : ℕ) → IsAt text (p.line, p.column) byte → IsAt text (q.line, q.column) byte → p ≡ q
one-spot text p q byte at at' =
    let of : ℕ × ℕ → Position = λ s. record { line = s.0; column = s.1 } in
    ap of (at.same ∙ sym at'.same)

-- what holds of the two positions at two offsets holds of any
pub of-any : (text : List ℕ) (from to : ℕ) (p q p' q' : Position) (P : Position → Position → Type 0) → AreAtBytes text from to p q → AreAtBytes text from to p' q' → P p q → P p' q'
of-any text from to p q p' q' P at at' holds =
    subst (λ s. P s q') (one-spot text p p' from at.starts at'.starts) (subst (P p) (one-spot text q q' to at.ends at'.ends) holds)

-- ---- the part between them

pub no-range : (text : List ℕ) (from to : ℕ) (start stop : Position) → IsText text → AreAtBytes text from to start stop → HasNoneBetween text start stop → AreNoRange text from to
no-range text from to start stop scalars at none = λ start' stop' at' ordered.
    let f = split_at text from scalars at.starts.boundary in
    let t = split_at text to scalars at.ends.boundary in
    let mid = front_within f.front f.back t.front t.back (sym f.parts ∙ t.parts) (omega (arith, ordered, f.place_is, t.place_is)) in
    none f.front mid.0 t.back (record {
      scalars = scalars;
      parts = t.parts ∙ ap (λ l. l ++ t.back) mid.1;
      starts = subst (IsAt text (start.line, start.column)) f.place_is at.starts;
      ends = subst (IsAt text (stop.line, stop.column)) (t.place_is ∙ ap byte_len mid.1) at.ends;
    })

pub none-between : (text : List ℕ) (from to : ℕ) (start stop : Position) → IsText text → AreAtBytes text from to start stop → AreNoRange text from to → HasNoneBetween text start stop
none-between text from to start stop scalars at none = λ before part behind h.
    let a = spot-one places text scalars (start.line, start.column) from (byte_len before) at.starts h.starts in
    let b = spot-one places text scalars (stop.line, stop.column) to (byte_len (before ++ part)) at.ends h.ends in
    none start stop at (omega (arith, a, b, byte_len-append before part))

-- an edit that runs backward is first refused for that
pub refused-backward : (limit : ℕ) (old : State) (from to : ℕ) (start stop : Position) (payload : List ℕ) → IsText (current_text (chosen_buffer old))
    → AreAtBytes (current_text (chosen_buffer old)) from to start stop → to < from → IsFirstRefusal limit old (EditText start stop payload) Range
refused-backward limit old from to start stop payload scalars at below = record {
  refuses = none-between (current_text (chosen_buffer old)) from to start stop scalars at (λ _ _ _ ordered. omega (arith, ordered, below));
  none_before = before;
}
  where
    before : (other : Fault) → rank_of other < rank_of Range → Refuses limit old (EditText start stop payload) other → ⊥
    before Nothing low refuses = refuses
    before Range low refuses = omega (arith, low)
    before Utf8 low refuses = omega (arith, low)
    before Pattern low refuses = refuses
    before Limit low refuses = refuses
    before Size low refuses = omega (arith, low)
    before Memory low refuses = refuses
