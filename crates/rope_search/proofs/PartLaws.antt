-- The text between two positions: whether there is such a part, and that it is unique.
use Rattle.std.proofs.Common.{◌≡◌, ℕ, zero, suc, ◌+◌, ◌-◌, ◌<◌, ◌≤◌, ◌⊎◌, ◌↔◌, List, [], ◌∷◌, ◌++◌, true, length, take, take-append-drop, get_or, slice_index, drop, refl, sym, ap, ◌∙◌, subst, inl, inr, append_assoc, append-nil, length-append, arith}
use Rattle.std.specs.Str.{IsCharBoundary, all_scalars}
use Rattle.std.specs.Char.{len_utf8}
use Rattle.std.proofs.Math.Utf8.{encode}
use Rattle.std.proofs.lemmas.Bool.{cases_Bool, cases_lt, cases_eq, and_parts, and_from, true≢false}
use Rattle.std.proofs.lemmas.List.{append_cancel_left}
use Rattle.std.proofs.lemmas.Str.{encodes-append, length-encode, len_utf8_bounds, IsCharBoundary-at_seam}
use Rattle.str_indices.specs.Text.{byte_len}
use Rattle.ropey.specs.Chunks.{IsCutting, text_of}
use Rattle.ropey.specs.Edits.{IsReplaced}
use Rattle.rope_search_reports.specs.declared.positions.Place.{Place}
use Rattle.rope_search_reports.specs.declared.positions.Position.{Position}
use Rattle.rope_search_reports.specs.Laws.{HasOnePlace}
use Rattle.rope_search_reports.specs.Text.{bytes_of, IsText}
use Rattle.rope_search_reports.specs.Position.{line_at, column_at, text_end, IsAt, IsNowhere, IsPlaceOf}
use Rattle.rope_search.specs.Session.{BufferState, current_text, with_edit}
use Rattle.rope_search.specs.Places.{IsBetween, HasNoneBetween, GetsTooLong, IsEdit, IsMarked, IsMarkedBetween, with_replaced}
use Rattle.rope_search.specs.declared.parts.Part.{Part}

-- ---- bytes of joined texts

pub byte_len-append : (xs ys : List ℕ) → byte_len (xs ++ ys) ≡ byte_len xs + byte_len ys
byte_len-append xs ys = ap length (encodes-append xs ys) ∙ length-append (bytes_of xs) (bytes_of ys)

byte_len-one : (c : ℕ) (cs : List ℕ) → byte_len (c ∷ cs) ≡ len_utf8 c + byte_len cs
byte_len-one c cs = omega (arith, length-append (encode c) (bytes_of cs), length-encode c)

-- of two prefixes of a text the one with no more bytes is a prefix of the other
pub front_within : (l r f b : List ℕ) → l ++ r ≡ f ++ b → byte_len l ≤ byte_len f → (mid : List ℕ) × (f ≡ l ++ mid)
front_within [] r f b e low = (f, refl)
front_within (c ∷ cs) r [] b e low = absurd (omega (arith, low, byte_len-one c cs, (len_utf8_bounds c).0))
front_within (c ∷ cs) r (d ∷ ds) b e low =
    let same : c ≡ d = ap (λ t. get_or t 0 0) e in
    let rest : cs ++ r ≡ ds ++ b = ap (drop 1) e in
    let later = front_within cs r ds b rest (omega (arith, low, byte_len-one c cs, byte_len-one d ds, ap len_utf8 same)) in
    (later.0, ap (λ t. d ∷ t) later.1 ∙ ap (λ k. k ∷ (cs ++ later.0)) (sym same))

no_bytes : (xs : List ℕ) → byte_len xs ≡ 0 → xs ≡ []
no_bytes [] none = refl
no_bytes (c ∷ cs) none = absurd (omega (arith, byte_len-one c cs, (len_utf8_bounds c).0))

-- two prefixes with equally many bytes are the same, and so is what follows
pub fronts_one : (l r f b : List ℕ) → l ++ r ≡ f ++ b → byte_len l ≡ byte_len f → (l ≡ f) × (r ≡ b)
fronts_one l r f b e same =
    let mid = front_within l r f b e (omega (arith, same)) in
    let none : mid.0 ≡ [] = no_bytes mid.0 (omega (arith, same, ap byte_len mid.1, byte_len-append l mid.0)) in
    let whole : f ≡ l = mid.1 ∙ ap (λ m. l ++ m) none ∙ append-nil l in
    (sym whole, append_cancel_left l r b (e ∙ ap (λ m. m ++ b) whole))

-- ---- scalar values

scalars_joined : (s t : List ℕ) → all_scalars s ≡ true → all_scalars t ≡ true → all_scalars (s ++ t) ≡ true
scalars_joined [] t one other = other
scalars_joined (c ∷ cs) t one other =
    let both = and_parts _ _ one in
    and_from _ _ both.0 (scalars_joined cs t both.1 other)

pub cutting_scalars : (pieces : List (List ℕ)) → IsCutting pieces → all_scalars (text_of pieces) ≡ true
cutting_scalars [] cut = refl
cutting_scalars (p ∷ []) cut = scalars_joined p [] cut.scalars refl
cutting_scalars (p ∷ q ∷ ps) cut = scalars_joined p (text_of (q ∷ ps)) cut.0.scalars (cutting_scalars (q ∷ ps) cut.2)

scalars_behind : (n : ℕ) (text : List ℕ) → all_scalars text ≡ true → all_scalars (drop n text) ≡ true
scalars_behind zero text h = h
scalars_behind (suc n) [] h = h
scalars_behind (suc n) (c ∷ cs) h = scalars_behind n cs (and_parts _ _ h).1

-- ---- whether a position has an offset

boundary_choice : (bs : List ℕ) (i : ℕ) → IsCharBoundary bs i ⊎ (IsCharBoundary bs i → ⊥)
boundary_choice bs i = elim (cases_lt (length bs) i) [
  | inl past ↦ inr (λ h. omega (arith, h.0))
  | inr within ↦ elim (cases_lt (slice_index bs i) 128) [
    | inl low ↦ inl (omega arith, λ inside high. absurd (omega arith))
    | inr high ↦ elim (cases_lt (slice_index bs i) 192) [
      | inr leads ↦ inl (omega arith, λ inside h. omega arith)
      | inl follows ↦ elim (cases_lt i (length bs)) [
        | inl inside ↦ inr (λ h. omega (arith, h.1 inside (omega arith)))
        | inr end ↦ inl (omega arith, λ inside h. absurd (omega arith))
      ]
    ]
  ]
]

at_choice : (text : List ℕ) (line column place : ℕ) → IsAt text (line, column) place ⊎ (IsAt text (line, column) place → ⊥)
at_choice text line column place = elim (boundary_choice (bytes_of text) place) [
  | inr inside ↦ inr (λ h. inside h.boundary)
  | inl boundary ↦ elim (cases_eq line (line_at text place)) [
    | inr other ↦ inr (λ h. other (ap (λ p. p.0) h.same))
    | inl line_is ↦ elim (cases_eq column (column_at text place)) [
      | inr other ↦ inr (λ h. other (ap (λ p. p.1) h.same))
      | inl column_is ↦ elim (cases_lt (text_end text line) place) [
        | inl past ↦ inr (λ h. omega (arith, h.within))
        | inr within ↦ inl (record {
          boundary = boundary;
          same = ap (λ n. (n, column)) line_is ∙ ap (λ n. (line_at text place, n)) column_is;
          within = omega arith;
        })
      ]
    ]
  ]
]

-- a prefix of the text that ends at the position
pub record EndsAt (text : List ℕ) (line column : ℕ) : Type 0 where
  pub front : List ℕ
  pub back : List ℕ
  pub parts : text ≡ front ++ back
  pub at : IsAt text (line, column) (byte_len front)

-- there is one, or none that continues a known prefix
ends_from : (text : List ℕ) (line column : ℕ) (done rest : List ℕ) → text ≡ done ++ rest
    → EndsAt text line column ⊎ ((x y : List ℕ) → rest ≡ x ++ y → IsAt text (line, column) (byte_len (done ++ x)) → ⊥)
ends_from text line column done [] whole = elim (at_choice text line column (byte_len done)) [
  | inl at ↦ inl (record { front = done; back = []; parts = whole; at = at })
  | inr none ↦ inr (ended text line column done none)
]
  where
    ended : (text : List ℕ) (line column : ℕ) (done : List ℕ) → (IsAt text (line, column) (byte_len done) → ⊥) → (x y : List ℕ) → [] ≡ x ++ y → IsAt text (line, column) (byte_len (done ++ x)) → ⊥
    ended text line column done none [] y e at = none (subst (λ l. IsAt text (line, column) (byte_len l)) (append-nil done) at)
    ended text line column done none (c ∷ x) y e at = absurd (cc)
ends_from text line column done (c ∷ rest) whole = elim (at_choice text line column (byte_len done)) [
  | inl at ↦ inl (record { front = done; back = c ∷ rest; parts = whole; at = at })
  | inr none ↦ elim (ends_from text line column (done ++ c ∷ []) rest (whole ∙ sym (append_assoc done (c ∷ []) rest))) [
    | inl found ↦ inl found
    | inr later ↦ inr (neither text line column done c rest none later)
  ]
]
  where
    neither : (text : List ℕ) (line column : ℕ) (done : List ℕ) (c : ℕ) (rest : List ℕ) → (IsAt text (line, column) (byte_len done) → ⊥)
        → ((x y : List ℕ) → rest ≡ x ++ y → IsAt text (line, column) (byte_len ((done ++ c ∷ []) ++ x)) → ⊥)
        → (x y : List ℕ) → c ∷ rest ≡ x ++ y → IsAt text (line, column) (byte_len (done ++ x)) → ⊥
    neither text line column done c rest none later [] y e at = none (subst (λ l. IsAt text (line, column) (byte_len l)) (append-nil done) at)
    neither text line column done c rest none later (d ∷ x) y e at =
        let head : d ≡ c = cc in
        let tail : rest ≡ x ++ y = cc in
        let same : done ++ d ∷ x ≡ (done ++ c ∷ []) ++ x = ap (λ k. done ++ k ∷ x) head ∙ sym (append_assoc done (c ∷ []) x) in
        later x y tail (subst (λ l. IsAt text (line, column) (byte_len l)) same at)

pub ends_choice : (text : List ℕ) (line column : ℕ) → EndsAt text line column ⊎ ((x y : List ℕ) → text ≡ x ++ y → IsAt text (line, column) (byte_len x) → ⊥)
ends_choice text line column = ends_from text line column [] text refl

-- ---- the text between two positions

-- it is one part
pub part_one : HasOnePlace → (text : List ℕ) (from to : Position) (a p z b q y : List ℕ) → IsBetween text from to a p z → IsBetween text from to b q y
    → (a ≡ b) × (p ≡ q) × (z ≡ y)
part_one one text from to a p z b q y h k =
    let starts = fronts_one a (p ++ z) b (q ++ y) (sym (append_assoc a p z) ∙ sym h.parts ∙ k.parts ∙ append_assoc b q y) (one text (from.line, from.column) (byte_len a) (byte_len b) h.scalars h.starts k.starts) in
    let ends = one text (to.line, to.column) (byte_len (a ++ p)) (byte_len (b ++ q)) h.scalars h.ends k.ends in
    let lens : byte_len p ≡ byte_len q = omega (arith, ends, byte_len-append a p, byte_len-append b q, ap byte_len starts.0) in
    let rest = fronts_one p z q y starts.1 lens in
    (starts.0, rest.0, rest.1)

-- some part, or none
abbrev pub SomeBetween : List ℕ → Position → Position → Type 0
SomeBetween text from to = (before part behind : List ℕ) × IsBetween text from to before part behind

pub between_choice : HasOnePlace → (text : List ℕ) (from to : Position) → SomeBetween text from to ⊎ HasNoneBetween text from to
between_choice one text from to = elim (cases_Bool (all_scalars text)) [
  | inr wrong ↦ inr (λ before part behind h. true≢false (sym h.scalars ∙ wrong))
  | inl scalars ↦ elim (ends_choice text from.line from.column) [
    | inr none ↦ inr (λ before part behind h. none before (part ++ behind) (h.parts ∙ append_assoc before part behind) h.starts)
    | inl start ↦ elim (ends_choice text to.line to.column) [
      | inr none ↦ inr (λ before part behind h. none (before ++ part) behind h.parts h.ends)
      | inl end ↦ elim (cases_lt (byte_len end.front) (byte_len start.front)) [
        | inl below ↦ inr (λ before part behind h.
            omega (
              arith,
              below,
              one text (from.line, from.column) (byte_len before) (byte_len start.front) scalars h.starts start.at,
              one text (to.line, to.column) (byte_len (before ++ part)) (byte_len end.front) scalars h.ends end.at,
              byte_len-append before part,
            ))
        | inr ordered ↦
            let mid = front_within start.front start.back end.front end.back (sym start.parts ∙ end.parts) (omega arith) in
            let whole : text ≡ (start.front ++ mid.0) ++ end.back = end.parts ∙ ap (λ l. l ++ end.back) mid.1 in
            inl (
              start.front,
              mid.0,
              end.back,
              record {
                scalars = scalars;
                parts = whole;
                starts = start.at;
                ends = subst (λ l. IsAt text (to.line, to.column) (byte_len l)) mid.1 end.at;
              },
            )
      ]
    ]
  ]
]

-- with this number of bytes in its place the text gets too long, or not
pub long_choice : HasOnePlace → (limit : ℕ) (text : List ℕ) (from to : Position) (len : ℕ) (before part behind : List ℕ) → IsBetween text from to before part behind
    → GetsTooLong limit text from to len ⊎ (GetsTooLong limit text from to len → ⊥)
long_choice one limit text from to len before part behind between = elim (cases_lt limit (byte_len before + len + byte_len behind)) [
  | inl long ↦ inl (record { before = before; part = part; behind = behind; between = between; long = long })
  | inr short ↦ inr (λ h.
      let same = part_one one text from to h.before h.part h.behind before part behind h.between between in
      omega (arith, h.long, ap byte_len same.0, ap byte_len same.2))
]

-- ---- edits

-- the buffer after an edit, by whether there is a part
abbrev pub edited_by : (buffer : BufferState) (from to : Position) → List ℕ
    → SomeBetween (current_text buffer) from to ⊎ HasNoneBetween (current_text buffer) from to → BufferState
edited_by buffer from to inserted (inl some) = with_edit buffer (some.0 ++ inserted ++ some.2)
edited_by buffer from to inserted (inr none) = buffer

pub IsEdit-known : HasOnePlace → (buffer : BufferState) (from to : Position) (inserted : List ℕ) (new : BufferState)
    (choice : SomeBetween (current_text buffer) from to ⊎ HasNoneBetween (current_text buffer) from to) → IsEdit buffer from to inserted new
    → new ≡ edited_by buffer from to inserted choice
IsEdit-known one buffer from to inserted new (inl some) h =
    let same = part_one one (current_text buffer) from to h.before h.part h.behind some.0 some.1 some.2 h.between some.3 in
    h.changed ∙ ap (λ l. with_edit buffer (l ++ inserted ++ h.behind)) same.0 ∙ ap (λ l. with_edit buffer (some.0 ++ inserted ++ l)) same.2
IsEdit-known one buffer from to inserted new (inr none) h = absurd (none h.before h.part h.behind h.between)

pub IsEdit-by : (buffer : BufferState) (from to : Position) (inserted : List ℕ)
    (choice : SomeBetween (current_text buffer) from to ⊎ HasNoneBetween (current_text buffer) from to) → (HasNoneBetween (current_text buffer) from to → ⊥)
    → IsEdit buffer from to inserted (edited_by buffer from to inserted choice)
IsEdit-by buffer from to inserted (inl some) is = record { before = some.0; part = some.1; behind = some.2; between = some.3; changed = refl }
IsEdit-by buffer from to inserted (inr none) is = absurd (is none)

-- ---- a part by its offsets

-- the offset of a position, with the number of characters and bytes before it
pub record StandsAt (text : List ℕ) (spot : Position) (place : Place) : Type 0 where
  pub at : IsAt text (spot.line, spot.column) place.byte_idx
  pub within : place.char_idx ≤ length text
  pub bytes : byte_len (take place.char_idx text) ≡ place.byte_idx

pub stands : (text : List ℕ) (spot : Position) (place : Place) → IsPlaceOf text (spot.line, spot.column) place → StandsAt text spot place
stands text spot place is = record { at = is.at; within = is.within; bytes = is.bytes }

-- there is nothing between two positions if one of them is nowhere
pub none_between : (text : List ℕ) (from to : Position) → IsNowhere text (from.line, from.column) ⊎ IsNowhere text (to.line, to.column) → HasNoneBetween text from to
none_between text from to (inl nowhere) before part behind h = nowhere (byte_len before) h.starts
none_between text from to (inr nowhere) before part behind h = nowhere (byte_len (before ++ part)) h.ends

-- more characters have more bytes
pub fewer_bytes : (text : List ℕ) (m n : ℕ) → m < n → n ≤ length text → byte_len (take m text) < byte_len (take n text)
fewer_bytes text m zero less within = absurd (omega arith)
fewer_bytes [] m (suc n) less within = absurd (omega arith)
fewer_bytes (c ∷ cs) zero (suc n) less within = omega (arith, byte_len-one c (take n cs), (len_utf8_bounds c).0)
fewer_bytes (c ∷ cs) (suc m) (suc n) less within =
    omega (arith, byte_len-one c (take m cs), byte_len-one c (take n cs), fewer_bytes cs m n (omega arith) (omega arith))

-- a text up to an offset, and from there to another
pub take_between : (xs : List ℕ) (m n : ℕ) → m ≤ n → take m xs ++ take (n - m) (drop m xs) ≡ take n xs
take_between xs zero n low = ap (λ k. take k xs) (omega arith)
take_between [] (suc m) n low = nothing (n - suc m) ∙ sym (nothing n)
  where
    nothing : (n : ℕ) → take {A = ℕ} n [] ≡ []
    nothing zero = refl
    nothing (suc n) = refl
take_between (x ∷ xs) (suc m) zero low = absurd (omega arith)
take_between (x ∷ xs) (suc m) (suc n) low =
    let same : suc n - suc m ≡ n - m = omega arith in
    ap (λ k. x ∷ (take m xs ++ take k (drop m xs))) same ∙ ap (λ l. x ∷ l) (take_between xs m n (omega arith))

-- two offsets in order mark the text between their positions
pub marked_between : (text : List ℕ) (from to : Position) (part : Part) → IsText text → StandsAt text from part.start → StandsAt text to part.end
    → part.start.char_idx ≤ part.end.char_idx → IsMarkedBetween text from to part
marked_between text from to part scalars start end ordered =
    let before = take part.start.char_idx text in
    let here = take (part.end.char_idx - part.start.char_idx) (drop part.start.char_idx text) in
    let front : before ++ here ≡ take part.end.char_idx text = take_between text part.start.char_idx part.end.char_idx ordered in
    record {
      marked = record { ordered = ordered; within = end.within; starts = start.bytes; ends = end.bytes };
      between = record {
        scalars = scalars;
        parts = sym (ap (λ l. l ++ drop part.end.char_idx text) front ∙ take-append-drop part.end.char_idx text);
        starts = subst (IsAt text (from.line, from.column)) (sym start.bytes) start.at;
        ends = subst (IsAt text (to.line, to.column)) (sym (ap byte_len front ∙ end.bytes)) end.at;
      };
    }

-- two offsets out of order mark nothing
pub unmarked : HasOnePlace → (text : List ℕ) (from to : Position) (start end : Place) → StandsAt text from start → StandsAt text to end → end.char_idx < start.char_idx
    → HasNoneBetween text from to
unmarked one text from to start end starts ends below before part behind h =
    omega (
      arith,
      fewer_bytes text end.char_idx start.char_idx below starts.within,
      starts.bytes,
      ends.bytes,
      one text (from.line, from.column) (byte_len before) start.byte_idx h.scalars h.starts starts.at,
      one text (to.line, to.column) (byte_len (before ++ part)) end.byte_idx h.scalars h.ends ends.at,
      byte_len-append before part,
    )

-- the bytes of a text with another one in place of a marked part
pub replaced_len : (text : List ℕ) (part : Part) (inserted : List ℕ) → IsMarked text part
    → byte_len (with_replaced text part inserted) + part.end.byte_idx ≡ byte_len text + byte_len inserted + part.start.byte_idx
replaced_len text part inserted marked =
    let before = take part.start.char_idx text in
    let behind = drop part.end.char_idx text in
    omega (
      arith,
      byte_len-append (before ++ inserted) behind,
      byte_len-append before inserted,
      marked.starts,
      marked.ends,
      byte_len-append (take part.end.char_idx text) behind,
      ap byte_len (take-append-drop part.end.char_idx text),
    )

-- the part is no longer than the text
pub marked_within : (text : List ℕ) (part : Part) → IsMarked text part → (part.start.byte_idx ≤ part.end.byte_idx) × (part.end.byte_idx ≤ byte_len text)
marked_within text part marked =
    let before = take part.start.char_idx text in
    let here = take (part.end.char_idx - part.start.char_idx) (drop part.start.char_idx text) in (
      omega (arith, marked.starts, marked.ends, byte_len-append before here, ap byte_len (take_between text part.start.char_idx part.end.char_idx marked.ordered)),
      omega (arith, marked.ends, byte_len-append (take part.end.char_idx text) (drop part.end.char_idx text), ap byte_len (take-append-drop part.end.char_idx text)),
    )

-- both its offsets are at character boundaries
pub boundary_at : (pieces : List (List ℕ)) (char place : ℕ) → IsCutting pieces → byte_len (take char (text_of pieces)) ≡ place → IsCharBoundary (bytes_of (text_of pieces)) place
boundary_at pieces char place cut is =
    let text = text_of pieces in
    let front = bytes_of (take char text) in
    let back = bytes_of (drop char text) in
    let spelled : bytes_of text ≡ front ++ back = ap bytes_of (sym (take-append-drop char text)) ∙ encodes-append (take char text) (drop char text) in
    let rest = scalars_behind char text (cutting_scalars pieces cut) in
    subst (IsCharBoundary (bytes_of text)) is (IsCharBoundary-at_seam (bytes_of text) front back spelled (drop char text, (rest, refl)))

-- the resulting text, from its bytes
pub replaced_there : (text new : List ℕ) (part : Part) (inserted : List ℕ) → IsMarked text part → IsReplaced text part.start.byte_idx part.end.byte_idx inserted new → new ≡ with_replaced text part inserted
replaced_there text new part inserted marked h =
    let start = part.start.char_idx in
    let end = part.end.char_idx in
    let whole : h.front ++ h.gone ++ h.back ≡ text = sym h.old_is in
    let first = fronts_one h.front (h.gone ++ h.back) (take start text) (drop start text) (sym (append_assoc h.front h.gone h.back) ∙ whole ∙ sym (take-append-drop start text)) (h.starts ∙ sym marked.starts) in
    let last = fronts_one (h.front ++ h.gone) h.back (take end text) (drop end text) (whole ∙ sym (take-append-drop end text)) (h.ends ∙ sym marked.ends) in
    h.new_is ∙ ap (λ l. l ++ inserted ++ h.back) first.0 ∙ ap (λ l. take start text ++ inserted ++ l) last.1

-- the length of the new text, from the marked part
pub long_known : HasOnePlace → (limit : ℕ) (text : List ℕ) (from to : Position) (part : Part) (inserted : List ℕ) (len : ℕ) → IsMarkedBetween text from to part
    → byte_len inserted ≡ len → limit < byte_len (with_replaced text part inserted) ↔ GetsTooLong limit text from to len
long_known one limit text from to part inserted len marked len_is =
    let before = take part.start.char_idx text in
    let here = take (part.end.char_idx - part.start.char_idx) (drop part.start.char_idx text) in
    let behind = drop part.end.char_idx text in
    let whole = byte_len-append (before ++ inserted) behind in
    let front = byte_len-append before inserted in (
      λ long. record { before = before; part = here; behind = behind; between = marked.between; long = omega (arith, long, whole, front, len_is) },
      λ h.
          let same = part_one one text from to h.before h.part h.behind before here behind h.between marked.between in
          omega (arith, h.long, whole, front, len_is, ap byte_len same.0, ap byte_len same.2),
    )
