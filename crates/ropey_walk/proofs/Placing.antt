-- Positions in a chunk as positions in the whole text.
use Rattle.std.proofs.Common.{◌≡◌, ℕ, zero, suc, ◌+◌, ◌-◌, ◌^◌, ◌<◌, ◌≤◌, ◌⊎◌, inl, inr, Bool, true, false, ◌&&◌, List, [], ◌∷◌, ◌++◌, length, get_or, refl, ap, arith, sym, ◌∙◌, subst}
use Rattle.std.specs.List.{concat}
use Rattle.std.specs.Str.{IsUtf8, chars}
use Rattle.std.proofs.lemmas.List.{append-nil}
use Rattle.std.proofs.lemmas.List.Folds.{concat-append}
use Rattle.std.proofs.lemmas.Str.{encodes-chars, scalars-chars, length-le-encodes}
use Rattle.str_indices.specs.Text.{char_ends, unit_ends, unit_starts, break_ends, ends_up_to, end_place, units, byte_len, ends_with_cr, NoCrLfBetween}
use Rattle.str_indices.specs.Laws.{AnyTexts, EndsAddUp, PlacesAddUp, UnitStartsAddUp, RisesWithPlace, NoMoreThanBytes, EndsAreBoundaries, UnitStartsAreBoundaries}
use Rattle.ropey_tree.specs.declared.counts.Counts.{Counts}
use Rattle.ropey_tree.specs.declared.counts.By.TheVariants.{Bytes, Chars, Units, Breaks}
use Rattle.ropey_tree.specs.Counts.{counts_of}
use Rattle.ropey_tree.specs.Cutting.{IsCutting, IsRopeText}
use Rattle.ropey_walk.specs.Chunks.{text_of, line_breaks, lone_piece, is_break}
use Rattle.ropey_walk.specs.Conversions.{char_of_byte, unit_of_byte, line_of_byte, byte_of_char, byte_of_unit, byte_of_line}
use Rattle.ropey_walk.specs.Standing.{StandsAt, IsPlaceIn}
use Rattle.ropey_walk.proofs.Cuts.{byte_len-append, cut-left, whole_seams, text_fits}

-- ---- the chunk in the text
piece_text : (chunk : List ℕ) → concat (lone_piece chunk) ≡ chunk
piece_text [] = refl
piece_text (c ∷ cs) = append-nil (c ∷ cs)

-- the text before a chunk, with it, and the whole
pub record IsPart (text chunk before after : List ℕ) : Type 0 where
  pub parts : text ≡ before ++ chunk ++ after
  pub whole_before : NoCrLfBetween before chunk
  pub whole_after : NoCrLfBetween (before ++ chunk) after
  pub fits : byte_len text < 2 ^ 63
  pub sums : byte_len text ≡ byte_len before + byte_len chunk + byte_len after

pub is_part : (pieces before after : List (List ℕ)) (chunk : List ℕ) → pieces ≡ before ++ lone_piece chunk ++ after → IsRopeText pieces → IsPart (text_of pieces) chunk (text_of before) (text_of after)
is_part pieces before after chunk parts text =
    let through : text_of (before ++ lone_piece chunk) ≡ text_of before ++ chunk = concat-append before (lone_piece chunk) ∙ ap (λ t. concat before ++ t) (piece_text chunk) in
    let whole : text_of pieces ≡ text_of before ++ chunk ++ text_of after = ap concat parts ∙ concat-append (before ++ lone_piece chunk) after ∙ ap (λ t. t ++ concat after) through in
    let cut : IsCutting (before ++ lone_piece chunk ++ after) = subst IsCutting parts text.cut in
    record {
      parts = whole;
      whole_before = subst (NoCrLfBetween (text_of before)) (piece_text chunk) (whole_seams before (lone_piece chunk) (cut-left (before ++ lone_piece chunk) after cut));
      whole_after = subst (λ (t : List ℕ). NoCrLfBetween t (text_of after)) through (whole_seams (before ++ lone_piece chunk) after cut);
      fits = text_fits pieces text;
      sums = ap byte_len whole ∙ omega (arith, byte_len-append (text_of before ++ chunk) (text_of after), byte_len-append (text_of before) chunk);
    }

-- a position in a chunk as one in the text
pub record IsPlaced (text chunk : List ℕ) (start : Counts) (at place : ℕ) : Type 0 where
  pub stands : IsPlaceIn text chunk start at
  pub place_is : start.bytes + at ≡ place

placed : (text chunk before after : List ℕ) (start : Counts) (at place : ℕ) → IsPart text chunk before after → start ≡ counts_of before → at ≤ byte_len chunk → byte_len before + at ≡ place → IsPlaced text chunk start at place
placed text chunk before after start at place part start_is within e = record {
  stands = record { before = before; after = after; parts = part.parts; start_is = start_is; whole_before = part.whole_before; whole_after = part.whole_after; within = within; fits = part.fits };
  place_is = omega (arith, e, ap (λ c. c.bytes) start_is);
}

pub none_after : (after : List (List ℕ)) → after ≡ [] → text_of after ≡ []
none_after after e = ap concat e

-- by bytes
pub byte_placed : (pieces : List (List ℕ)) (i : ℕ) (chunk : List ℕ) (start : Counts) → StandsAt pieces Bytes i chunk start → IsRopeText pieces → i ≤ byte_len (text_of pieces) → IsPlaced (text_of pieces) chunk start (i - start.bytes) i
byte_placed pieces i chunk start h text within =
    let part = is_part pieces h.before h.after chunk h.parts text in
    let starts : start.bytes ≡ byte_len (text_of h.before) = ap (λ c. c.bytes) h.start_is in
    let inside : i - start.bytes ≤ byte_len chunk = elim h.passed [
      | inl p ↦ omega (arith, p, starts, byte_len-append (text_of h.before) chunk)
      | inr e ↦ omega (arith, within, starts, part.sums, ap byte_len (none_after h.after e))
    ] in
    placed (text_of pieces) chunk (text_of h.before) (text_of h.after) start (i - start.bytes) i part h.start_is inside (omega (arith, starts, h.not_past))

-- ---- where an end is
-- a text without characters, and one without bytes
nothing : (text : List ℕ) → length text ≤ 0 → text ≡ []
nothing [] h = refl
nothing (c ∷ cs) h = absurd (omega (arith, h))

first_place : (ends : List ℕ) (n last : ℕ) → end_place ends (zero - n) last ≡ 0
first_place ends n last = let e : zero - n ≡ zero = omega arith in ap (λ k. end_place ends k last) e

char_reached : PlacesAddUp AnyTexts length char_ends → (before chunk after : List ℕ) (k : ℕ) → length before ≤ k - 1 → (k - 1 < length (before ++ chunk)) ⊎ (after ≡ [])
    → byte_len before + end_place (char_ends chunk) (k - length before) (byte_len chunk) ≡ byte_of_char (before ++ chunk ++ after) k
char_reached law before chunk after zero low passed =
    omega (arith, ap byte_len (nothing before (omega (arith, low))), first_place (char_ends chunk) (length before) (byte_len chunk))
char_reached law before chunk after (suc j) low passed =
    let high : (suc j ≤ length (before ++ chunk)) ⊎ (after ≡ []) = elim passed [
      | inl p ↦ inl (omega (arith, p))
      | inr e ↦ inr e
    ] in
    sym (law before chunk after (suc j) tt tt (omega (arith, low)) high)

line_reached : PlacesAddUp NoCrLfBetween line_breaks (break_ends is_break) → (before chunk after : List ℕ) (j : ℕ) → NoCrLfBetween before chunk → NoCrLfBetween (before ++ chunk) after
    → line_breaks before ≤ j → (j < line_breaks (before ++ chunk)) ⊎ (after ≡ [])
    → byte_len before + end_place (break_ends is_break chunk) (suc j - line_breaks before) (byte_len chunk) ≡ byte_of_line (before ++ chunk ++ after) (suc j)
line_reached law before chunk after j a b low passed =
    let high : (suc j ≤ line_breaks (before ++ chunk)) ⊎ (after ≡ []) = elim passed [
      | inl p ↦ inl (omega (arith, p))
      | inr e ↦ inr e
    ] in
    sym (law before chunk after (suc j) a b (omega (arith, low)) high)

last_after : {P : Type 0} (after : List (List ℕ)) → P ⊎ (after ≡ []) → P ⊎ (text_of after ≡ [])
last_after after (inl p) = inl p
last_after after (inr e) = inr (none_after after e)

module _ (pieces : List (List ℕ)) (bytes : List ℕ) (start : Counts) (utf8 : IsUtf8 bytes) (text : IsRopeText pieces) where
  len : length bytes ≡ byte_len (chars bytes)
  len = sym (ap length (encodes-chars bytes utf8))

  pub char_placed : PlacesAddUp AnyTexts length char_ends → EndsAreBoundaries char_ends → (k : ℕ) → StandsAt pieces Chars (k - 1) (chars bytes) start
      → IsPlaced (text_of pieces) (chars bytes) start (end_place (char_ends (chars bytes)) (k - start.chars) (length bytes)) (byte_of_char (text_of pieces) k)
  char_placed law boundaries k h =
      let chunk = chars bytes in
      let before = text_of h.before in
      let part = is_part pieces h.before h.after chunk h.parts text in
      let starts : start.chars ≡ length before = ap (λ c. c.chars) h.start_is in
      let at : ℕ = end_place (char_ends chunk) (k - start.chars) (length bytes) in
      let at_is : at ≡ end_place (char_ends chunk) (k - length before) (byte_len chunk) = ap (λ n. end_place (char_ends chunk) (k - start.chars) n) len ∙ ap (λ n. end_place (char_ends chunk) (k - n) (byte_len chunk)) starts in
      let inside : at ≤ byte_len chunk = omega (arith, at_is, (boundaries chunk (k - length before) (scalars-chars bytes utf8)).0) in
      let reached = char_reached law before chunk (text_of h.after) k h.not_past (last_after h.after h.passed) in
      placed (text_of pieces) chunk before (text_of h.after) start at (byte_of_char (text_of pieces) k) part h.start_is inside
      (ap (λ n. byte_len before + n) at_is ∙ reached ∙ ap (λ t. byte_of_char t k) (sym part.parts))

  pub unit_placed : UnitStartsAddUp → UnitStartsAreBoundaries → (k : ℕ) → StandsAt pieces Units k (chars bytes) start
      → IsPlaced (text_of pieces) (chars bytes) start (get_or (unit_starts (chars bytes)) (k - start.units) (length bytes)) (byte_of_unit (text_of pieces) k)
  unit_placed law boundaries k h =
      let chunk = chars bytes in
      let before = text_of h.before in
      let part = is_part pieces h.before h.after chunk h.parts text in
      let starts : start.units ≡ units before = ap (λ c. c.units) h.start_is in
      let at : ℕ = get_or (unit_starts chunk) (k - start.units) (length bytes) in
      let at_is : at ≡ get_or (unit_starts chunk) (k - units before) (byte_len chunk) = ap (λ n. get_or (unit_starts chunk) (k - start.units) n) len ∙ ap (λ n. get_or (unit_starts chunk) (k - n) (byte_len chunk)) starts in
      let inside : at ≤ byte_len chunk = omega (arith, at_is, (boundaries chunk (k - units before) (scalars-chars bytes utf8)).0) in
      let reached = law before chunk (text_of h.after) k h.not_past (last_after h.after h.passed) in
      placed (text_of pieces) chunk before (text_of h.after) start at (byte_of_unit (text_of pieces) k) part h.start_is inside
      (ap (λ n. byte_len before + n) at_is ∙ sym reached ∙ ap (λ t. byte_of_unit t k) (sym part.parts))

  pub line_placed : PlacesAddUp NoCrLfBetween line_breaks (break_ends is_break) → EndsAreBoundaries (break_ends is_break) → (l : ℕ)
      → (l ≡ 0 → StandsAt pieces Bytes 0 (chars bytes) start) → (0 < l → StandsAt pieces Breaks (l - 1) (chars bytes) start)
      → IsPlaced (text_of pieces) (chars bytes) start (end_place (break_ends is_break (chars bytes)) (l - start.breaks) (length bytes)) (byte_of_line (text_of pieces) l)
  line_placed law boundaries zero first later =
      let h = first refl in
      let chunk = chars bytes in
      let part = is_part pieces h.before h.after chunk h.parts text in
      let at_is = first_place (break_ends is_break chunk) start.breaks (length bytes) in
      placed (text_of pieces) chunk (text_of h.before) (text_of h.after) start (end_place (break_ends is_break chunk) (zero - start.breaks) (length bytes)) 0 part h.start_is (omega (arith, at_is)) (omega (arith, at_is, h.not_past))
  line_placed law boundaries (suc j) first later =
      let some : 0 < suc j = omega arith in
      let h = later some in
      let chunk = chars bytes in
      let before = text_of h.before in
      let part = is_part pieces h.before h.after chunk h.parts text in
      let starts : start.breaks ≡ line_breaks before = ap (λ c. c.breaks) h.start_is in
      let at : ℕ = end_place (break_ends is_break chunk) (suc j - start.breaks) (length bytes) in
      let at_is : at ≡ end_place (break_ends is_break chunk) (suc j - line_breaks before) (byte_len chunk) =
      ap (λ n. end_place (break_ends is_break chunk) (suc j - start.breaks) n) len ∙ ap (λ n. end_place (break_ends is_break chunk) (suc j - n) (byte_len chunk)) starts in
      let inside : at ≤ byte_len chunk = omega (arith, at_is, (boundaries chunk (suc j - line_breaks before) (scalars-chars bytes utf8)).0) in
      let same : suc j - 1 ≡ j = omega arith in
      let low : line_breaks before ≤ j = omega (arith, h.not_past, same) in
      let high : (j < line_breaks (before ++ chunk)) ⊎ (text_of h.after ≡ []) = elim h.passed [
        | inl p ↦ inl (omega (arith, p, same))
        | inr e ↦ inr (none_after h.after e)
      ] in
      let reached = line_reached law before chunk (text_of h.after) j part.whole_before part.whole_after low high in
      placed (text_of pieces) chunk before (text_of h.after) start at (byte_of_line (text_of pieces) (suc j)) part h.start_is inside
      (ap (λ n. byte_len before + n) at_is ∙ reached ∙ ap (λ t. byte_of_line t (suc j)) (sym part.parts))

-- ---- the counts before a position
nothing_follows : (text : List ℕ) → NoCrLfBetween text []
nothing_follows text = none (ends_with_cr text)
  where
    none : (b : Bool) → (b && false) ≡ false
    none true = refl
    none false = refl

-- up to its end a text has its counts
whole_count : (may_meet : List ℕ → List ℕ → Type 0) (count : List ℕ → ℕ) (ends : List ℕ → List ℕ) → EndsAddUp may_meet count ends → ((text : List ℕ) → may_meet text []) → ends_up_to 0 (ends []) ≡ 0
    → (text : List ℕ) → ends_up_to (byte_len text) (ends text) ≡ count text
whole_count may_meet count ends law meets none text =
    let d = byte_len text in
    let long : d ≤ byte_len (text ++ []) = omega (arith, byte_len-append text []) in
    let whole : text ++ [] ++ [] ≡ text = append-nil (text ++ []) ∙ append-nil text in
    let same : d - d ≡ 0 = omega arith in
    ap (λ t. ends_up_to d (ends t)) (sym whole) ∙ law text [] [] d (meets text) (meets (text ++ [])) (omega arith) long
    ∙ ap (λ n. count text + ends_up_to n (ends [])) same ∙ omega (arith, none)

-- and so has the start of a text, for characters and code units
pub whole_front : (count : List ℕ → ℕ) (ends : List ℕ → List ℕ) → EndsAddUp AnyTexts count ends → ends_up_to 0 (ends []) ≡ 0 → (front back : List ℕ) → ends_up_to (byte_len front) (ends (front ++ back)) ≡ count front
whole_front count ends law none front back =
    let d = byte_len front in
    let long : d ≤ byte_len (front ++ []) = omega (arith, byte_len-append front []) in
    let whole : front ++ [] ++ back ≡ front ++ back = ap (λ t. t ++ back) (append-nil front) in
    let same : d - d ≡ 0 = omega arith in
    ap (λ t. ends_up_to d (ends t)) (sym whole) ∙ law front [] back d tt tt (omega arith) long ∙ ap (λ n. count front + ends_up_to n (ends [])) same ∙ omega (arith, none)

pub whole_chars : EndsAddUp AnyTexts length char_ends → (front back : List ℕ) → ends_up_to (byte_len front) (char_ends (front ++ back)) ≡ length front
whole_chars law = whole_front length char_ends law refl

-- a count of what ends up to a position, and that it fits
pub record Tells (result count : ℕ) : Type 0 where
  pub is : result ≡ count
  pub fits : result < 2 ^ 64

tells : (may_meet : List ℕ → List ℕ → Type 0) (count : List ℕ → ℕ) (ends : List ℕ → List ℕ) → EndsAddUp may_meet count ends → ((text : List ℕ) → may_meet text []) → ends_up_to 0 (ends []) ≡ 0 → RisesWithPlace ends → NoMoreThanBytes count
    → (text chunk : List ℕ) (start : Counts) (at counted : ℕ) (h : IsPlaceIn text chunk start at) → may_meet h.before chunk → may_meet (h.before ++ chunk) h.after → counted ≡ count h.before
    → Tells (counted + ends_up_to at (ends chunk)) (ends_up_to (start.bytes + at) (ends text))
tells may_meet count ends law meets none rises below text chunk start at counted h a b e =
    let d = byte_len h.before in
    let place = start.bytes + at in
    let starts : start.bytes ≡ d = ap (λ c. c.bytes) h.start_is in
    let front = byte_len-append h.before chunk in
    let inside : place - d ≡ at = omega (arith, starts) in
    let part = law h.before chunk h.after place a b (omega (arith, starts)) (omega (arith, starts, front, h.within)) in
    let value : counted + ends_up_to at (ends chunk) ≡ ends_up_to place (ends text) =
    ap (λ n. n + ends_up_to at (ends chunk)) e ∙ ap (λ n. count h.before + ends_up_to n (ends chunk)) (sym inside) ∙ sym part ∙ ap (λ t. ends_up_to place (ends t)) (sym h.parts) in
    let past : place ≤ byte_len text = omega (arith, starts, front, h.within, ap byte_len h.parts, byte_len-append (h.before ++ chunk) h.after) in
    record {
      is = value;
      fits = omega (arith, value, rises text place (byte_len text) past, whole_count may_meet count ends law meets none text, below text, h.fits);
    }

pub tells_chars : EndsAddUp AnyTexts length char_ends → RisesWithPlace char_ends → NoMoreThanBytes length → (text chunk : List ℕ) (start : Counts) (at : ℕ) → IsPlaceIn text chunk start at
    → Tells (start.chars + ends_up_to at (char_ends chunk)) (char_of_byte text (start.bytes + at))
tells_chars law rises below text chunk start at h = tells AnyTexts length char_ends law (λ _. tt) refl rises below text chunk start at start.chars h tt tt (ap (λ c. c.chars) h.start_is)

pub tells_units : EndsAddUp AnyTexts units unit_ends → RisesWithPlace unit_ends → NoMoreThanBytes units → (text chunk : List ℕ) (start : Counts) (at : ℕ) → IsPlaceIn text chunk start at
    → Tells (start.units + ends_up_to at (unit_ends chunk)) (unit_of_byte text (start.bytes + at))
tells_units law rises below text chunk start at h = tells AnyTexts units unit_ends law (λ _. tt) refl rises below text chunk start at start.units h tt tt (ap (λ c. c.units) h.start_is)

pub tells_lines : EndsAddUp NoCrLfBetween line_breaks (break_ends is_break) → RisesWithPlace (break_ends is_break) → NoMoreThanBytes line_breaks → (text chunk : List ℕ) (start : Counts) (at : ℕ) → IsPlaceIn text chunk start at
    → Tells (start.breaks + ends_up_to at (break_ends is_break chunk)) (line_of_byte text (start.bytes + at))
tells_lines law rises below text chunk start at h = tells NoCrLfBetween line_breaks (break_ends is_break) law nothing_follows refl rises below text chunk start at start.breaks h h.whole_before h.whole_after (ap (λ c. c.breaks) h.start_is)

pub byte_fits : (text chunk : List ℕ) (start : Counts) (at : ℕ) → IsPlaceIn text chunk start at → start.bytes + at < 2 ^ 64
byte_fits text chunk start at h =
    omega (arith, h.fits, h.within, ap (λ c. c.bytes) h.start_is, ap byte_len h.parts, byte_len-append (h.before ++ chunk) h.after, byte_len-append h.before chunk)

-- there are no more breaks before the chunk of a line than before the line
pub line_low : (pieces : List (List ℕ)) (chunk : List ℕ) (start : Counts) (l : ℕ) → (l ≡ 0 → StandsAt pieces Bytes 0 chunk start) → (0 < l → StandsAt pieces Breaks (l - 1) chunk start) → start.breaks ≤ l
line_low pieces chunk start zero first later =
    let h = first refl in
    let empty : text_of h.before ≡ [] = nothing (text_of h.before) (omega (arith, h.not_past, length-le-encodes (text_of h.before))) in
    omega (arith, ap (λ c. c.breaks) h.start_is, ap line_breaks empty)
line_low pieces chunk start (suc j) first later =
    let h = later (omega arith) in
    omega (arith, ap (λ c. c.breaks) h.start_is, h.not_past)
