-- Where a line starts, found in a chunk.
use Rattle.std.proofs.Common.{◌≡◌, ℕ, zero, suc, ◌+◌, ◌-◌, ◌^◌, ◌<◌, ◌≤◌, ◌⊎◌, inl, inr, List, [], ◌∷◌, ◌++◌, length, take, drop, refl, sym, ap, subst, ◌∙◌, arith, append-nil, append_assoc, length-append, chars, IsUtf8}
use Rattle.std.specs.Str.{IsCharBoundary, NonePass}
use Rattle.std.proofs.lemmas.Bool.{cases_lt}
use Rattle.std.proofs.lemmas.List.{drop_all, length-drop, nil_from_length}
use Rattle.std.proofs.lemmas.Str.{IsUtf8-drop, encodes-chars, scalars-chars}
use Rattle.str_indices.specs.Text.{breaks, break_ends, byte_len, char_ends, end_place, ends_up_to}
use Rattle.str_indices.specs.FirstBreak.{IsFirstBreak}
use Rattle.str_indices.proofs.TextLaws.{counts_are_at_most_bytes-lines, places_of_a_part-lines, to_byte_idx_is_a_boundary-lines}
use Rattle.ropey.specs.Chunks.{IsCutting, ShowsChunkOfBreak, is_break, text_of}
use Rattle.rope_search_reports.specs.declared.line_start.LineStart.{LineStart}
use Rattle.rope_search_reports.specs.Text.{bytes_of, line_count}
use Rattle.rope_search_reports.specs.Report.{line_texts}
use Rattle.rope_search_reports.specs.Position.{line_start, line_text}
use Rattle.rope_search_reports.specs.Drafts.{IsRestOfChunk, IsWalk, StartsIn}
use Rattle.rope_search_reports.proofs.LineLemmas.{byte_len-append, cut-lines, first_line, line-last, lines-counted}
use Rattle.rope_search_reports.proofs.PartLemmas.{past-last}
use Rattle.rope_search_reports.proofs.PlaceLemmas.{front_of, rope-scalars, split_at}
use Rattle.rope_search_reports.proofs.SpotsInLines.{few-chars}
use Rattle.rope_search_reports.proofs.TellerLemmas.{IsShown, is-shown}
use Rattle.rope_search_reports.proofs.TextPlaces.{places}
use Rattle.rope_search_reports.proofs.WalkLemmas.{behind-line, first-text, line-between, next-line, rest-at, rest-chars, uncut-behind, walk-behind, walk-end}

-- the chunk starts in this line or an earlier one; the line starts this number of lines further on
pub record IsTold (pieces : List (List ℕ)) (line : ℕ) (chunk : List ℕ) (byte char first : ℕ) : Type 0 where
  pub shown : IsShown (text_of pieces) chunk byte char first
  pub low : first ≤ line
  pub there : line_start (text_of pieces) line ≡ byte + end_place (break_ends is_break chunk) (line - first) (byte_len chunk)

pub told : (pieces : List (List ℕ)) (line : ℕ) (chunk : List ℕ) (byte char first : ℕ) → IsCutting pieces → ShowsChunkOfBreak pieces line chunk byte char first
    → IsTold pieces line chunk byte char first
told pieces zero chunk byte char first cut s =
    let at = s.first refl in
    let h = (is-shown byte_len pieces 0 byte char first chunk cut at).0 in
    let low = at.not_past in
    let byte_is = at.byte_is in
    let line_is = at.line_is in
    let few = counts_are_at_most_bytes-lines is_break (text_of at.before) in
    let none : 0 - first ≡ 0 = omega arith in
    record {
      shown = h;
      low = omega (arith, low, few, line_is);
      there = omega (arith, low, byte_is, ap (λ n. end_place (break_ends is_break chunk) n (byte_len chunk)) none);
    }
told pieces (suc k) chunk byte char first cut s =
    let at = s.later (omega arith) in
    let s' = is-shown (breaks is_break) pieces (suc k - 1) byte char first chunk cut at in
    let h = s'.0 in
    let low = at.not_past in
    let byte_is = h.start_is in
    let line_is = h.line_is in
    let before_is = s'.1 in
    let passed : (suc k ≤ breaks is_break (h.before ++ chunk)) ⊎ (h.after ≡ []) = elim at.passed [
      | inl inside ↦ inl (omega (arith, inside, ap (λ t. breaks is_break (t ++ chunk)) before_is))
      | inr none ↦ inr (s'.2 ∙ ap text_of none)
    ] in
    let there = places_of_a_part-lines is_break h.before chunk h.after (suc k) h.whole h.whole_behind (omega (arith, low, ap (breaks is_break) before_is)) passed in
    let start : line_start (text_of pieces) (suc k) ≡ end_place (break_ends is_break (h.before ++ chunk ++ h.after)) (suc k) (byte_len (h.before ++ chunk ++ h.after)) =
    ap (λ t. line_start t (suc k)) h.parts in
    let same : end_place (break_ends is_break chunk) (suc k - first) (byte_len chunk) ≡ end_place (break_ends is_break chunk) (suc k - breaks is_break h.before) (byte_len chunk) =
    ap (λ n. end_place (break_ends is_break chunk) (suc k - n) (byte_len chunk)) line_is in
    record {
      shown = h;
      low = omega (arith, low, line_is, ap (breaks is_break) before_is);
      there = omega (arith, start, there, same, byte_is);
    }

pub first-low : (pieces : List (List ℕ)) (line : ℕ) (chunk : List ℕ) (byte char first : ℕ) → IsCutting pieces → ShowsChunkOfBreak pieces line chunk byte char first → first ≤ line
first-low pieces line chunk byte char first cut s = (told pieces line chunk byte char first cut s).low

pub starts-in : (pieces : List (List ℕ)) (line first : ℕ) (start : LineStart) → IsCutting pieces → IsUtf8 start.chunk.now → byte_len (text_of pieces) < 2 ^ 63
    → ShowsChunkOfBreak pieces line (chars start.chunk.now) start.byte_idx start.char_idx first
    → start.at ≡ end_place (break_ends is_break (chars start.chunk.now)) (line - first) (length start.chunk.now) → StartsIn (text_of pieces) line start
starts-in pieces line first start cut utf8 fits s at_is =
    let bytes = start.chunk.now in
    let chunk = chars bytes in
    let t = told pieces line chunk start.byte_idx start.char_idx first cut s in
    let h = t.shown in
    let width : byte_len chunk ≡ length bytes = ap length (encodes-chars bytes utf8) in
    let place : start.at ≡ end_place (break_ends is_break chunk) (line - first) (byte_len chunk) = at_is ∙ ap (end_place (break_ends is_break chunk) (line - first)) (sym width) in
    let boundary : IsCharBoundary (bytes_of chunk) (end_place (break_ends is_break chunk) (line - first) (byte_len chunk)) =
    to_byte_idx_is_a_boundary-lines is_break chunk (line - first) (scalars-chars bytes utf8) in
    record {
      first = h.before;
      others = h.after;
      parts = h.parts ∙ append_assoc h.before chunk h.after;
      utf8 = utf8;
      whole = uncut-behind h.before chunk h.after h.whole_behind;
      byte_is = h.start_is;
      char_is = h.char_is;
      there = let there = t.there in omega (arith, there, place);
      between = subst (λ (n : ℕ). IsCharBoundary bytes n) (sym place) (subst (λ (bs : List ℕ). IsCharBoundary bs (end_place (break_ends is_break chunk) (line - first) (byte_len chunk))) (encodes-chars bytes utf8) boundary);
      scalars = rope-scalars pieces cut;
      fits = fits;
    }

-- ---- the walk from there on

pub few-lines : (text : List ℕ) → byte_len text < 2 ^ 63 → line_count text < 2 ^ 64
few-lines text fits = omega (arith, fits, counts_are_at_most_bytes-lines is_break text)

pub walk-from : (text : List ℕ) (line : ℕ) (start : LineStart) → StartsIn text line start → line ≤ line_count text
    → IsWalk text line (start.byte_idx + start.at) (drop start.at start.chunk.now)
walk-from text line start s within =
    let bytes = start.chunk.now in
    let chunk = chars bytes in
    let place = start.byte_idx + start.at in
    let width : byte_len chunk ≡ length bytes = ap length (encodes-chars bytes s.utf8) in
    let inside = s.between.0 in
    let there = s.there in
    elim (cases_lt line (line_count text)) [
      | inl below ↦
          let h = behind-line text line below in
          let place_is : place ≡ byte_len h.before = sym there ∙ h.place in
          let at = rest-at text chunk h.before h.behind start.byte_idx place
          (record { first = s.first; others = s.others; parts = s.parts; start_is = s.byte_is; whole = s.whole }) h.parts place_is (omega arith) (omega (arith, inside, width)) in
          let at_is : place - start.byte_idx ≡ start.at = omega arith in
          let shown = subst (λ n. chars (drop n bytes) ≡ at.rest) at_is (rest-chars bytes at.mid at.rest (place - start.byte_idx) s.utf8 at.parts at.within_is) in
          walk-behind text line place (drop start.at bytes) s.scalars (few-lines text s.fits) s.fits (IsUtf8-drop bytes start.at s.utf8 s.between) below h place_is
          (subst (IsRestOfChunk h.behind) (sym shown) at.shown)
      | inr past ↦
          let end : line ≡ line_count text = omega (arith, within, past) in
          let last : line_start text (breaks is_break text + 1) ≡ byte_len text = past-last text (breaks is_break text) refl in
          let all : line_start text line ≡ byte_len text = ap (line_start text) end ∙ last in
          let byte_is = s.byte_is in
          let sizes : byte_len text ≡ byte_len s.first + (byte_len chunk + byte_len s.others) =
          ap byte_len s.parts ∙ byte_len-append s.first (chunk ++ s.others) ∙ ap (λ n. byte_len s.first + n) (byte_len-append chunk s.others) in
          let gone : drop start.at bytes ≡ [] = drop_all start.at bytes (omega (arith, all, there, byte_is, sizes, width)) in
          subst (λ (bs : List ℕ). IsWalk text line place bs) (sym gone) (walk-end text line place s.scalars (few-lines text s.fits) s.fits end (sym there))
    ]

-- a line that ends in the chunk
pub line-here : (text : List ℕ) (line : ℕ) (start : LineStart) (from end : ℕ) → StartsIn text line start → line < line_count text → IsFirstBreak is_break (drop start.at start.chunk.now) from end
    → chars (take from (drop start.at start.chunk.now)) ≡ line_text text line
line-here text line start from end s below found =
    (next-line text line (start.byte_idx + start.at) (drop start.at start.chunk.now) from end (walk-from text line start s (omega (arith, below))) below found).own

-- a text without breaks has none of their characters
pub none-plain : (t : List ℕ) → breaks is_break t ≡ 0 → NonePass is_break t
none-plain t none = elim (first_line t) [
  | inl plain ↦ plain
  | inr cut ↦ absurd (omega (arith, none, lines-counted t, ap length (cut-lines t cut), lines-counted cut.rest))
]

-- the last line, if the chunk is the last one
pub last-here : (text : List ℕ) (line : ℕ) (start : LineStart) → StartsIn text line start → line < line_count text → byte_len text ≤ start.byte_idx + length start.chunk.now
    → breaks is_break (chars (drop start.at start.chunk.now)) ≡ 0 → chars (drop start.at start.chunk.now) ≡ line_text text line
last-here text line start s below end none =
    let bytes = drop start.at start.chunk.now in
    let rest = chars bytes in
    let walk = walk-from text line start s (omega (arith, below)) in
    let w = walk.starts below in
    let after = w.shown.after in
    let byte_is = w.place in
    let inside = s.between.0 in
    let sizes : byte_len text ≡ byte_len w.before + (byte_len rest + byte_len after) =
    ap byte_len w.parts ∙ byte_len-append w.before w.behind ∙ ap (λ n. byte_len w.before + n) (ap byte_len w.shown.parts ∙ byte_len-append rest after) in
    let width : byte_len rest ≡ length start.chunk.now - start.at = ap length (encodes-chars bytes walk.utf8) ∙ length-drop start.at start.chunk.now in
    let gone : after ≡ [] = nil_from_length after (omega (arith, sizes, width, byte_is, inside, end, few-chars after)) in
    let lines : line_texts w.behind ≡ rest ∷ [] = ap line_texts (w.shown.parts ∙ ap (λ t. rest ++ t) gone ∙ append-nil rest) ∙ line-last rest (none-plain rest none) in
    sym (first-text text w.behind line rest [] w.lines lines)

-- the chunk is in the text
pub chunk-inside : (text : List ℕ) (line : ℕ) (start : LineStart) → StartsIn text line start → start.byte_idx + length start.chunk.now ≤ byte_len text
chunk-inside text line start s =
    let chunk = chars start.chunk.now in
    let byte_is = s.byte_is in
    omega (arith, byte_is, ap length (encodes-chars start.chunk.now s.utf8), ap byte_len s.parts, byte_len-append s.first (chunk ++ s.others), byte_len-append chunk s.others)

-- ---- the characters before it

pub record CharsThere (text : List ℕ) (line : ℕ) (start : LineStart) : Type 0 where
  pub chars_are : start.char_idx + ends_up_to start.at (char_ends (chars start.chunk.now)) ≡ ends_up_to (line_start text line) (char_ends text)
  pub few : start.char_idx + ends_up_to start.at (char_ends (chars start.chunk.now)) ≤ byte_len text
  pub near : start.byte_idx + start.at ≤ byte_len text

pub chars-there : (text : List ℕ) (line : ℕ) (start : LineStart) → StartsIn text line start → CharsThere text line start
chars-there text line start s =
    let bytes = start.chunk.now in
    let chunk = chars bytes in
    let place = start.byte_idx + start.at in
    let width : byte_len chunk ≡ length bytes = ap length (encodes-chars bytes s.utf8) in
    let inside = s.between.0 in
    let there = s.there in
    let byte_is = s.byte_is in
    let char_is = s.char_is in
    let parts : text ≡ s.first ++ chunk ++ s.others = s.parts ∙ sym (append_assoc s.first chunk s.others) in
    let sum = places.chars_add s.first chunk s.others place tt tt (omega (arith, byte_is)) (omega (arith, byte_is, inside, width, byte_len-append s.first chunk)) in
    let same : ends_up_to (place - byte_len s.first) (char_ends chunk) ≡ ends_up_to start.at (char_ends chunk) =
    let at_is : place - byte_len s.first ≡ start.at = omega (arith, byte_is) in ap (λ n. ends_up_to n (char_ends chunk)) at_is in
    let own : ends_up_to (line_start text line) (char_ends text) ≡ ends_up_to place (char_ends (s.first ++ chunk ++ s.others)) =
    ap (λ n. ends_up_to n (char_ends text)) there ∙ ap (λ t. ends_up_to place (char_ends t)) parts in
    let split = split_at chunk start.at (scalars-chars bytes s.utf8) (subst (λ (bs : List ℕ). IsCharBoundary bs start.at) (sym (encodes-chars bytes s.utf8)) s.between) in
    let front = front_of places chunk split.front split.back split.parts in
    let counted = ap (λ n. ends_up_to n (char_ends chunk)) split.place_is ∙ front.chars_are in
    let sizes = ap length split.parts ∙ length-append split.front split.back in
    let bytes_are : byte_len text ≡ byte_len s.first + (byte_len chunk + byte_len s.others) =
    ap byte_len s.parts ∙ byte_len-append s.first (chunk ++ s.others) ∙ ap (λ n. byte_len s.first + n) (byte_len-append chunk s.others) in
    record {
      chars_are = omega (arith, own, sum, same, char_is);
      few = omega (arith, counted, sizes, char_is, bytes_are, few-chars s.first, few-chars chunk);
      near = omega (arith, byte_is, inside, width, bytes_are);
    }

-- if the whole text has as many characters as bytes, they are the bytes before it
pub ascii-there : (text : List ℕ) (line : ℕ) (start : LineStart) → StartsIn text line start → line < line_count text → length text ≡ byte_len text
    → start.byte_idx + start.at ≡ ends_up_to (line_start text line) (char_ends text)
ascii-there text line start s below ascii =
    let place = start.byte_idx + start.at in
    let there = s.there in
    let split = split_at text place s.scalars (line-between text line place s.scalars below (sym there)) in
    let front = front_of places text split.front split.back split.parts in
    let place_is = split.place_is in
    let counted : ends_up_to (line_start text line) (char_ends text) ≡ length split.front = ap (λ n. ends_up_to n (char_ends text)) (there ∙ place_is) ∙ front.chars_are in
    let characters = ap length split.parts ∙ length-append split.front split.back in
    let bytes = ap byte_len split.parts ∙ byte_len-append split.front split.back in
    omega (arith, counted, place_is, ascii, few-chars split.front, few-chars split.back, characters, bytes)
