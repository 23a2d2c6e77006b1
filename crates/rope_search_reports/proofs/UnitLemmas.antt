-- The code units before an offset, counted in a chunk and before it.
use Rattle.std.proofs.Common.{◌≡◌, ℕ, ◌+◌, ◌-◌, ◌^◌, ◌<◌, ◌≤◌, true, List, [], ◌++◌, length, sym, ap, subst, ◌∙◌, arith, chars, IsUtf8}
use Rattle.std.specs.Str.{IsCharBoundary, all_scalars}
use Rattle.std.proofs.lemmas.Str.{encodes-chars, scalars-chars}
use Rattle.str_indices.specs.Text.{breaks, break_ends, byte_len, end_place, ends_up_to, unit_ends, units}
use Rattle.str_indices.proofs.TextLaws.{to_byte_idx_is_a_boundary-lines}
use Rattle.ropey.specs.Counts.{Bytes, Breaks, Counts, StandsAt}
use Rattle.ropey.specs.Chunks.{IsCutting, ShowsChunk, is_break, text_of}
use Rattle.rope_search_reports.specs.Text.{bytes_of, line_count}
use Rattle.rope_search_reports.specs.Position.{column_at, line_at, line_start}
use Rattle.rope_search_reports.proofs.ChunkColumns.{line-of-place}
use Rattle.rope_search_reports.proofs.LineLemmas.{byte_len-append}
use Rattle.rope_search_reports.proofs.PlaceLemmas.{counts_column, front_of, line_inside, rope-scalars, split_at}
use Rattle.rope_search_reports.proofs.StartLemmas.{told}
use Rattle.rope_search_reports.proofs.TellerLemmas.{IsShown, is-shown, reached-there}
use Rattle.rope_search_reports.proofs.TextPlaces.{places}
use Rattle.rope_search_reports.proofs.WalkLemmas.{shown-rest}

-- the chunk that contains an offset, without its code units
pub shown-at : (pieces : List (List ℕ)) (place : ℕ) (chunk : List ℕ) (start : Counts) → StandsAt pieces Bytes place chunk start
    → ShowsChunk pieces byte_len place chunk start.bytes start.chars start.breaks
shown-at pieces place chunk start s = record {
  before = s.before;
  after = s.after;
  parts = s.parts;
  some = s.some;
  byte_is = ap (λ (c : Counts). c.bytes) s.start_is;
  char_is = ap (λ (c : Counts). c.chars) s.start_is;
  line_is = ap (λ (c : Counts). c.breaks) s.start_is;
  not_past = s.not_past;
  passed = s.passed;
}

shown-of-break : (pieces : List (List ℕ)) (k : ℕ) (chunk : List ℕ) (start : Counts) → StandsAt pieces Breaks k chunk start
    → ShowsChunk pieces (breaks is_break) k chunk start.bytes start.chars start.breaks
shown-of-break pieces k chunk start s = record {
  before = s.before;
  after = s.after;
  parts = s.parts;
  some = s.some;
  byte_is = ap (λ (c : Counts). c.bytes) s.start_is;
  char_is = ap (λ (c : Counts). c.chars) s.start_is;
  line_is = ap (λ (c : Counts). c.breaks) s.start_is;
  not_past = s.not_past;
  passed = s.passed;
}

-- the number of code units before an offset of the text
pub record AreUnitsBefore (text : List ℕ) (place count : ℕ) : Type 0 where
  pub are : count ≡ ends_up_to place (unit_ends text)
  pub few : count ≤ byte_len text

-- none before the first line
pub none-before : (text : List ℕ) → 0 ≡ ends_up_to (line_start text 0) (unit_ends text)
none-before text = sym (places.units_add [] [] text 0 tt tt (omega arith) (omega arith))

-- an offset of a chunk, at a character boundary
units-at : (text chunk : List ℕ) (byte char line count at : ℕ) → (h : IsShown text chunk byte char line) → count ≡ units h.before → all_scalars chunk ≡ true
    → IsCharBoundary (bytes_of chunk) at → AreUnitsBefore text (byte + at) (count + ends_up_to at (unit_ends chunk))
units-at text chunk byte char line count at h count_is scalars between =
    let place = byte + at in
    let inside = between.0 in
    let start_is = h.start_is in
    let sum = places.units_add h.before chunk h.after place tt tt (omega (arith, start_is)) (omega (arith, start_is, inside, byte_len-append h.before chunk)) in
    let less : place - byte_len h.before ≡ at = omega (arith, start_is) in
    let there : ends_up_to place (unit_ends text) ≡ units h.before + ends_up_to at (unit_ends chunk) =
    ap (λ t. ends_up_to place (unit_ends t)) h.parts ∙ sum ∙ ap (λ n. units h.before + ends_up_to n (unit_ends chunk)) less in
    let split = split_at chunk at scalars between in
    let front = front_of places chunk split.front split.back split.parts in
    let counted : ends_up_to at (unit_ends chunk) ≡ units split.front = ap (λ n. ends_up_to n (unit_ends chunk)) split.place_is ∙ front.units_are in
    let sizes = ap byte_len h.parts ∙ byte_len-append (h.before ++ chunk) h.after in
    record {
      are = omega (arith, count_is, there);
      few = omega (arith, count_is, counted, split.place_is, inside, sizes, byte_len-append h.before chunk, places.few_units h.before, places.few_units split.front);
    }

-- the offset by which the chunk was looked up
pub units-of-place : (pieces : List (List ℕ)) (bytes : List ℕ) (place : ℕ) (start : Counts) → IsCutting pieces → IsUtf8 bytes → StandsAt pieces Bytes place (chars bytes) start
    → IsCharBoundary (bytes_of (text_of pieces)) place → start.bytes ≤ place
    → AreUnitsBefore (text_of pieces) place (start.units + ends_up_to (place - start.bytes) (unit_ends (chars bytes)))
unfolding shown-at
units-of-place pieces bytes place start cut utf8 s boundary low =
    let text = text_of pieces in
    let chunk = chars bytes in
    let shown = shown-at pieces place chunk start s in
    let h = is-shown byte_len pieces place start.bytes start.chars start.breaks chunk cut shown in
    let units_are : start.units ≡ units h.0.before = ap (λ (c : Counts). c.units) s.start_is ∙ ap units (sym h.1) in
    let cut_at = split_at text place (rope-scalars pieces cut) boundary in
    let here = (shown-rest pieces bytes place start.bytes start.chars start.breaks cut utf8 shown cut_at.front cut_at.back cut_at.parts cut_at.place_is).0 in
    let between = subst (λ (bs : List ℕ). IsCharBoundary bs (place - start.bytes)) (sym (encodes-chars bytes utf8)) here in
    let back : start.bytes + (place - start.bytes) ≡ place = omega (arith, low) in
    subst (λ n. AreUnitsBefore text n (start.units + ends_up_to (place - start.bytes) (unit_ends chunk))) back
    (units-at text chunk start.bytes start.chars start.breaks start.units (place - start.bytes) h.0 units_are (scalars-chars bytes utf8) between)

-- where a line other than the first starts, in the chunk in which the break before it ends
pub record StartsBehind (pieces : List (List ℕ)) (line : ℕ) (bytes : List ℕ) (start : Counts) (at : ℕ) : Type 0 where
  pub low : start.breaks ≤ line
  pub units_are : AreUnitsBefore (text_of pieces) (line_start (text_of pieces) line) (start.units + ends_up_to at (unit_ends (chars bytes)))

pub starts-behind : (pieces : List (List ℕ)) (line : ℕ) (bytes : List ℕ) (start : Counts) (at : ℕ) → IsCutting pieces → IsUtf8 bytes → 0 < line → StandsAt pieces Breaks (line - 1) (chars bytes) start
    → at ≡ end_place (break_ends is_break (chars bytes)) (line - start.breaks) (length bytes) → StartsBehind pieces line bytes start at
unfolding shown-of-break
starts-behind pieces line bytes start at cut utf8 some s at_is =
    let text = text_of pieces in
    let chunk = chars bytes in
    let shown = shown-of-break pieces (line - 1) chunk start s in
    let t = told pieces line chunk start.bytes start.chars start.breaks cut (record { first = λ none. absurd (omega (arith, none, some)); later = λ _. shown }) in
    let h = is-shown (breaks is_break) pieces (line - 1) start.bytes start.chars start.breaks chunk cut shown in
    let units_are : start.units ≡ units h.0.before = ap (λ (c : Counts). c.units) s.start_is ∙ ap units (sym h.1) in
    let width : byte_len chunk ≡ length bytes = ap length (encodes-chars bytes utf8) in
    let place : at ≡ end_place (break_ends is_break chunk) (line - start.breaks) (byte_len chunk) = at_is ∙ ap (end_place (break_ends is_break chunk) (line - start.breaks)) (sym width) in
    let between = subst (IsCharBoundary (bytes_of chunk)) (sym place) (to_byte_idx_is_a_boundary-lines is_break chunk (line - start.breaks) (scalars-chars bytes utf8)) in
    let there : start.bytes + at ≡ line_start text line = sym (t.there ∙ ap (λ n. start.bytes + n) (sym place)) in
    record {
      low = t.low;
      units_are =
          subst (λ n. AreUnitsBefore text n (start.units + ends_up_to at (unit_ends chunk))) there
          (units-at text chunk start.bytes start.chars start.breaks start.units at h.0 units_are (scalars-chars bytes utf8) between);
    }

-- ---- an offset whose line starts before its chunk

pub record IsBeforeChunk (text : List ℕ) (place line units : ℕ) : Type 0 where
  pub line_is : line ≡ line_at text place
  pub below : line < line_count text
  pub few : units ≤ byte_len text
  pub order : ends_up_to (line_start text line) (unit_ends text) ≤ units
  pub column : units - ends_up_to (line_start text line) (unit_ends text) ≡ column_at text place

pub before-chunk : (pieces : List (List ℕ)) (bytes : List ℕ) (place : ℕ) (start : Counts) → IsCutting pieces → IsUtf8 bytes → byte_len (text_of pieces) < 2 ^ 63
    → StandsAt pieces Bytes place (chars bytes) start → IsCharBoundary (bytes_of (text_of pieces)) place → 0 ≡ ends_up_to (place - start.bytes) (break_ends is_break (chars bytes))
    → IsBeforeChunk (text_of pieces) place start.breaks (start.units + ends_up_to (place - start.bytes) (unit_ends (chars bytes)))
before-chunk pieces bytes place start cut utf8 fits s boundary none =
    let text = text_of pieces in
    let shown = shown-at pieces place (chars bytes) start s in
    let low = (reached-there pieces bytes place start.bytes start.chars start.breaks utf8 shown boundary.0).0 in
    let told = line-of-place pieces bytes place start.bytes start.chars start.breaks 0 cut utf8 fits shown boundary.0 none in
    let line_is : start.breaks ≡ line_at text place = omega (arith, told) in
    let units_are = units-of-place pieces bytes place start cut utf8 s boundary low in
    let counted = counts_column places text place (rope-scalars pieces cut) boundary in
    let own : ends_up_to (line_start text start.breaks) (unit_ends text) ≡ ends_up_to (line_start text (line_at text place)) (unit_ends text) =
    ap (λ n. ends_up_to (line_start text n) (unit_ends text)) line_is in
    let are = units_are.are in
    let order = counted.order in
    let column = counted.column in
    record {
      line_is = line_is;
      below = omega (arith, line_is, line_inside text place);
      few = units_are.few;
      order = omega (arith, own, are, order);
      column = omega (arith, own, are, order, column);
    }
