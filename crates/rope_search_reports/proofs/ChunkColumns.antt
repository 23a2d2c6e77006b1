-- The position of an offset in the chunk in which its line starts.
use Rattle.std.proofs.Common.{◌≡◌, ℕ, ◌+◌, ◌-◌, ◌^◌, ◌<◌, ◌≤◌, inl, cond, min, List, ◌++◌, length, take, drop, sym, ap, subst, ◌∙◌, arith, append_assoc, chars, IsUtf8}
use Rattle.std.specs.Str.{IsCharBoundary}
use Rattle.std.proofs.Math.Seq.{drop-append-add}
use Rattle.std.proofs.lemmas.List.{drop-append-le, length-drop, take-append-le}
use Rattle.std.proofs.lemmas.List.Sums.{count_by-le-length}
use Rattle.std.proofs.lemmas.Str.{encodes-append, encodes-chars, scalars-chars}
use Rattle.std.specs.Prelude.{nat_le}
use Rattle.str_indices.specs.Text.{breaks, break_ends, byte_len, cuts_cr_lf, end_place, ends_up_to, units}
use Rattle.str_indices.proofs.TextLaws.{breaks_of_joined_texts-lines_crlf, ends_behind_a_boundary-lines, ends_of_a_part-lines, place_there_and_back-lines, places_of_a_part-lines, to_byte_idx_is_a_boundary-lines}
use Rattle.ropey.specs.Chunks.{IsCutting, ShowsChunk, is_break, text_of}
use Rattle.rope_search_reports.specs.Text.{bytes_of}
use Rattle.rope_search_reports.specs.Position.{column_at, line_at, line_start}
use Rattle.rope_search_reports.proofs.PlaceLemmas.{line_inside, rope-scalars, split_at}
use Rattle.rope_search_reports.specs.declared.line_start.LineStart.{LineStart}
use Rattle.rope_search_reports.specs.Drafts.{IsWalk, StartsIn}
use Rattle.rope_search_reports.proofs.StartLemmas.{few-lines, walk-from}
use Rattle.rope_search_reports.proofs.TellerLemmas.{is-shown, is-teller, line-told, reached-there}
use Rattle.rope_search_reports.proofs.WalkLemmas.{shown-rest, uncut-behind}

-- the line of an offset, from the breaks of the chunk that end up to it
pub line-of-place : (pieces : List (List ℕ)) (bytes : List ℕ) (place start char first count : ℕ) → IsCutting pieces → IsUtf8 bytes → byte_len (text_of pieces) < 2 ^ 63
    → ShowsChunk pieces byte_len place (chars bytes) start char first → place ≤ byte_len (text_of pieces) → count ≡ ends_up_to (place - start) (break_ends is_break (chars bytes))
    → first + count ≡ line_at (text_of pieces) place
line-of-place pieces bytes place start char first count cut utf8 fits s inside count_is =
    let text = text_of pieces in
    let reach = reached-there pieces bytes place start char first utf8 s inside in
    let teller = is-teller (ends_of_a_part-lines is_break) pieces bytes place start char first cut utf8 s (few-lines text fits) fits in
    ap (λ n. first + n) count_is ∙ line-told (ends_of_a_part-lines is_break) (ends_behind_a_boundary-lines is_break) text bytes start first place teller reach.0 reach.1

-- if some do, the line starts in the chunk, after the last of them
pub walk-in-chunk : (pieces : List (List ℕ)) (place first count : ℕ) (start : LineStart) → IsCutting pieces → IsUtf8 start.chunk.now → byte_len (text_of pieces) < 2 ^ 63
    → ShowsChunk pieces byte_len place (chars start.chunk.now) start.byte_idx start.char_idx first → place ≤ byte_len (text_of pieces)
    → count ≡ ends_up_to (place - start.byte_idx) (break_ends is_break (chars start.chunk.now)) → 0 < count
    → start.at ≡ end_place (break_ends is_break (chars start.chunk.now)) count (length start.chunk.now)
    → IsWalk (text_of pieces) (first + count) (start.byte_idx + start.at) (drop start.at start.chunk.now) × IsCharBoundary start.chunk.now start.at
walk-in-chunk pieces place first count start cut utf8 fits s inside count_is some at_is =
    let bytes = start.chunk.now in
    let text = text_of pieces in
    let chunk = chars bytes in
    let ends = break_ends is_break chunk in
    let h = (is-shown byte_len pieces place start.byte_idx start.char_idx first chunk cut s).0 in
    let start_is = h.start_is in
    let first_is = h.line_is in
    let width : byte_len chunk ≡ length bytes = ap length (encodes-chars bytes utf8) in
    let line_is = line-of-place pieces bytes place start.byte_idx start.char_idx first count cut utf8 fits s inside count_is in
    let there : start.at ≡ end_place ends count (byte_len chunk) = at_is ∙ ap (end_place ends count) (sym width) in
    let few = count_by-le-length (λ e. nat_le e (place - start.byte_idx)) ends in
    let none : cond {A = ℕ} (cuts_cr_lf h.before chunk) 1 0 ≡ 0 = ap (λ b. cond {A = ℕ} b 1 0) h.whole in
    let joined = breaks_of_joined_texts-lines_crlf h.before chunk in
    let within : first + count ≤ breaks is_break (h.before ++ chunk) = omega (arith, joined, none, few, count_is, first_is) in
    let part = places_of_a_part-lines is_break h.before chunk h.after (first + count) h.whole h.whole_behind (omega (arith, some, first_is)) (inl within) in
    let less : first + count - breaks is_break h.before ≡ count = omega (arith, first_is) in
    let started : line_start text (first + count) ≡ byte_len h.before + start.at =
    ap (λ t. line_start t (first + count)) h.parts ∙ part ∙ ap (λ n. byte_len h.before + end_place ends n (byte_len chunk)) less ∙ ap (λ n. byte_len h.before + n) (sym there) in
    let between : IsCharBoundary (bytes_of chunk) (end_place ends count (byte_len chunk)) = to_byte_idx_is_a_boundary-lines is_break chunk count (scalars-chars bytes utf8) in
    let here = subst (λ (n : ℕ). IsCharBoundary bytes n) (sym there) (subst (λ (bs : List ℕ). IsCharBoundary bs (end_place ends count (byte_len chunk))) (encodes-chars bytes utf8) between) in
    let starts : StartsIn text (first + count) start = record {
      first = h.before;
      others = h.after;
      parts = h.parts ∙ append_assoc h.before chunk h.after;
      utf8 = utf8;
      whole = uncut-behind h.before chunk h.after h.whole_behind;
      byte_is = h.start_is;
      char_is = h.char_is;
      there = omega (arith, started, start_is);
      between = here;
      scalars = rope-scalars pieces cut;
      fits = fits;
    } in
    (walk-from text (first + count) start starts (omega (arith, line_is, line_inside text place)), here)

-- some breaks end in the chunk up to the offset, and this is where the last of them does
pub record IsInChunk (text bytes : List ℕ) (first place end count at : ℕ) : Type 0 where
  pub line_is : first + count ≡ line_at text place
  pub few : first + count < 2 ^ 64
  pub low : at ≤ end
  pub starts : IsCharBoundary bytes at
  pub ends : IsCharBoundary bytes end
  pub column_is : units (chars (take (end - at) (drop at bytes))) ≡ column_at text place

pub in-chunk : (pieces : List (List ℕ)) (bytes : List ℕ) (place start char first count at : ℕ) → IsCutting pieces → IsUtf8 bytes → byte_len (text_of pieces) < 2 ^ 63
    → ShowsChunk pieces byte_len place (chars bytes) start char first → IsCharBoundary (bytes_of (text_of pieces)) place
    → count ≡ ends_up_to (place - start) (break_ends is_break (chars bytes)) → 0 < count → at ≡ end_place (break_ends is_break (chars bytes)) count (length bytes)
    → IsInChunk (text_of pieces) bytes first place (place - start) count at
in-chunk pieces bytes place start char first count at cut utf8 fits s boundary count_is some at_is =
    let text = text_of pieces in
    let chunk = chars bytes in
    let end = place - start in
    let ends = break_ends is_break chunk in
    let h = (is-shown byte_len pieces place start char first chunk cut s).0 in
    let start_is = h.start_is in
    let first_is = h.line_is in
    let width : byte_len chunk ≡ length bytes = ap length (encodes-chars bytes utf8) in
    let reach = reached-there pieces bytes place start char first utf8 s boundary.0 in
    let line_is : first + count ≡ line_at text place = line-of-place pieces bytes place start char first count cut utf8 fits s boundary.0 count_is in
    let there : at ≡ end_place ends count (byte_len chunk) = at_is ∙ ap (end_place ends count) (sym width) in
    let back : end_place ends (ends_up_to end ends) (byte_len chunk) ≤ min end (byte_len chunk) = place_there_and_back-lines is_break chunk end in
    let same : end_place ends count (byte_len chunk) ≡ end_place ends (ends_up_to end ends) (byte_len chunk) = ap (λ n. end_place ends n (byte_len chunk)) count_is in
    let low : at ≤ end = omega (arith, there, same, back) in
    let few = count_by-le-length (λ e. nat_le e end) ends in
    let none : cond {A = ℕ} (cuts_cr_lf h.before chunk) 1 0 ≡ 0 = ap (λ b. cond {A = ℕ} b 1 0) h.whole in
    let joined = breaks_of_joined_texts-lines_crlf h.before chunk in
    let within : first + count ≤ breaks is_break (h.before ++ chunk) = omega (arith, joined, none, few, count_is, first_is) in
    let part = places_of_a_part-lines is_break h.before chunk h.after (first + count) h.whole h.whole_behind (omega (arith, some, first_is)) (inl within) in
    let less : first + count - breaks is_break h.before ≡ count = omega (arith, first_is) in
    let started : line_start text (line_at text place) ≡ byte_len h.before + at =
    ap (line_start text) (sym line_is) ∙ ap (λ t. line_start t (first + count)) h.parts ∙ part ∙ ap (λ n. byte_len h.before + end_place ends n (byte_len chunk)) less
    ∙ ap (λ n. byte_len h.before + n) (sym there) in
    let all : bytes_of text ≡ bytes_of h.before ++ (bytes ++ bytes_of h.after) =
    ap bytes_of (h.parts ∙ append_assoc h.before chunk h.after) ∙ encodes-append h.before (chunk ++ h.after)
    ∙ ap (λ bs. bytes_of h.before ++ bs) (encodes-append chunk h.after ∙ ap (λ bs. bs ++ bytes_of h.after) (encodes-chars bytes utf8)) in
    let at_within : at ≤ length bytes = omega (arith, low, reach.1) in
    let left : drop (byte_len h.before + at) (bytes_of text) ≡ drop at bytes ++ bytes_of h.after =
    ap (drop (byte_len h.before + at)) all ∙ drop-append-add (bytes_of h.before) (bytes ++ bytes_of h.after) at ∙ drop-append-le at bytes (bytes_of h.after) at_within in
    let span : place - (byte_len h.before + at) ≡ end - at = omega (arith, start_is) in
    let taken : take (place - line_start text (line_at text place)) (drop (line_start text (line_at text place)) (bytes_of text)) ≡ take (end - at) (drop at bytes) =
    ap (λ n. take (place - n) (drop n (bytes_of text))) started ∙ ap (λ n. take n (drop (byte_len h.before + at) (bytes_of text))) span ∙ ap (take (end - at)) left
    ∙ take-append-le (end - at) (drop at bytes) (bytes_of h.after) (omega (arith, length-drop at bytes, reach.1)) in
    let cut_at = split_at text place (rope-scalars pieces cut) boundary in
    let here = (shown-rest pieces bytes place start char first cut utf8 s cut_at.front cut_at.back cut_at.parts cut_at.place_is).0 in
    let between : IsCharBoundary (bytes_of chunk) (end_place ends count (byte_len chunk)) = to_byte_idx_is_a_boundary-lines is_break chunk count (scalars-chars bytes utf8) in
    record {
      line_is = line_is;
      few = omega (arith, line_is, line_inside text place, few-lines text fits);
      low = low;
      starts = subst (λ (n : ℕ). IsCharBoundary bytes n) (sym there) (subst (λ (bs : List ℕ). IsCharBoundary bs (end_place ends count (byte_len chunk))) (encodes-chars bytes utf8) between);
      ends = here;
      column_is = ap (λ bs. units (chars bs)) (sym taken);
    }
