-- A line that goes on in the next chunk: it ends at the first break there.
use Rattle.std.proofs.Common.{◌≡◌, ℕ, ◌+◌, ◌-◌, ◌<◌, ◌≤◌, inl, inr, List, [], ◌∷◌, ◌++◌, length, map, take, drop, sym, ap, ap₂, subst, ◌∙◌, append_assoc, arith, chars, IsUtf8, length-drop, ◌&&◌}
use Rattle.std.specs.Str.{IsCharBoundary, NonePass}
use Rattle.std.proofs.Math.Seq.{drop-append-add, drop-append_seam, take-append-add}
use Rattle.std.proofs.lemmas.List.{drop-take, length-append, length-take-le, take-append-drop, take-append-le}
use Rattle.std.proofs.lemmas.Str.{IsCharBoundary-from_drop, IsUtf8-append, IsUtf8-drop, IsUtf8-take, chars-append, chars_from_encodes, encodes-append, encodes-chars, scalars-chars}
use Rattle.str_indices.specs.Text.{breaks, break_ends, byte_len, starts_with_lf, NoCrLfBetween}
use Rattle.str_indices.specs.FirstBreak.{IsBreak, IsFirstBreak}
use Rattle.str_indices.proofs.TextLaws.{breaks_behind_the_first}
use Rattle.ropey.specs.Chunks.{is_break}
use Rattle.rope_search_reports.specs.Text.{IsText, bytes_of, line_count}
use Rattle.rope_search_reports.specs.Position.{line_text}
use Rattle.rope_search_reports.specs.Drafts.{IsRestOfChunk, IsWalk, StartsLine}
use Rattle.rope_search_reports.proofs.LineLemmas.{byte_len-append, cut-lines, ends-joined_cr, first_line, lines-counted}
use Rattle.rope_search_reports.proofs.WalkLemmas.{length-chars, next-line, starts-between}

-- ---- texts without a break

plain : (text : List ℕ) → breaks is_break text ≡ 0 → NonePass is_break text
plain text none = elim (first_line text) [
  | inl is ↦ is
  | inr cut ↦ absurd (omega (arith, none, lines-counted text, ap length (cut-lines text cut), lines-counted cut.rest))
]

plain-joined : (xs ys : List ℕ) → NonePass is_break xs → NonePass is_break ys → NonePass is_break (xs ++ ys)
plain-joined [] ys one other = other
plain-joined (x ∷ xs) ys one other = (one.0, plain-joined xs ys one.1 other)

-- no CR LF is split after a text that isn't empty, whatever is before it
whole-joined : (front text after : List ℕ) → 0 < byte_len text → NoCrLfBetween text after → NoCrLfBetween (front ++ text) after
whole-joined front [] after some whole = absurd (omega (arith, some, byte_len-append [] []))
whole-joined front (c ∷ cs) after some whole = ap (λ b. b && starts_with_lf after) (ends-joined_cr front c cs) ∙ whole

-- ---- the first break, by its parts

by-parts : (bytes front one left : List ℕ) (start end : ℕ) → take start bytes ≡ front → take (end - start) (drop start bytes) ≡ one → drop end bytes ≡ left
    → IsCharBoundary bytes start → IsCharBoundary bytes end → start < end → chars bytes ≡ (chars front ++ chars one) ++ chars left
    → NonePass is_break (chars front) → IsBreak is_break (chars one) (chars left)
    → break_ends is_break (chars bytes) ≡ end ∷ map (λ place. end + place) (break_ends is_break (chars left))
    → IsFirstBreak is_break bytes start end
by-parts bytes front one left start end front_is one_is left_is starts ends order parts line is behind = record {
  starts = starts;
  ends = ends;
  order = order;
  parts = parts ∙ sym (ap₂ (λ (a b : List ℕ). a ++ b) (ap₂ (λ f m. chars f ++ chars m) front_is one_is) (ap chars left_is));
  line = subst (λ f. NonePass is_break (chars f)) (sym front_is) line;
  one = subst (λ m. IsBreak is_break (chars m) (chars (drop end bytes))) (sym one_is) (subst (λ l. IsBreak is_break (chars one) (chars l)) (sym left_is) is);
  break_ends = behind ∙ ap (λ l. end ∷ map (λ place. end + place) (break_ends is_break (chars l))) (sym left_is);
}

-- ---- the line

-- what the rest of a chunk without a break and the next chunk show of a line
pub record Crosses (text : List ℕ) (line byte : ℕ) (rest chunk : List ℕ) (start end : ℕ) : Type 0 where
  pub own : chars (rest ++ take start chunk) ≡ line_text text line
  pub bytes : take (length rest + start) (drop byte (bytes_of text)) ≡ rest ++ take start chunk
  pub utf8 : IsUtf8 (rest ++ take start chunk)
  pub starts : IsCharBoundary (bytes_of text) byte
  pub stops : IsCharBoundary (bytes_of text) (byte + length rest + start)
  pub walk : IsWalk text (line + 1) (byte + length rest + end) (drop end chunk)

-- it goes on in the next chunk
pub behind-rest : (text : List ℕ) (line byte : ℕ) (rest : List ℕ) → (w : StartsLine text line byte (chars rest)) → IsUtf8 rest
    → (text ≡ (w.before ++ chars rest) ++ w.shown.after) × (byte + length rest ≡ byte_len (w.before ++ chars rest))
behind-rest text line byte rest w utf8 =
    let place = w.place in (
      w.parts ∙ ap (λ t. w.before ++ t) w.shown.parts ∙ sym (append_assoc w.before (chars rest) w.shown.after),
      omega (arith, place, length-chars rest utf8, byte_len-append w.before (chars rest)),
    )

module _ (text : List ℕ) (line byte : ℕ) (rest chunk : List ℕ) (walk : IsWalk text line byte rest) (below : line < line_count text)
    (none : breaks is_break (chars rest) ≡ 0) (utf8 : IsUtf8 chunk) where
  abbrev w : StartsLine text line byte (chars rest)
  w = walk.starts below

  both-utf8 : IsUtf8 (rest ++ chunk)
  both-utf8 = IsUtf8-append rest chunk walk.utf8 utf8

  -- the walk, with the next chunk beside the rest
  joined : IsRestOfChunk w.shown.after (chars chunk) → 0 < length chunk → IsWalk text line byte (rest ++ chunk)
  joined shown some =
      let start : StartsLine text line byte (chars rest ++ chars chunk) = record {
        before = w.before;
        behind = w.behind;
        parts = w.parts;
        place = w.place;
        there = w.there;
        lines = w.lines;
        shown = record {
          after = shown.after;
          parts = w.shown.parts ∙ ap (λ t. chars rest ++ t) shown.parts ∙ sym (append_assoc (chars rest) (chars chunk) shown.after);
          whole = whole-joined (chars rest) (chars chunk) shown.after (omega (arith, some, length-chars chunk utf8)) shown.whole;
        };
      } in
      record {
        text_is = walk.text_is;
        fits = walk.fits;
        bytes_fit = walk.bytes_fit;
        near = walk.near;
        utf8 = both-utf8;
        within = walk.within;
        starts = λ _. subst (StartsLine text line byte) (sym (chars-append rest chunk walk.utf8)) start;
        nothing = λ end. absurd (omega (arith, below, end));
      }

  -- the first break of both is that of the next chunk
  first-joined : (start end : ℕ) → IsFirstBreak is_break chunk start end → IsFirstBreak is_break (rest ++ chunk) (length rest + start) (length rest + end)
  first-joined start end found =
      let own = chars (take start chunk) in
      let one = chars (take (end - start) (drop start chunk)) in
      let left = chars (drop end chunk) in
      let own_utf8 = IsUtf8-take chunk start utf8 found.starts in
      let start_utf8 = IsUtf8-drop chunk start utf8 found.starts in
      let left_utf8 = IsUtf8-drop chunk end utf8 found.ends in
      let order = found.order in
      let within_start = found.starts.0 in
      let within = found.ends.0 in
      let width = length-append rest chunk in
      let apart : (length rest + end) - (length rest + start) ≡ end - start = omega arith in
      let line_is : chars (rest ++ take start chunk) ≡ chars rest ++ own = chars-append rest (take start chunk) walk.utf8 in
      let line : NonePass is_break (chars rest ++ own) = plain-joined (chars rest) own (plain (chars rest) none) found.line in
      let all : chars (rest ++ chunk) ≡ ((chars rest ++ own) ++ one) ++ left =
      chars-append rest chunk walk.utf8 ∙ ap (λ t. chars rest ++ t) found.parts ∙ sym (append_assoc (chars rest) (own ++ one) left)
      ∙ ap (λ t. t ++ left) (sym (append_assoc (chars rest) own one)) in
      let gone : byte_len left ≡ length chunk - end = length-chars (drop end chunk) left_utf8 ∙ length-drop end chunk in
      let sizes : byte_len ((chars rest ++ own) ++ one) ≡ length rest + end =
      omega (
        arith,
        byte_len-append (chars rest ++ own) one,
        byte_len-append (chars rest) own,
        length-chars rest walk.utf8,
        length-chars chunk utf8,
        ap byte_len found.parts,
        byte_len-append (own ++ one) left,
        byte_len-append own one,
        gone,
        within,
      ) in
      let behind : break_ends is_break (chars (rest ++ chunk)) ≡ (length rest + end) ∷ map (λ place. length rest + end + place) (break_ends is_break left) =
      ap (break_ends is_break) all ∙ (breaks_behind_the_first is_break (chars rest ++ own) one left line found.one).1
      ∙ ap (λ n. n ∷ map (λ place. n + place) (break_ends is_break left)) sizes in
      by-parts (rest ++ chunk) (rest ++ take start chunk) (take (end - start) (drop start chunk)) (drop end chunk) (length rest + start) (length rest + end)
      (take-append-add rest chunk start)
      (ap₂ (λ n bs. take n bs) apart (drop-append-add rest chunk start))
      (drop-append-add rest chunk end)
      (IsCharBoundary-from_drop (rest ++ chunk) (length rest + start) (omega (arith, within_start, width)) (subst IsUtf8 (sym (drop-append-add rest chunk start)) start_utf8))
      (IsCharBoundary-from_drop (rest ++ chunk) (length rest + end) (omega (arith, within, width)) (subst IsUtf8 (sym (drop-append-add rest chunk end)) left_utf8))
      (omega (arith, order))
      (all ∙ ap (λ l. (l ++ one) ++ left) (sym line_is))
      (subst (NonePass is_break) (sym line_is) line)
      found.one
      behind

  pub crosses : IsRestOfChunk w.shown.after (chars chunk) → (start end : ℕ) → IsFirstBreak is_break chunk start end → Crosses text line byte rest chunk start end
  crosses shown start end found =
      let order = found.order in
      let within_start = found.starts.0 in
      let within = found.ends.0 in
      let some : 0 < length chunk = omega (arith, order, within) in
      let next = next-line text line byte (rest ++ chunk) (length rest + start) (length rest + end) (joined shown some) below (first-joined start end found) in
      let own_utf8 = IsUtf8-take chunk start utf8 found.starts in
      let front = w.before ++ chars rest in
      let parts = (behind-rest text line byte rest w walk.utf8).0 in
      let place = (behind-rest text line byte rest w walk.utf8).1 in
      let own = chars (take start chunk) in
      let left = chars (drop start chunk) in
      let split : chars chunk ≡ own ++ left =
      ap chars (sym (take-append-drop start chunk)) ∙ chars-append (take start chunk) (drop start chunk) own_utf8 in
      let stop_parts : text ≡ (front ++ own) ++ (left ++ shown.after) =
      parts ∙ ap (λ t. front ++ t) (shown.parts ∙ ap (λ t. t ++ shown.after) split ∙ append_assoc own left shown.after) ∙ sym (append_assoc front own (left ++ shown.after)) in
      let stop : byte + length rest + start ≡ byte_len (front ++ own) =
      omega (arith, place, byte_len-append front own, length-chars (take start chunk) own_utf8, length-take-le start chunk within_start) in
      let tail : bytes_of w.shown.after ≡ chunk ++ bytes_of shown.after =
      ap bytes_of shown.parts ∙ encodes-append (chars chunk) shown.after ∙ ap (λ t. t ++ bytes_of shown.after) (encodes-chars chunk utf8) in
      let bytes : drop byte (bytes_of text) ≡ rest ++ (chunk ++ bytes_of shown.after) =
      ap (λ n. drop n (bytes_of text)) w.place ∙ ap (drop (byte_len w.before)) (ap bytes_of w.parts ∙ encodes-append w.before w.behind)
      ∙ drop-append_seam (bytes_of w.before) (bytes_of w.behind)
      ∙ ap bytes_of w.shown.parts ∙ encodes-append (chars rest) w.shown.after ∙ ap₂ (λ (a b : List ℕ). a ++ b) (encodes-chars rest walk.utf8) tail in
      let near : byte + (length rest + end) ≡ byte + length rest + end = omega arith in
      record {
        own = ap chars (sym (take-append-add rest chunk start)) ∙ next.own;
        bytes = ap (take (length rest + start)) bytes ∙ take-append-add rest (chunk ++ bytes_of shown.after) start ∙ ap (λ t. rest ++ t) (take-append-le start chunk (bytes_of shown.after) within_start);
        utf8 = IsUtf8-append rest (take start chunk) walk.utf8 own_utf8;
        starts = starts-between text w.before w.behind byte walk.text_is w.parts w.place;
        stops = starts-between text (front ++ own) (left ++ shown.after) (byte + length rest + start) walk.text_is stop_parts stop;
        walk = subst (λ n. IsWalk text (line + 1) n (drop end chunk)) near (subst (IsWalk text (line + 1) (byte + (length rest + end))) (drop-append-add rest chunk end) next.walk);
      }

-- the rest ends at a boundary of the text
pub rest-ends : (text : List ℕ) (line byte : ℕ) (rest : List ℕ) → IsWalk text line byte rest → line < line_count text
    → IsCharBoundary (bytes_of text) (byte + length rest) × (byte + length rest ≤ byte_len text)
rest-ends text line byte rest walk below =
    let w = walk.starts below in
    let h = behind-rest text line byte rest w walk.utf8 in
    let front = w.before ++ chars rest in (
      starts-between text front w.shown.after (byte + length rest) walk.text_is h.0 h.1,
      omega (arith, h.1, ap byte_len h.0, byte_len-append front w.shown.after),
    )

-- the same, from the chunk that is there
pub crosses-to : (text : List ℕ) (line byte : ℕ) (rest chunk : List ℕ) → IsWalk text line byte rest → line < line_count text → breaks is_break (chars rest) ≡ 0 → IsUtf8 chunk
    → ((before behind : List ℕ) → text ≡ before ++ behind → byte + length rest ≡ byte_len before → IsRestOfChunk behind (chars chunk))
    → (start end : ℕ) → IsFirstBreak is_break chunk start end → Crosses text line byte rest chunk start end
crosses-to text line byte rest chunk walk below none utf8 shown start end found =
    let w = walk.starts below in
    let h = behind-rest text line byte rest w walk.utf8 in
    crosses text line byte rest chunk walk below none utf8 (shown (w.before ++ chars rest) w.shown.after h.0 h.1) start end found

-- the slice between its ends is its text
pub crossing-text : (text : List ℕ) (line byte : ℕ) (rest chunk : List ℕ) (start end : ℕ) (own : List ℕ) → (h : Crosses text line byte rest chunk start end)
    → bytes_of own ≡ drop byte (take (byte + length rest + start) (bytes_of text)) → (own ≡ line_text text line) × IsText own
crossing-text text line byte rest chunk start end own h is =
    let bytes = bytes_of text in
    let near : byte + length rest + start ≡ byte + (length rest + start) = omega arith in
    let spelled : own ≡ chars (rest ++ take start chunk) =
    chars_from_encodes own (rest ++ take start chunk) h.utf8
    (is ∙ ap (λ n. drop byte (take n bytes)) near ∙ drop-take byte (length rest + start) bytes ∙ h.bytes) in (
      spelled ∙ h.own,
      subst IsText (sym spelled) (scalars-chars (rest ++ take start chunk) h.utf8),
    )
