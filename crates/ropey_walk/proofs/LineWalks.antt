-- Iterating over the lines of a text in both directions.
use Rattle.std.proofs.Common.{◌≡◌, ℕ, suc, ◌+◌, ◌-◌, ◌^◌, ◌<◌, ◌≤◌, inl, true, List, ◌∷◌, ◌++◌, length, get_or, take, drop, map, refl, ap, arith, sym, ◌∙◌, subst, append_assoc, length-append, length-take-le, length-drop}
use Rattle.std.proofs.Math.Seq.{get_or-append_seam}
use Rattle.std.specs.Str.{chars, IsUtf8, IsCharBoundary}
use Rattle.std.proofs.lemmas.List.{drop_at}
use Rattle.std.proofs.lemmas.Str.{encodes-chars, length-le-encodes, chars-append, IsUtf8-take, IsUtf8-drop, IsCharBoundary-from_rest}
use Rattle.str_indices.specs.Text.{byte_len, units, break_ends, end_place, cuts_cr_lf, NoCrLfBetween}
use Rattle.str_indices.specs.FirstBreak.{IsFirstBreak}
use Rattle.ropey_tree.specs.declared.counts.Counts.{Counts}
use Rattle.ropey_tree.specs.declared.counts.By.{By}
use Rattle.ropey_tree.specs.declared.counts.By.TheVariants.{Breaks}
use Rattle.ropey_tree.specs.Counts.{counts_of, amount}
use Rattle.ropey_walk.specs.Chunks.{is_break, line_breaks}
use Rattle.ropey_walk.specs.Conversions.{byte_of_line, char_of_line}
use Rattle.ropey_walk.proofs.BreakLaws.{LineStarts}
use Rattle.ropey_walk.specs.Parts.{standing}
use Rattle.ropey_walk.specs.Iter.{IsLinePlace}
use Rattle.ropey_walk.specs.declared.iter.lines.LinePlace.{LinePlace}
use Rattle.ropey_walk.proofs.Cuts.{byte_len-append}
use Rattle.ropey_walk.proofs.Clipping.{drop-of-take}
use Rattle.ropey_walk.proofs.Edges.{end_is_boundary}
use Rattle.ropey_walk.proofs.Counting.{units-append, amount-front, take-parts, back_whole, standing-front}
use Rattle.ropey_walk.proofs.Reaching.{amount-below}
use Rattle.ropey_walk.proofs.CharWalks.{chars_cut}
use Rattle.ropey_walk.proofs.LineStarts.{IsCutAtLine, cut_at_line}

same_length : (bytes : List ℕ) → IsUtf8 bytes → byte_len (chars bytes) ≡ length bytes
same_length bytes utf8 = ap length (encodes-chars bytes utf8)

-- ---- the position of a line's start, in a chunk
module _ (law : LineStarts) (text : List ℕ) (from : LinePlace) (h : IsLinePlace text from) where
  abbrev k : ℕ
  k = from.line_idx

  abbrev chunk : List ℕ
  chunk = from.place.text.now

  abbrev start : Counts
  start = from.place.start

  abbrev at : ℕ
  at = from.place.at

  abbrev before : Counts
  before = from.before

  abbrev front : List ℕ
  front = h.place.before ++ chars (take at chunk)

  abbrev rest : List ℕ
  rest = chars (drop at chunk)

  cut : chars chunk ≡ chars (take at chunk) ++ rest
  cut = chars_cut chunk at h.utf8 h.boundary

  parts : text ≡ front ++ (rest ++ h.place.after)
  parts =
      h.place.parts ∙ ap (λ c. h.place.before ++ c ++ h.place.after) cut ∙ ap (λ s. s ++ h.place.after) (sym (append_assoc h.place.before (chars (take at chunk)) rest))
      ∙ append_assoc front rest h.place.after

  place_is : byte_len front ≡ start.bytes + at
  place_is =
      omega (
        arith,
        byte_len-append h.place.before (chars (take at chunk)),
        ap (λ c. c.bytes) h.place.start_is,
        same_length (take at chunk) (IsUtf8-take chunk at h.utf8 h.boundary),
        length-take-le at chunk h.boundary.0,
      )

  there : IsCutAtLine text front (rest ++ h.place.after) k
  there = cut_at_line law text front (rest ++ h.place.after) k parts (place_is ∙ h.starts)

  counted : before ≡ counts_of front
  counted = h.counted ∙ ap counts_of there.taken

  -- no CR LF spans the chunk's end
  whole_behind : NoCrLfBetween rest h.place.after
  whole_behind =
      let n = length front in
      let same : drop n (h.place.before ++ chars chunk) ≡ rest =
      ap (drop n) (ap (λ c. h.place.before ++ c) cut ∙ sym (append_assoc h.place.before (chars (take at chunk)) rest)) ∙ drop_at front rest n refl in
      ap (λ r. cuts_cr_lf r h.place.after) (sym same) ∙ back_whole n (h.place.before ++ chars chunk) h.place.after h.place.whole_after

  chunk_is : byte_len (chars chunk) ≡ length chunk
  chunk_is = same_length chunk h.utf8

  -- a line's start, for the slice from there on
  pub chars_are : before.chars ≡ char_of_line text k
  chars_are = ap (λ c. c.chars) counted ∙ sym there.char_is

  pub within : before.chars ≤ length text
  within = omega (arith, chars_are, there.char_is, ap length parts, length-append front (rest ++ h.place.after))

  pub stands : before ≡ standing text before.chars
  stands =
      let n = char_of_line text k in
      let seam : NoCrLfBetween (take n text) (drop n text) = ap (λ f. cuts_cr_lf f (drop n text)) there.taken ∙ ap (cuts_cr_lf front) there.left ∙ there.whole in
      h.counted ∙ sym (standing-front law.breaks_are text n (omega (arith, chars_are, within)) seam) ∙ ap (standing text) (sym chars_are)

  pub counts : before ≡ counts_of (take before.chars text)
  counts = h.counted ∙ ap (λ n. counts_of (take n text)) (sym chars_are)

  pub lines_fit : line_breaks text < 2 ^ 63
  lines_fit = omega (arith, amount-below law.breaks_are Breaks text, h.place.fits)

  -- ---- characters of one byte
  -- each part of a chunk of such characters has only these
  one_byte : (a b c : List ℕ) → from.place.is_ascii ≡ true → chars chunk ≡ a ++ (b ++ c) → length b ≡ byte_len b
  one_byte a b c is whole =
      omega (
        arith,
        from.place.ascii is,
        chunk_is,
        ap length whole,
        ap byte_len whole,
        length-append a (b ++ c),
        length-append b c,
        byte_len-append a (b ++ c),
        byte_len-append b c,
        length-le-encodes a,
        length-le-encodes b,
        length-le-encodes c,
      )

  pub one_byte_on : (start' end : ℕ) → IsFirstBreak is_break (drop at chunk) start' end → from.place.is_ascii ≡ true → length (chars (take end (drop at chunk))) ≡ length (take end (drop at chunk))
  one_byte_on start' end first is =
      let utf8 = IsUtf8-drop chunk at h.utf8 h.boundary in
      let line = chars (take end (drop at chunk)) in
      let whole = cut ∙ ap (λ r. chars (take at chunk) ++ r) (chars_cut (drop at chunk) end utf8 first.ends) in
      one_byte (chars (take at chunk)) line (chars (drop end (drop at chunk))) is whole ∙ same_length (take end (drop at chunk)) (IsUtf8-take (drop at chunk) end utf8 first.ends)

  -- ---- over the line, if the chunk has a break after the position
  module _ (start' end : ℕ) (first : IsFirstBreak is_break (drop at chunk) start' end) (inside : k < line_breaks text + 1)
      (chars_in units_in : ℕ) (chars_is : chars_in ≡ length (chars (take end (drop at chunk)))) (units_is : units_in ≡ units (chars (take end (drop at chunk)))) where
    abbrev line : List ℕ
    line = chars (take end (drop at chunk))

    abbrev later : List ℕ
    later = chars (drop end (drop at chunk))

    rest_utf8 : IsUtf8 (drop at chunk)
    rest_utf8 = IsUtf8-drop chunk at h.utf8 h.boundary

    rest_cut : rest ≡ line ++ later
    rest_cut = chars_cut (drop at chunk) end rest_utf8 first.ends

    parts_after : text ≡ (front ++ line) ++ (later ++ h.place.after)
    parts_after =
        parts ∙ ap (λ r. front ++ (r ++ h.place.after)) rest_cut ∙ ap (λ r. front ++ r) (append_assoc line later h.place.after)
        ∙ sym (append_assoc front line (later ++ h.place.after))

    line_len : byte_len line ≡ end
    line_len = same_length (take end (drop at chunk)) (IsUtf8-take (drop at chunk) end rest_utf8 first.ends) ∙ length-take-le end (drop at chunk) first.ends.0

    ends_are : (ends : List ℕ) (others : List ℕ) → length ends ≡ k → break_ends is_break text ≡ ends ++ (byte_len front + end) ∷ others → byte_of_line text (k + 1) ≡ byte_len front + end
    ends_are ends others size all =
        let next : k + 1 ≡ suc (length ends) = omega (arith, size) in
        ap (byte_of_line text) next ∙ ap (λ es. get_or es (length ends) (byte_len text)) all ∙ get_or-append_seam ends (byte_len front + end) others (byte_len text)

    breaks_before : line_breaks front ≡ k
    breaks_before = omega (arith, there.breaks_are, inside)

    -- the ends of breaks after the first one of the rest
    abbrev others : List ℕ
    others = map (λ p. byte_len front + p) (map (λ p. end + p) (break_ends is_break later) ++ map (λ p. byte_len rest + p) (break_ends is_break h.place.after))

    all_ends : break_ends is_break text ≡ break_ends is_break front ++ (byte_len front + end) ∷ others
    all_ends =
        let behind : break_ends is_break (rest ++ h.place.after) ≡ end ∷ (map (λ p. end + p) (break_ends is_break later) ++ map (λ p. byte_len rest + p) (break_ends is_break h.place.after)) =
        law.joined rest h.place.after whole_behind ∙ ap (λ es. es ++ map (λ p. byte_len rest + p) (break_ends is_break h.place.after)) first.break_ends in
        ap (break_ends is_break) parts ∙ law.joined front (rest ++ h.place.after) there.whole
        ∙ ap (λ es. break_ends is_break front ++ map (λ p. byte_len front + p) es) behind

    next_start : byte_of_line text (k + 1) ≡ byte_len front + end
    next_start = ends_are (break_ends is_break front) others breaks_before all_ends

    more : k + 1 ≤ line_breaks text
    more = omega (arith, breaks_before, ap length all_ends, length-append (break_ends is_break front) ((byte_len front + end) ∷ others))

    there_after : IsCutAtLine text (front ++ line) (later ++ h.place.after) (k + 1)
    there_after = cut_at_line law text (front ++ line) (later ++ h.place.after) (k + 1) parts_after (omega (arith, byte_len-append front line, line_len, next_start))

    abbrev after_line : Counts
    after_line = record { bytes = before.bytes + end; chars = before.chars + chars_in; units = before.units + units_in; breaks = k + 1 }

    counted_after : after_line ≡ counts_of (front ++ line)
    counted_after =
        let b : before.bytes + end ≡ byte_len (front ++ line) = omega (arith, ap (λ c. c.bytes) counted, byte_len-append front line, line_len) in
        let n : before.chars + chars_in ≡ length (front ++ line) = omega (arith, chars_is, ap (λ c. c.chars) counted, length-append front line) in
        let u : before.units + units_in ≡ units (front ++ line) = omega (arith, units_is, ap (λ c. c.units) counted, units-append front line) in
        let l : k + 1 ≡ line_breaks (front ++ line) = omega (arith, there_after.breaks_are, more) in
        cc

    pub line_passed : (ascii : from.place.is_ascii ≡ true → length (chars chunk) ≡ length chunk)
        → IsLinePlace text (record { line_idx = k + 1; place = record { text = from.place.text; start = start; at = at + end; is_ascii = from.place.is_ascii; ascii = ascii }; before = after_line })
    line_passed ascii =
        let inner : at + end ≤ length chunk = omega (arith, h.boundary.0, first.ends.0, length-drop at chunk) in
        record {
          utf8 = h.utf8;
          boundary = IsCharBoundary-from_rest chunk at end h.boundary.0 first.ends;
          place = record {
            before = h.place.before;
            after = h.place.after;
            parts = h.place.parts;
            start_is = h.place.start_is;
            whole_before = h.place.whole_before;
            whole_after = h.place.whole_after;
            within = omega (arith, inner, chunk_is);
            fits = h.place.fits;
          };
          starts = omega (arith, next_start, place_is);
          counted = counted_after ∙ ap counts_of (sym there_after.taken);
        }

    pub sums_fit : (by : By) → amount by after_line < 2 ^ 63
    sums_fit by =
        omega (
          arith,
          ap (amount by) counted_after,
          amount-below law.breaks_are by (front ++ line),
          ap byte_len parts_after,
          byte_len-append (front ++ line) (later ++ h.place.after),
          h.place.fits,
        )

  -- ---- back over the line, if that starts after the chunk's start
  module _ (i to : ℕ) (next : i + 1 ≡ k) (inside : k ≤ line_breaks text + 1) (some : start.breaks < i) (to_is : to ≡ end_place (break_ends is_break (chars chunk)) (i - start.breaks) (length chunk)) where
    starts_back : start.bytes + to ≡ byte_of_line text i
    starts_back =
        let b = h.place.before in
        let c = chars chunk in
        let starts = ap (λ n. n.breaks) h.place.start_is in
        let whole : front ++ rest ≡ b ++ c = append_assoc b (chars (take at chunk)) rest ∙ ap (λ r. b ++ r) (sym cut) in
        let high : i ≤ line_breaks (b ++ c) = omega (arith, next, inside, there.breaks_are, amount-front law.breaks_are Breaks front rest, ap line_breaks whole) in
        let part = law.part b c h.place.after i h.place.whole_before h.place.whole_after (omega (arith, some, starts)) (inl high) in
        let inner : to ≡ end_place (break_ends is_break c) (i - line_breaks b) (byte_len c) =
        to_is ∙ ap (λ n. end_place (break_ends is_break c) (i - n) (length chunk)) starts ∙ ap (λ n. end_place (break_ends is_break c) (i - line_breaks b) n) (sym chunk_is) in
        ap (λ n. n.bytes + to) h.place.start_is ∙ ap (λ n. byte_len b + n) inner ∙ sym part ∙ ap (λ t. byte_of_line t i) (sym h.place.parts)

    pub order : to ≤ at
    order = omega (arith, starts_back, h.starts, law.rises text i k (omega (arith, next)))

    pub boundary_back : IsCharBoundary chunk to
    boundary_back = subst (λ (n : ℕ). IsCharBoundary chunk n) (sym to_is) (end_is_boundary (break_ends is_break) law.boundaries chunk h.utf8 (i - start.breaks))

    taken_back : take at chunk ≡ take to chunk ++ take (at - to) (drop to chunk)
    taken_back =
        let width : at ≡ to + (at - to) = omega (arith, order) in
        take-parts to at chunk order ∙ ap (λ n. take to chunk ++ drop to (take n chunk)) width ∙ ap (λ bs. take to chunk ++ bs) (drop-of-take to (at - to) chunk)

    cut_back : chars (take at chunk) ≡ chars (take to chunk) ++ chars (take (at - to) (drop to chunk))
    cut_back = ap chars taken_back ∙ chars-append (take to chunk) (take (at - to) (drop to chunk)) (IsUtf8-take chunk to h.utf8 boundary_back)

    pub one_byte_back : from.place.is_ascii ≡ true → length (chars (take (at - to) (drop to chunk))) ≡ at - to
    one_byte_back is =
        let f = chars (take to chunk) in
        let l = chars (take (at - to) (drop to chunk)) in
        let whole = cut ∙ ap (λ a. a ++ rest) cut_back ∙ append_assoc f l rest in
        omega (
          arith,
          one_byte f l rest is whole,
          ap byte_len cut_back,
          byte_len-append f l,
          same_length (take at chunk) (IsUtf8-take chunk at h.utf8 h.boundary),
          same_length (take to chunk) (IsUtf8-take chunk to h.utf8 boundary_back),
          length-take-le at chunk h.boundary.0,
          length-take-le to chunk boundary_back.0,
        )

    module _ (line_back : List ℕ) (line_is : line_back ≡ take (at - to) (drop to chunk)) (chars_in units_in : ℕ) (chars_is : chars_in ≡ length (chars line_back)) (units_is : units_in ≡ units (chars line_back)) where
      abbrev front_back : List ℕ
      front_back = h.place.before ++ chars (take to chunk)

      front_cut : front ≡ front_back ++ chars line_back
      front_cut =
          ap (λ cs. h.place.before ++ cs) (cut_back ∙ ap (λ bs. chars (take to chunk) ++ chars bs) (sym line_is))
          ∙ sym (append_assoc h.place.before (chars (take to chunk)) (chars line_back))

      parts_back : text ≡ front_back ++ (chars line_back ++ (rest ++ h.place.after))
      parts_back = parts ∙ ap (λ f. f ++ (rest ++ h.place.after)) front_cut ∙ append_assoc front_back (chars line_back) (rest ++ h.place.after)

      back_is : byte_len front_back ≡ start.bytes + to
      back_is =
          omega (
            arith,
            byte_len-append h.place.before (chars (take to chunk)),
            ap (λ c. c.bytes) h.place.start_is,
            same_length (take to chunk) (IsUtf8-take chunk to h.utf8 boundary_back),
            length-take-le to chunk boundary_back.0,
          )

      there_back : IsCutAtLine text front_back (chars line_back ++ (rest ++ h.place.after)) i
      there_back = cut_at_line law text front_back (chars line_back ++ (rest ++ h.place.after)) i parts_back (back_is ∙ starts_back)

      bytes_sum : before.bytes ≡ byte_len front_back + (at - to)
      bytes_sum = omega (arith, ap (λ c. c.bytes) counted, place_is, back_is, order)

      chars_sum : before.chars ≡ length front_back + length (chars line_back)
      chars_sum = ap (λ c. c.chars) counted ∙ ap length front_cut ∙ length-append front_back (chars line_back)

      units_sum : before.units ≡ units front_back + units (chars line_back)
      units_sum = ap (λ c. c.units) counted ∙ ap units front_cut ∙ units-append front_back (chars line_back)

      pub bytes_enough : at - to ≤ before.bytes
      bytes_enough = omega (arith, bytes_sum)

      pub chars_enough : chars_in ≤ before.chars
      chars_enough = omega (arith, chars_is, chars_sum)

      pub units_enough : units_in ≤ before.units
      units_enough = omega (arith, units_is, units_sum)

      abbrev before_line : Counts
      before_line = record { bytes = before.bytes - (at - to); chars = before.chars - chars_in; units = before.units - units_in; breaks = i }

      counted_back : before_line ≡ counts_of front_back
      counted_back =
          let b : before.bytes - (at - to) ≡ byte_len front_back = omega (arith, bytes_sum) in
          let n : before.chars - chars_in ≡ length front_back = omega (arith, chars_is, chars_sum) in
          let u : before.units - units_in ≡ units front_back = omega (arith, units_is, units_sum) in
          let l : i ≡ line_breaks front_back = omega (arith, there_back.breaks_are, next, inside) in
          cc

      pub line_unpassed : (ascii : from.place.is_ascii ≡ true → length (chars chunk) ≡ length chunk)
          → IsLinePlace text (record { line_idx = i; place = record { text = from.place.text; start = start; at = to; is_ascii = from.place.is_ascii; ascii = ascii }; before = before_line })
      line_unpassed ascii = record {
        utf8 = h.utf8;
        boundary = boundary_back;
        place = record {
          before = h.place.before;
          after = h.place.after;
          parts = h.place.parts;
          start_is = h.place.start_is;
          whole_before = h.place.whole_before;
          whole_after = h.place.whole_after;
          within = omega (arith, boundary_back.0, chunk_is);
          fits = h.place.fits;
        };
        starts = starts_back;
        counted = counted_back ∙ ap counts_of (sym there_back.taken);
      }

-- a line starts no later than the next one
pub lines_rise : LineStarts → (text : List ℕ) (k m : ℕ) → k ≤ m → char_of_line text k ≤ char_of_line text m
lines_rise law text k m h = law.chars_rise text (byte_of_line text k) (byte_of_line text m) (law.rises text k m h)
