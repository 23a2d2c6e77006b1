-- The edit that replaces a match of a report.
use Rattle.std.proofs.Common.{◌≡◌, ℕ, zero, suc, ◌+◌, ◌-◌, ◌<◌, ◌≤◌, ◌⊎◌, inl, inr, List, [], ◌∷◌, ◌++◌, Option, None, Some, Result, Ok, Err, IfErr, IsUtf8, All, length, map, take, drop, chars, slice_index_or, refl, ap, sym, subst, ◌∙◌, arith, append_assoc, true, false, Bool, ◌==◌, ◌&&◌, if◌then◌else◌, IfSome}
use Rattle.std.specs.List.{range_with_len}
use Rattle.std.specs.Prelude.{option_map, slice_get}
use Rattle.std.specs.Str.{IsCharBoundary, all_scalars}
use Rattle.std.proofs.Math.Seq.{drop-append_seam, take-append_seam}
use Rattle.std.proofs.lemmas.Bool.{and_from, and_parts, cases_lt}
use Rattle.std.proofs.lemmas.List.{get_or_past, length-append, length-drop}
use Rattle.std.proofs.lemmas.Str.{IsUtf8-drop, encodes-append, encodes-chars, IsCharBoundary-at_seam, IsCharBoundary-start, IsUtf8-between, scalars-chars}
use Rattle.str_indices.specs.Text.{byte_len, units}
use Rattle.rope_search_io.specs.declared.faults.Fault.{Fault}
use Rattle.rope_search_io.specs.declared.faults.Fault.TheVariants.{Range, Memory}
use Rattle.ropey.specs.Slices.{IsByteRangeIn}
use Rattle.ropey.specs.Slices as walk
use Rattle.rope_search_reports.specs.Laws.{HasARowALine, MatchesStandAtBoundaries}
use Rattle.rope_search_reports.specs.LineGroups.{GroupsAreOfRows, TellsGroups, in_columns}
use Rattle.rope_search_reports.specs.Matches.{IsMatches, group_of, groups_of}
use Rattle.rope_search_reports.specs.Pattern.{span_of}
use Rattle.rope_search_reports.specs.Position.{IsAt, StandsAtBoundaries, column_at, line_start, line_text}
use Rattle.rope_search_reports.specs.Replacement.{Groups, HasSpansIn, IsSpanIn, alone, between, expand, group_text, is_digit, replaced, text_of_span, whole}
use Rattle.rope_search_reports.specs.Report.{AreRows, IsReport, IsRow, columns, line_texts}
use Rattle.rope_search_reports.specs.Text.{IsText, bytes_of, line_count}
use Rattle.rope_search_reports.specs.declared.positions.Position.{Position}
use Rattle.rope_search_reports.proofs.PlaceLemmas.{split_at}
use Rattle.rope_search_templates.specs.Templates.{names_explicit_groups}
use Rattle.rope_search_templates.proofs.ContentLemmas.{between-len, scalars-joined, scalars-parts}
use Rattle.rope_search_templates.proofs.ExpandLemmas.{expand-alone}
use Rattle.rope_search_templates.proofs.SpanLemmas.{range-in}
use Rattle.rope_search.specs.GroupsAt.{TellsGroupsIn}
use Rattle.rope_search.specs.LineColumns.{columns_as, front_to}
use Rattle.rope_search.specs.MatchEdits.{IsTooLongIn, ReplacesMatchIn, ServeFor, expansion, in_bytes, placed}
use Rattle.rope_search.specs.Places.{GetsTooLong, HasNoneBetween}
use Rattle.rope_search.specs.declared.encodings.Encoding.TheVariants.{Utf8}
use Rattle.rope_search.proofs.ClampLemmas.{ends-front}
use Rattle.rope_search.proofs.FrontLemmas.{front_to-front}
use Rattle.rope_search.proofs.PartLaws.{byte_len-append, front_within}
use Rattle.rope_search.proofs.PlacedLemmas.{placed-expand, placed-spans}

-- ---- the row of a line

pub row-at : (pattern : List ℕ) (lines : List (List ℕ)) (rows : List (List (ℕ × ℕ))) (k : ℕ) → AreRows pattern lines rows → k < length rows
    → IsRow pattern (slice_index_or lines k []) (slice_index_or rows k [])
row-at p [] [] k are low = absurd (omega (arith, low))
row-at p [] (r ∷ rows) k are low = absurd are
row-at p (l ∷ lines) [] k are low = absurd are
row-at p (l ∷ lines) (r ∷ rows) zero are low = are.0
row-at p (l ∷ lines) (r ∷ rows) (suc k) are low = row-at p lines rows k are.1 (omega (arith, low))

-- ---- the groups of a match in a row

-- they begin with its columns
pub record Picked (told : Option Groups) (first : ℕ × ℕ) : Type 0 where
  pub groups : Groups
  pub is : told ≡ Some groups
  pub others : Groups
  pub some : groups ≡ Some first ∷ others

pick : {A : Type 0} (content : List ℕ) (groups : A → Groups) (span : A → ℕ × ℕ) (rest : A → Groups) → ((a : A) → groups a ≡ Some (span a) ∷ rest a)
    → (ms : List A) (number : ℕ) (first : ℕ × ℕ) → slice_get (map (columns content) (map span ms)) number ≡ Some first
    → Picked (option_map (in_columns content) (slice_get (map groups ms) number)) first
pick content groups span rest starts [] number first is = absurd (cc)
pick content groups span rest starts (m ∷ ms) zero first is = record {
  groups = in_columns content (groups m);
  is = refl;
  others = in_columns content (rest m);
  some = ap (in_columns content) (starts m) ∙ ap (λ o. o ∷ in_columns content (rest m)) is;
}
pick content groups span rest starts (m ∷ ms) (suc n) first is = pick content groups span rest starts ms n first is

pick-none : {A : Type 0} (content : List ℕ) (groups : A → Groups) (span : A → ℕ × ℕ) (ms : List A) (number : ℕ)
    → slice_get (map (columns content) (map span ms)) number ≡ None → None ≡ option_map (in_columns content) (slice_get (map groups ms) number)
pick-none content groups span [] number is = refl
pick-none content groups span (m ∷ ms) zero is = absurd (cc)
pick-none content groups span (m ∷ ms) (suc n) is = pick-none content groups span ms n is

pick-some : {A : Type 0} (content : List ℕ) (groups : A → Groups) (span : A → ℕ × ℕ) (rest : A → Groups) → ((a : A) → groups a ≡ Some (span a) ∷ rest a)
    → (ms : List A) (number : ℕ) (told : Groups) → Some told ≡ option_map (in_columns content) (slice_get (map groups ms) number)
    → (first : ℕ × ℕ) × (others : Groups) × (told ≡ Some first ∷ others)
pick-some content groups span rest starts [] number told is = absurd (cc)
pick-some content groups span rest starts (m ∷ ms) zero told is =
    let same : told ≡ in_columns content (groups m) = cc in
    (columns content (span m), in_columns content (rest m), same ∙ ap (in_columns content) (starts m))
pick-some content groups span rest starts (m ∷ ms) (suc n) told is = pick-some content groups span rest starts ms n told is

module _ (pattern own : List ℕ) (row : List (ℕ × ℕ)) (is : IsRow pattern own row) (number : ℕ) where
  shown : slice_get row number ≡ slice_get (map (columns (bytes_of own)) (map span_of is.are.matches)) number
  shown = ap (λ l. slice_get l number) (is.shown ∙ ap (map (columns (bytes_of own))) is.are.spans_are)

  pub record IsTold (first : ℕ × ℕ) : Type 0 where
    pub groups : Groups
    pub tells : TellsGroups pattern own number (Some groups)
    pub others : Groups
    pub some : groups ≡ Some first ∷ others

  pub told-of : (first : ℕ × ℕ) → slice_get row number ≡ Some first → IsTold first
  told-of first listed =
      let p = pick (bytes_of own) groups_of span_of (λ m. map (group_of m) (range_with_len 1 9)) (λ m. refl) is.are.matches number first (sym shown ∙ listed) in
      record {
        groups = p.groups;
        tells = record {
          all = map groups_of is.are.matches;
          are = record { matches = is.are.matches; are = is.are.are; groups_are = refl };
          told_is = sym p.is;
        };
        others = p.others;
        some = p.some;
      }

  pub none-told : slice_get row number ≡ None → TellsGroups pattern own number None
  none-told none = record {
    all = map groups_of is.are.matches;
    are = record { matches = is.are.matches; are = is.are.are; groups_are = refl };
    told_is = pick-none (bytes_of own) groups_of span_of is.are.matches number (sym shown ∙ none);
  }

  -- the groups of a listed match, from either source
  pub told-first : GroupsAreOfRows → (first : ℕ × ℕ) (groups : Groups) → slice_get row number ≡ Some first → TellsGroups pattern own number (Some groups) → whole groups ≡ first
  told-first law first groups listed tells =
      let same : Some (whole groups) ≡ Some first = law pattern own row number (Some groups) is tells ∙ listed in cc

  pub not-none : GroupsAreOfRows → (first : ℕ × ℕ) → slice_get row number ≡ Some first → TellsGroups pattern own number None → ⊥
  not-none law first listed tells =
      let same : None ≡ Some first = law pattern own row number None is tells ∙ listed in absurd (cc)

-- ---- a match in a report

-- it is in one of the lines
listed-inside : (rows : List (List (ℕ × ℕ))) (line number : ℕ) (first : ℕ × ℕ) → slice_get (slice_index_or rows line []) number ≡ Some first → line < length rows
listed-inside [] line number first listed = absurd (cc)
listed-inside (r ∷ rows) zero number first listed = omega arith
listed-inside (r ∷ rows) (suc line) number first listed = let low = listed-inside rows line number first listed in omega (arith, low)

module _ (count : HasARowALine) (text pattern : List ℕ) (rows : List (List (ℕ × ℕ))) (report : IsReport text pattern rows) (line number : ℕ) where
  pub in-lines : (first : ℕ × ℕ) → slice_get (slice_index_or rows line []) number ≡ Some first → line < line_count text
  in-lines first listed = omega (arith, listed-inside rows line number first listed, count text pattern rows report)

  pub row-of : line < length rows → IsRow pattern (line_text text line) (slice_index_or rows line [])
  row-of inside = row-at pattern (line_texts text) rows line report inside

  pub of-listed : (first : ℕ × ℕ) → slice_get (slice_index_or rows line []) number ≡ Some first → IsRow pattern (line_text text line) (slice_index_or rows line [])
  of-listed first listed = row-of (listed-inside rows line number first listed)

  -- the report lists none, or one
  pub none-in : slice_get (slice_index_or rows line []) number ≡ None → (line_count text ≤ line) ⊎ TellsGroupsIn text pattern line number None
  none-in none = elim (cases_lt line (length rows)) [
    | inl inside ↦ inr (record {
      inside = omega (arith, inside, count text pattern rows report);
      tells = none-told pattern (line_text text line) (slice_index_or rows line []) (row-of inside) number none;
    })
    | inr past ↦ inl (omega (arith, past, count text pattern rows report))
  ]

  pub not-none-in : GroupsAreOfRows → (first : ℕ × ℕ) → slice_get (slice_index_or rows line []) number ≡ Some first
      → (line_count text ≤ line) ⊎ TellsGroupsIn text pattern line number None → ⊥
  not-none-in law first listed (inl past) = omega (arith, past, in-lines first listed)
  not-none-in law first listed (inr none) =
      not-none pattern (line_text text line) (slice_index_or rows line []) (of-listed first listed) number law first listed none.tells

  pub first-in : GroupsAreOfRows → (first : ℕ × ℕ) (groups : Groups) → slice_get (slice_index_or rows line []) number ≡ Some first
      → TellsGroupsIn text pattern line number (Some groups) → whole groups ≡ first
  first-in law first groups listed tells =
      told-first pattern (line_text text line) (slice_index_or rows line []) (of-listed first listed) number law first groups listed tells.tells

-- groups that are found begin with the whole match
pub told-some : (pattern own : List ℕ) (number : ℕ) (groups : Groups) → TellsGroups pattern own number (Some groups)
    → (first : ℕ × ℕ) × (others : Groups) × (groups ≡ Some first ∷ others)
told-some pattern own number groups tells =
    pick-some (bytes_of own) groups_of span_of (λ m. map (group_of m) (range_with_len 1 9)) (λ m. refl) tells.are.matches number groups
    (tells.told_is ∙ ap (λ all. option_map (in_columns (bytes_of own)) (slice_get all number)) tells.are.groups_are)

-- a template that names no other group needs only the whole match
pub alike-alone : (own : List ℕ) (groups groups' : Groups) (first : ℕ × ℕ) (others others' : Groups) (template : List ℕ) → names_explicit_groups template ≡ false
    → groups ≡ Some first ∷ others → groups' ≡ Some first ∷ others' → expansion own groups template ≡ expansion own groups' template
alike-alone own groups groups' first others others' template none some some' =
    let content = bytes_of own in
    let a : whole (in_bytes own groups) ≡ columns_as Utf8 own first = ap (λ g. whole (in_bytes own g)) some in
    let b : whole (in_bytes own groups') ≡ columns_as Utf8 own first = ap (λ g. whole (in_bytes own g)) some' in
    sym (expand-alone content (in_bytes own groups) template none) ∙ ap (λ w. expand content (alone w) template) (a ∙ sym b)
    ∙ expand-alone content (in_bytes own groups') template none

-- ---- sufficient groups

-- those that are found
pub serve-own : (text pattern : List ℕ) (line number : ℕ) (template : List ℕ) (groups : Groups) → TellsGroupsIn text pattern line number (Some groups)
    → ServeFor text pattern line number template groups
serve-own text pattern line number template groups found =
    let s = told-some pattern (line_text text line) number groups found.tells in
    record {
      own = groups;
      found = found;
      alike = refl;
      same = refl;
      others = s.1;
      some = s.2 ∙ ap (λ v. Some v ∷ s.1) (sym (ap whole s.2));
    }

-- only the whole match, if the template names no other
pub serve-alone : HasARowALine → (text pattern : List ℕ) (rows : List (List (ℕ × ℕ))) → IsReport text pattern rows → (line number : ℕ) (template : List ℕ) (first : ℕ × ℕ) (others : Groups)
    → slice_get (slice_index_or rows line []) number ≡ Some first → names_explicit_groups template ≡ false → ServeFor text pattern line number template (Some first ∷ others)
serve-alone count text pattern rows report line number template first others listed none =
    let own = line_text text line in
    let is = of-listed count text pattern rows report line number first listed in
    let t = told-of pattern own (slice_index_or rows line []) is number first listed in
    record {
      own = t.groups;
      found = record { inside = in-lines count text pattern rows report line number first listed; tells = t.tells };
      alike = alike-alone own (Some first ∷ others) t.groups first others t.others template none refl t.some;
      same = sym (ap whole t.some);
      others = others;
      some = refl;
    }

-- ---- the text in place of the match

module _ (text template : List ℕ) (scalars : IsText text) (groups : Groups) (new : List ℕ) (spelled : IsText new) (span : IsSpanIn (bytes_of text) (whole groups))
    (is : new ≡ replaced (bytes_of text) template 0 (groups ∷ [])) where
  abbrev front : List ℕ
  front = between (bytes_of text) 0 (whole groups).0

  abbrev put : List ℕ
  put = expand (bytes_of text) groups template

  abbrev rest : List ℕ
  rest = chars (drop (whole groups).1 (bytes_of text))

  front-len : byte_len front ≡ (whole groups).0
  front-len =
      between-len (bytes_of text) (text, (scalars, refl)) 0 (whole groups).0 (omega arith) (IsCharBoundary-start (bytes_of text) (text, (scalars, refl))) span.starts
      ∙ omega arith

  all-scalars : IsText ((front ++ put) ++ rest)
  all-scalars = sym (ap all_scalars is) ∙ spelled

  pub put-scalars : IsText put
  put-scalars = (scalars-parts front put (scalars-parts (front ++ put) rest all-scalars).0).1

  spell : bytes_of new ≡ (bytes_of front ++ bytes_of put) ++ bytes_of rest
  spell = ap bytes_of is ∙ encodes-append (front ++ put) rest ∙ ap (λ b. b ++ bytes_of rest) (encodes-append front put)

  -- from where the match starts, this number of bytes
  pub put-there : (start end : ℕ) → start ≡ (whole groups).0 → end ≡ (whole groups).0 + byte_len put
      → walk.between start end (bytes_of new) ≡ bytes_of put
  put-there start end starts ends =
      let low : start ≡ length (bytes_of front) = starts ∙ sym front-len in
      let high : end ≡ length (bytes_of front ++ bytes_of put) = omega (arith, ends, front-len, length-append (bytes_of front) (bytes_of put)) in
      ap (λ b. drop start (take end b)) spell ∙ ap (λ n. drop start (take n ((bytes_of front ++ bytes_of put) ++ bytes_of rest))) high
      ∙ ap (drop start) (take-append_seam (bytes_of front ++ bytes_of put) (bytes_of rest))
      ∙ ap (λ n. drop n (bytes_of front ++ bytes_of put)) low ∙ drop-append_seam (bytes_of front) (bytes_of put)

  pub put-range : (start end : ℕ) → start ≡ (whole groups).0 → end ≡ (whole groups).0 + byte_len put → IsByteRangeIn new (record { start = Some start; end = Some end })
  put-range start end starts ends =
      let low : length (bytes_of front) ≡ start = front-len ∙ sym starts in
      let high : length (bytes_of front ++ bytes_of put) ≡ end = omega (arith, ends, front-len, length-append (bytes_of front) (bytes_of put)) in
      let behind : bytes_of new ≡ bytes_of front ++ bytes_of (put ++ rest) =
      spell ∙ append_assoc (bytes_of front) (bytes_of put) (bytes_of rest) ∙ ap (λ b. bytes_of front ++ b) (sym (encodes-append put rest)) in
      let last = (scalars-parts (front ++ put) rest all-scalars).1 in
      let two = (scalars-parts front (put ++ rest) (sym (ap all_scalars (append_assoc front put rest)) ∙ all-scalars)).1 in
      range-in new (start, end) (record {
        ordered = omega (arith, starts, ends);
        starts = subst (IsCharBoundary (bytes_of new)) low (IsCharBoundary-at_seam (bytes_of new) (bytes_of front) (bytes_of (put ++ rest)) behind (put ++ rest, (two, refl)));
        stops = subst (IsCharBoundary (bytes_of new)) high (IsCharBoundary-at_seam (bytes_of new) (bytes_of front ++ bytes_of put) (bytes_of rest) spell (rest, (last, refl)));
      })

-- ---- the edit is refused if the text gets too long

module _ (text : List ℕ) (line : ℕ) (scalars : IsText text) (inside : line < line_count text) where
  abbrev own : List ℕ
  own = line_text text line

  -- the columns of a listed match have a text between them
  pub some-between : (first : ℕ × ℕ) → StandsAtBoundaries text line first
      → HasNoneBetween text (record { line = line; column = first.0 }) (record { line = line; column = first.1 }) → ⊥
  some-between first at none =
      let ordered = at.ordered in
      let f = split_at text at.start scalars at.starts.boundary in
      let t = split_at text at.end scalars at.ends.boundary in
      let mid = front_within f.front f.back t.front t.back (sym f.parts ∙ t.parts) (omega (arith, ordered, f.place_is, t.place_is)) in
      none f.front mid.0 t.back (record {
        scalars = scalars;
        parts = t.parts ∙ ap (λ l. l ++ t.back) mid.1;
        starts = subst (IsAt text (line, first.0)) f.place_is at.starts;
        ends = subst (IsAt text (line, first.1)) (t.place_is ∙ ap byte_len mid.1) at.ends;
      })

  -- a listed match is between the offsets of its columns
  pub too-long : (limit : ℕ) (groups : Groups) (first : ℕ × ℕ) (others : Groups) (template inserted : List ℕ) → StandsAtBoundaries text line first
      → groups ≡ Some first ∷ others → inserted ≡ expansion own groups template
      → limit < byte_len (replaced (bytes_of text) template 0 (map (option_map (placed text line)) groups ∷ []))
      → GetsTooLong limit text (record { line = line; column = first.0 }) (record { line = line; column = first.1 }) (byte_len inserted)
  too-long limit groups first others template inserted at some is long =
      let bytes = bytes_of text in
      let utf8 : IsUtf8 bytes = (text, (scalars, refl)) in
      let a = ends-front text line first.0 at.start scalars at.starts in
      let b = ends-front text line first.1 at.end scalars at.ends in
      let a_col : first.0 ≡ units a.front = ap (λ (p : ℕ × ℕ). p.1) at.starts.same ∙ a.units_are in
      let b_col : first.1 ≡ units b.front = ap (λ (p : ℕ × ℕ). p.1) at.ends.same ∙ b.units_are in
      let a_is : front_to first.0 own ≡ a.front = ap (front_to first.0) a.parts ∙ ap (λ n. front_to n (a.front ++ a.back)) a_col ∙ front_to-front a.front a.back in
      let b_is : front_to first.1 own ≡ b.front = ap (front_to first.1) b.parts ∙ ap (λ n. front_to n (b.front ++ b.back)) b_col ∙ front_to-front b.front b.back in
      let span = whole (map (option_map (placed text line)) groups) in
      let span_is : span ≡ placed text line first = ap (λ g. whole (map (option_map (placed text line)) g)) some in
      let starts : span.0 ≡ at.start = ap (λ (p : ℕ × ℕ). p.0) span_is ∙ ap (λ t. line_start text line + byte_len t) a_is ∙ sym a.place_is in
      let last : line_start text line + byte_len (front_to first.1 own) ≡ at.end = ap (λ t. line_start text line + byte_len t) b_is ∙ sym b.place_is in
      let start' : line_start text line + byte_len (front_to first.0 own) ≡ at.start = ap (λ t. line_start text line + byte_len t) a_is ∙ sym a.place_is in
      let ordered = at.ordered in
      let ends : span.1 ≡ at.end = ap (λ (p : ℕ × ℕ). p.1) span_is ∙ omega (arith, last, start', ordered) in
      let f = split_at text at.start scalars at.starts.boundary in
      let t = split_at text at.end scalars at.ends.boundary in
      let mid = front_within f.front f.back t.front t.back (sym f.parts ∙ t.parts) (omega (arith, ordered, f.place_is, t.place_is)) in
      let E = expand bytes (map (option_map (placed text line)) groups) template in
      let E_is : byte_len E ≡ byte_len inserted = ap byte_len (placed-expand text line scalars inside groups template ∙ sym is) in
      let front : byte_len (between bytes 0 span.0) ≡ at.start =
      ap (λ n. byte_len (between bytes 0 n)) starts ∙ between-len bytes utf8 0 at.start (omega arith) (IsCharBoundary-start bytes utf8) at.starts.boundary ∙ omega arith in
      let back : byte_len (chars (drop span.1 bytes)) ≡ byte_len t.back =
      ap (λ n. byte_len (chars (drop n bytes))) ends ∙ ap length (encodes-chars (drop at.end bytes) (IsUtf8-drop bytes at.end utf8 at.ends.boundary))
      ∙ omega (arith, length-drop at.end bytes, ap byte_len t.parts, byte_len-append t.front t.back, t.place_is) in
      record {
        before = f.front;
        part = mid.0;
        behind = t.back;
        between = record {
          scalars = scalars;
          parts = t.parts ∙ ap (λ l. l ++ t.back) mid.1;
          starts = subst (IsAt text (line, first.0)) f.place_is at.starts;
          ends = subst (IsAt text (line, first.1)) (t.place_is ∙ ap byte_len mid.1) at.ends;
        };
        long = omega (
          arith,
          long,
          front,
          back,
          E_is,
          f.place_is,
          byte_len-append (between bytes 0 span.0 ++ E) (chars (drop span.1 bytes)),
          byte_len-append (between bytes 0 span.0) E,
        );
      }

-- ---- where a listed match is

listed-among : (P : ℕ × ℕ → Type 0) (row : List (ℕ × ℕ)) (number : ℕ) (first : ℕ × ℕ) → All P row → slice_get row number ≡ Some first → P first
listed-among P row number first all listed = subst P (there row number first listed) (all number first (inside row number first listed))
  where
    there : (row : List (ℕ × ℕ)) (number : ℕ) (first : ℕ × ℕ) → slice_get row number ≡ Some first → slice_index_or row number first ≡ first
    there [] number first listed = absurd (cc)
    there (r ∷ row) zero first listed = cc
    there (r ∷ row) (suc n) first listed = there row n first listed

    inside : (row : List (ℕ × ℕ)) (number : ℕ) (first : ℕ × ℕ) → slice_get row number ≡ Some first → number < length row
    inside [] number first listed = absurd (cc)
    inside (r ∷ row) zero first listed = omega arith
    inside (r ∷ row) (suc n) first listed = let low = inside row n first listed in omega (arith, low)

pub stands-at : (text pattern : List ℕ) (rows : List (List (ℕ × ℕ))) (line number : ℕ) (first : ℕ × ℕ) → IsText text → IsReport text pattern rows → MatchesStandAtBoundaries
    → slice_get (slice_index_or rows line []) number ≡ Some first → StandsAtBoundaries text line first
stands-at text pattern rows line number first scalars report law listed =
    listed-among (StandsAtBoundaries text line) (slice_index_or rows line []) number first (law text pattern rows line scalars report) listed

-- the whole match has a span
pub span-first : (content : List ℕ) (groups : Groups) → HasSpansIn content groups → (first : ℕ × ℕ) × (others : Groups) × (groups ≡ Some first ∷ others) → IsSpanIn content (whole groups)
span-first content groups spans some =
    let all = subst (HasSpansIn content) some.2 spans in
    subst (IsSpanIn content) (sym (ap whole some.2)) (all 0 None (omega arith))

-- no match is missing, so the only fault is out of memory
pub memory-alone : {T : Type 0} (r : Result T Fault) → IfErr r (λ fault. (fault ≡ Range) ⊎ (fault ≡ Memory)) → (r ≡ Err Range → ⊥) → IfErr r (λ fault. fault ≡ Memory)
memory-alone (Ok t) fault none = tt
memory-alone (Err f) (inl range) none = absurd (none (ap Err range))
memory-alone (Err f) (inr memory) none = memory

-- ---- the expansion of a template is a text

group-scalars : (content : List ℕ) (groups : Groups) (number : ℕ) → IsUtf8 content → HasSpansIn content groups → IsText (group_text content groups number)
group-scalars content groups number utf8 spans = elim (cases_lt number (length groups)) [
  | inl inside ↦ of-span (slice_index_or groups number None) (spans number None inside)
  | inr past ↦ subst (λ group. IsText (text_of_span content group)) (sym (get_or_past groups number None (omega (arith, past)))) refl
]
  where
    of-span : (group : Option (ℕ × ℕ)) → IfSome group (IsSpanIn content) → IsText (text_of_span content group)
    of-span None is = refl
    of-span (Some span) is =
        scalars-chars (take (span.1 - span.0) (drop span.0 content)) (IsUtf8-between content span.0 span.1 utf8 is.ordered is.starts is.stops)

either-scalars : (test : Bool) (one other : List ℕ) → IsText one → IsText other → IsText (if test then one else other)
either-scalars true one other is is' = is
either-scalars false one other is is' = is'

pub expand-scalars : (content : List ℕ) (groups : Groups) (template : List ℕ) → IsUtf8 content → HasSpansIn content groups → IsText template → IsText (expand content groups template)
expand-scalars content groups [] utf8 spans is = refl
expand-scalars content groups (c ∷ []) utf8 spans is = is
expand-scalars content groups (c ∷ d ∷ rest) utf8 spans is =
    let parts = and_parts _ _ is in
    let further = and_parts _ _ parts.1 in
    let later = expand-scalars content groups rest utf8 spans further.1 in
    let itself : IsText (c ∷ expand content groups (d ∷ rest)) = and_from _ _ parts.0 (expand-scalars content groups (d ∷ rest) utf8 spans parts.1) in
    let number = d - 48 in
    let grouped = scalars-joined (group_text content groups number) (expand content groups rest) (group-scalars content groups number utf8 spans) later in
    either-scalars ((c == 36) && (d == 36)) (36 ∷ expand content groups rest)
    (if (c == 36) && is_digit d then group_text content groups number ++ expand content groups rest else c ∷ expand content groups (d ∷ rest))
    later
    (either-scalars ((c == 36) && is_digit d) (group_text content groups number ++ expand content groups rest) (c ∷ expand content groups (d ∷ rest)) grouped itself)
