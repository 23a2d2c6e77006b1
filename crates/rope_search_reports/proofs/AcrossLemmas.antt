-- The offset of a position, from the code units and the breaks before it in the text.
use Rattle.std.proofs.Common.{◌≡◌, ℕ, nat_le, ◌==◌, not, ◌+◌, ◌-◌, ◌<◌, ◌≤◌, ◌⊎◌, inl, inr, true, cond, ◌&&◌, List, [], ◌∷◌, ◌++◌, length, take, drop, get_or, refl, sym, ap, subst, ◌∙◌, arith, append-nil, append_assoc, length-append, chars, IsUtf8}
use Rattle.std.specs.Str.{all_scalars, IsCharBoundary, NonePass}
use Rattle.std.proofs.Math.Seq.{take-append_seam}
use Rattle.std.proofs.lemmas.Bool.{cases_Bool, cases_lt, cond-true, cond-false, true≢false}
use Rattle.std.proofs.lemmas.List.Sums.{sum_by-append}
use Rattle.std.proofs.lemmas.Str.{chars-encodes, encodes-append, encodes-chars, scalars-chars}
use Rattle.str_indices.specs.FirstBreak.{IsBreak}
use Rattle.str_indices.specs.Text.{breaks, break_ends, byte_len, char_ends, cuts_cr_lf, ends_up_to, ends_with_cr, starts_with_lf, unit_ends, units, units_of, NoCrLfBetween}
use Rattle.str_indices.proofs.TextLaws.{breaks_of_joined_texts-lines_crlf, conversion_there_and_back-lines, counts_are_at_most_bytes-lines, ends_of_a_part-lines}
use Rattle.ropey.specs.Counts.{Units, Counts, StandsAt}
use Rattle.ropey.specs.Chunks.{IsCutting, ShowsChunk, is_break, text_of}
use Rattle.rope_search_reports.specs.declared.positions.Place.{Place}
use Rattle.rope_search_reports.specs.Text.{bytes_of, line_count}
use Rattle.rope_search_reports.specs.Position.{line_start, line_text, IsAt, IsPlaceOf, LiesInPlace}
use Rattle.rope_search_reports.specs.Drafts.{HasColumn, HasNoColumn}
use Rattle.rope_search_reports.proofs.ColumnPlaces.{in-line}
use Rattle.rope_search_reports.proofs.LineLemmas.{byte_len-append, line-last, lines-counted, lines-in-place}
use Rattle.rope_search_reports.proofs.PlaceLemmas.{cut_off, front_of, front_within, scalars-parts}
use Rattle.rope_search_reports.proofs.SpotsInLines.{few-chars, in_own}
use Rattle.rope_search_reports.proofs.StartLemmas.{none-plain}
use Rattle.rope_search_reports.proofs.TellerLemmas.{IsShown, is-shown, none-yet}
use Rattle.rope_search_reports.proofs.TextPlaces.{places}
use Rattle.rope_search_reports.proofs.WalkLemmas.{no-lf}

-- ---- fronts of a text, by their code units

some-unit : (c : ℕ) → 1 ≤ units_of c
some-unit c = elim (cases_Bool (nat_le 0x1_0000 c)) [
  | inl pair ↦ let two : units_of c ≡ 2 = cond-true _ _ _ pair in omega (arith, two)
  | inr none ↦ let one : units_of c ≡ 1 = cond-false _ _ _ none in omega (arith, one)
]

units-one : (c : ℕ) (cs : List ℕ) → units (c ∷ cs) ≡ units_of c + units cs
units-one c cs =
    let all : units (c ∷ cs) ≡ units (c ∷ []) + units cs = sum_by-append units_of (c ∷ []) cs in
    let one : units (c ∷ []) ≡ units_of c = let e : 0 + units_of c ≡ units_of c = omega arith in e in
    omega (arith, all, one)

-- of two prefixes the one with fewer code units is a prefix of the other
unit-within : (l r f b : List ℕ) → l ++ r ≡ f ++ b → units l ≤ units f → (mid : List ℕ) × (f ≡ l ++ mid)
unit-within [] r f b e low = (f, refl)
unit-within (c ∷ cs) r [] b e low = absurd (omega (arith, low, units-one c cs, some-unit c))
unit-within (c ∷ cs) r (d ∷ ds) b e low =
    let same : c ≡ d = ap (λ t. get_or t 0 0) e in
    let rest : cs ++ r ≡ ds ++ b = ap (drop 1) e in
    let later = unit-within cs r ds b rest (omega (arith, low, units-one c cs, units-one d ds, ap units_of same)) in
    (later.0, ap (λ t. d ∷ t) later.1 ∙ ap (λ k. k ∷ (cs ++ later.0)) (sym same))

no-units : (t : List ℕ) → units t ≡ 0 → t ≡ []
no-units [] none = refl
no-units (c ∷ cs) none = absurd (omega (arith, none, units-one c cs, some-unit c))

-- with equally many they are the same
unit-one : (f b g d : List ℕ) → f ++ b ≡ g ++ d → units f ≡ units g → g ≡ f
unit-one f b g d e same =
    let more = unit-within f b g d e (omega (arith, same)) in
    more.1 ∙ ap (λ t. f ++ t) (no-units more.0 (omega (arith, same, ap units more.1, sum_by-append units_of f more.0))) ∙ append-nil f

-- ---- breaks

plain-none : (t : List ℕ) → NonePass is_break t → breaks is_break t ≡ 0
plain-none t plain = omega (arith, lines-counted t, ap length (line-last t plain))

plain-parts : (s t : List ℕ) → NonePass is_break (s ++ t) → NonePass is_break s × NonePass is_break t
plain-parts [] t plain = (tt, plain)
plain-parts (c ∷ cs) t plain = let later = plain-parts cs t plain.1 in ((plain.0, later.0), later.1)

-- the start of a break is one of its characters
begins : (x back one rest : List ℕ) → x ++ back ≡ one ++ rest → 0 < byte_len x → NonePass is_break x → IsBreak is_break one rest → ⊥
begins [] back one rest e some plain is = omega (arith, some)
begins (c ∷ cs) back [] rest e some plain is = is
begins (c ∷ cs) back (d ∷ []) rest e some plain is =
    let same : c ≡ d = ap (λ t. get_or t 0 0) e in
    true≢false (sym is ∙ ap (λ b. b && not ((d == 13) && starts_with_lf rest)) (ap is_break (sym same) ∙ plain.0))
begins (c ∷ cs) back (d ∷ f ∷ []) rest e some plain is =
    let same : c ≡ d = ap (λ t. get_or t 0 0) e in
    true≢false (sym is.2 ∙ ap is_break (sym is.0 ∙ sym same) ∙ plain.0)
begins (c ∷ cs) back (d ∷ f ∷ g ∷ gs) rest e some plain is = is

-- what follows the start of a line, up to its break, is in its text
within-own : (text : List ℕ) (line : ℕ) (mid back : List ℕ) → (h : LiesInPlace text line) → mid ++ back ≡ line_text text line ++ h.behind → NonePass is_break mid → byte_len mid ≤ byte_len (line_text text line)
within-own text line mid back h e plain =
    let own = line_text text line in
    elim (cases_lt (byte_len own) (byte_len mid)) [
      | inl more ↦
          let x = front_within own h.behind mid back (sym e) (omega (arith, more)) in
          let rest : h.behind ≡ x.0 ++ back = cut_off own h.behind (x.0 ++ back) (sym e ∙ ap (λ m. m ++ back) x.1 ∙ append_assoc own x.0 back) in
          let some : 0 < byte_len x.0 = omega (arith, more, ap byte_len x.1, byte_len-append own x.0) in
          let left = (plain-parts own x.0 (subst (NonePass is_break) x.1 plain)).1 in
          elim h.ended [
            | inl is_last ↦ absurd (omega (arith, some, ap byte_len (sym rest ∙ is_last.nothing), byte_len-append x.0 back))
            | inr broken ↦ absurd (begins x.0 back broken.one broken.rest (sym rest ∙ broken.splits) some left broken.is)
          ]
      | inr low ↦ low
    ]

-- no CR LF is split before a part of what follows
uncut-front : (before mid back : List ℕ) → NoCrLfBetween before (mid ++ back) → NoCrLfBetween before mid
uncut-front before [] back whole = no-lf (ends_with_cr before)
uncut-front before (c ∷ cs) back whole = whole

joined : (s t : List ℕ) → NoCrLfBetween s t → breaks is_break (s ++ t) ≡ breaks is_break s + breaks is_break t
joined s t whole =
    let none : cond {A = ℕ} (cuts_cr_lf s t) 1 0 ≡ 0 = ap (λ b. cond {A = ℕ} b 1 0) whole in
    omega (arith, none, breaks_of_joined_texts-lines_crlf s t)

-- the number of breaks before a line
breaks-before : (text : List ℕ) (line : ℕ) → line < line_count text → (h : LiesInPlace text line) → breaks is_break h.before ≡ line
breaks-before text line inside h =
    let own = line_text text line ++ h.behind in
    let place = byte_len h.before in
    let there = conversion_there_and_back-lines is_break text line in
    let at : ends_up_to (line_start text line) (break_ends is_break text) ≡ ends_up_to place (break_ends is_break (h.before ++ own ++ [])) =
    ap (λ n. ends_up_to n (break_ends is_break text)) h.starts ∙ ap (λ t. ends_up_to place (break_ends is_break t)) (h.parts ∙ sym (append-nil (h.before ++ own))) in
    let part = ends_of_a_part-lines is_break h.before own [] place h.whole (no-lf (ends_with_cr (h.before ++ own))) (omega arith) (omega (arith, byte_len-append h.before own)) in
    let none : ends_up_to (place - place) (break_ends is_break own) ≡ 0 =
    ap (λ n. ends_up_to n (break_ends is_break own)) (let e : place - place ≡ 0 = omega arith in e) ∙ none-yet (ends_of_a_part-lines is_break) own in
    omega (arith, inside, there, at, part, none)

-- ---- an offset of the text after this number of code units and of breaks

pub record StandsBehind (text : List ℕ) (unit line : ℕ) : Type 0 where
  pub front : List ℕ
  pub back : List ℕ
  pub parts : text ≡ front ++ back
  pub units_are : unit ≡ units front
  pub breaks_are : line ≡ breaks is_break front
  pub few : unit ≤ byte_len text

module _ (text : List ℕ) (line column start : ℕ) (scalars : all_scalars text ≡ true) (inside : line < line_count text) (start_is : start ≡ ends_up_to (line_start text line) (unit_ends text)) where
  units-of-start : (h : LiesInPlace text line) → start ≡ units h.before
  units-of-start h =
      let b = front_of places text h.before (line_text text line ++ h.behind) h.parts in
      start_is ∙ ap (λ n. ends_up_to n (unit_ends text)) h.starts ∙ b.units_are

  -- no more than all
  pub few-before : start ≤ byte_len text
  few-before =
      let h = lines-in-place text line inside in
      omega (arith, units-of-start h, places.few_units h.before, ap byte_len h.parts, byte_len-append h.before (line_text text line ++ h.behind))

  -- the position's offset is such a one
  pub behind-at : (place : ℕ) → IsAt text (line, column) place → StandsBehind text (start + column) line
  behind-at place at =
      let h = lines-in-place text line inside in
      let o = in_own places text scalars line column place at in
      let front = h.before ++ o.front in
      let parts : text ≡ front ++ (o.back ++ h.behind) =
      h.parts ∙ ap (λ s. h.before ++ (s ++ h.behind)) o.parts ∙ ap (λ t. h.before ++ t) (append_assoc o.front o.back h.behind) ∙ sym (append_assoc h.before o.front (o.back ++ h.behind)) in
      let plain = (plain-parts o.front o.back (subst (NonePass is_break) o.parts h.plain)).0 in
      let e : line_text text line ++ h.behind ≡ o.front ++ (o.back ++ h.behind) = ap (λ s. s ++ h.behind) o.parts ∙ append_assoc o.front o.back h.behind in
      let whole = uncut-front h.before o.front (o.back ++ h.behind) (subst (NoCrLfBetween h.before) e h.whole) in
      let so_many = o.units_are in
      let are : start + column ≡ units front = omega (arith, units-of-start h, so_many, sum_by-append units_of h.before o.front) in
      record {
        front = front;
        back = o.back ++ h.behind;
        parts = parts;
        units_are = are;
        breaks_are = omega (arith, joined h.before o.front whole, plain-none o.front plain, breaks-before text line inside h);
        few = omega (arith, are, places.few_units front, ap byte_len parts, byte_len-append front (o.back ++ h.behind));
      }

  -- and such a one is the position's
  pub behind-is : (ended : ℕ) (s : StandsBehind text (start + column) ended) (place : Place) → ended ≡ line → place.byte_idx ≡ byte_len s.front → place.char_idx ≡ length s.front → IsPlaceOf text (line, column) place
  behind-is ended s place same byte_is char_is =
      let h = lines-in-place text line inside in
      let own = line_text text line in
      let are = s.units_are in
      let m = unit-within h.before (own ++ h.behind) s.front s.back (sym h.parts ∙ s.parts) (omega (arith, units-of-start h, are)) in
      let mid = m.0 in
      let e : mid ++ s.back ≡ own ++ h.behind =
      cut_off h.before (mid ++ s.back) (own ++ h.behind) (sym (append_assoc h.before mid s.back) ∙ ap (λ f. f ++ s.back) (sym m.1) ∙ sym s.parts ∙ h.parts) in
      let whole = uncut-front h.before mid s.back (subst (NoCrLfBetween h.before) (sym e) h.whole) in
      let so_many = s.breaks_are in
      let plain = none-plain mid (omega (arith, joined h.before mid whole, ap (breaks is_break) m.1, so_many, same, breaks-before text line inside h)) in
      let rest = front_within mid s.back own h.behind e (within-own text line mid s.back h e plain) in
      let columns : column ≡ units mid = omega (arith, units-of-start h, are, ap units m.1, sum_by-append units_of h.before mid) in
      let bytes = byte_is ∙ ap byte_len m.1 in
      let count = char_is ∙ ap length m.1 in
      let b = front_of places text h.before (own ++ h.behind) h.parts in
      let starts = h.starts in
      let first = ap (λ n. ends_up_to n (char_ends text)) starts ∙ b.chars_are in
      (in-line text line column scalars inside mid rest.0 rest.1 columns place (omega (arith, bytes, starts, byte_len-append h.before mid)) (omega (arith, count, first, length-append h.before mid))).is

-- ---- from the chunk in which they end

shown-of-unit : (pieces : List (List ℕ)) (unit : ℕ) (chunk : List ℕ) (start : Counts) → StandsAt pieces Units unit chunk start
    → ShowsChunk pieces units unit chunk start.bytes start.chars start.breaks
shown-of-unit pieces unit chunk start s = record {
  before = s.before;
  after = s.after;
  parts = s.parts;
  some = s.some;
  byte_is = ap (λ (c : Counts). c.bytes) s.start_is;
  char_is = ap (λ (c : Counts). c.chars) s.start_is;
  line_is = ap (λ (c : Counts). c.breaks) s.start_is;
  not_past = s.not_past;
  passed = s.passed;
}

-- the chunk in its text
pub record IsByUnit (text chunk : List ℕ) (unit : ℕ) (start : Counts) : Type 0 where
  pub shown : IsShown text chunk start.bytes start.chars start.breaks
  pub units_are : start.units ≡ units shown.before
  pub low : start.units ≤ unit
  pub passed : (unit < units (shown.before ++ chunk)) ⊎ (shown.after ≡ [])

pub by-unit : (pieces : List (List ℕ)) (chunk : List ℕ) (unit : ℕ) (start : Counts) → IsCutting pieces → StandsAt pieces Units unit chunk start → IsByUnit (text_of pieces) chunk unit start
unfolding shown-of-unit
by-unit pieces chunk unit start cut s =
    let h = is-shown units pieces unit start.bytes start.chars start.breaks chunk cut (shown-of-unit pieces unit chunk start s) in
    let units_are : start.units ≡ units h.0.before = ap (λ (c : Counts). c.units) s.start_is ∙ ap units (sym h.1) in
    let low = s.not_past in
    record {
      shown = h.0;
      units_are = units_are;
      low = omega (arith, low, ap (λ (c : Counts). c.units) s.start_is);
      passed = elim s.passed [
        | inl more ↦ inl (omega (arith, more, ap (λ t. units (t ++ chunk)) h.1))
        | inr none ↦ inr (h.2 ∙ ap text_of none)
      ];
    }

-- an offset in the chunk is such a one of the text
pub record IsTold (text bytes : List ℕ) (unit : ℕ) (start : Counts) (own : Place) : Type 0 where
  pub between : IsCharBoundary bytes own.byte_idx
  pub behind : StandsBehind text unit (start.breaks + breaks is_break (chars (take own.byte_idx bytes)))
  pub byte_is : start.bytes + own.byte_idx ≡ byte_len behind.front
  pub char_is : start.chars + own.char_idx ≡ length behind.front
  pub near : start.bytes + own.byte_idx ≤ byte_len text
  pub few : start.chars + own.char_idx ≤ byte_len text
  pub few_breaks : start.breaks + breaks is_break (chars (take own.byte_idx bytes)) ≤ byte_len text

pub told-by-unit : (text bytes : List ℕ) (unit : ℕ) (start : Counts) (own : Place) → IsUtf8 bytes → IsByUnit text (chars bytes) unit start → HasColumn (chars bytes) (unit - start.units) own → IsTold text bytes unit start own
told-by-unit text bytes unit start own utf8 is has =
    let chunk = chars bytes in
    let h = is.shown in
    let f = has.front in
    let front = h.before ++ f in
    let scalars = scalars-chars bytes utf8 in
    let parts : text ≡ front ++ (has.back ++ h.after) =
    h.parts ∙ ap (λ c. h.before ++ c ++ h.after) has.parts ∙ append_assoc h.before (f ++ has.back) h.after ∙ ap (λ t. h.before ++ t) (append_assoc f has.back h.after)
    ∙ sym (append_assoc h.before f (has.back ++ h.after)) in
    let all : bytes ≡ bytes_of f ++ bytes_of has.back = sym (encodes-chars bytes utf8) ∙ ap bytes_of has.parts ∙ encodes-append f has.back in
    let own_scalars = (scalars-parts f has.back (sym (ap all_scalars has.parts) ∙ scalars)).0 in
    let taken : chars (take own.byte_idx bytes) ≡ f =
    ap (λ n. chars (take n bytes)) has.byte_is ∙ ap (λ bs. chars (take (byte_len f) bs)) all ∙ ap chars (take-append_seam (bytes_of f) (bytes_of has.back)) ∙ chars-encodes f own_scalars in
    let b = front_of places chunk f has.back has.parts in
    let between : IsCharBoundary (bytes_of chunk) (byte_len f) = subst (IsCharBoundary (bytes_of chunk)) b.back_from_chars (places.char_boundaries chunk (length f) scalars) in
    let whole = uncut-front h.before f has.back (subst (NoCrLfBetween h.before) has.parts h.whole) in
    let low = is.low in
    let first = is.units_are in
    let column = has.column_is in
    let units_are : unit ≡ units front = omega (arith, low, first, column, sum_by-append units_of h.before f) in
    let line_is = h.line_is in
    let breaks_are : start.breaks + breaks is_break (chars (take own.byte_idx bytes)) ≡ breaks is_break front = omega (arith, line_is, joined h.before f whole, ap (breaks is_break) taken) in
    let start_is = h.start_is in
    let start_char = h.char_is in
    let own_byte = has.byte_is in
    let own_char = has.char_is in
    let byte_is : start.bytes + own.byte_idx ≡ byte_len front = omega (arith, start_is, own_byte, byte_len-append h.before f) in
    let char_is : start.chars + own.char_idx ≡ length front = omega (arith, start_char, own_char, length-append h.before f) in
    let sizes = ap byte_len parts ∙ byte_len-append front (has.back ++ h.after) in
    record {
      between = subst (λ (n : ℕ). IsCharBoundary bytes n) (sym has.byte_is) (subst (λ (bs : List ℕ). IsCharBoundary bs (byte_len f)) (encodes-chars bytes utf8) between);
      behind = record {
        front = front;
        back = has.back ++ h.after;
        parts = parts;
        units_are = units_are;
        breaks_are = breaks_are;
        few = omega (arith, units_are, places.few_units front, sizes);
      };
      byte_is = byte_is;
      char_is = char_is;
      near = omega (arith, byte_is, sizes);
      few = omega (arith, char_is, few-chars front, sizes);
      few_breaks = omega (arith, breaks_are, counts_are_at_most_bytes-lines is_break front, sizes);
    }

-- the chunk contains the offset of such a one
in-chunk : (text chunk : List ℕ) (unit line : ℕ) (start : Counts) → IsByUnit text chunk unit start → StandsBehind text unit line → (front back : List ℕ) × (chunk ≡ front ++ back) × (unit - start.units ≡ units front)
in-chunk text chunk unit line start is s =
    let h = is.shown in
    let low = is.low in
    let first = is.units_are in
    let are = s.units_are in
    let m = unit-within h.before (chunk ++ h.after) s.front s.back (sym (append_assoc h.before chunk h.after) ∙ sym h.parts ∙ s.parts) (omega (arith, low, first, are)) in
    let mid = m.0 in
    let e : mid ++ s.back ≡ chunk ++ h.after =
    cut_off h.before (mid ++ s.back) (chunk ++ h.after) (sym (append_assoc h.before mid s.back) ∙ ap (λ f. f ++ s.back) (sym m.1) ∙ sym s.parts ∙ h.parts ∙ append_assoc h.before chunk h.after) in
    let so_many : units s.front ≡ units h.before + units mid = ap units m.1 ∙ sum_by-append units_of h.before mid in
    let below : units mid ≤ units chunk = elim is.passed [
      | inl more ↦ omega (arith, more, so_many, are, sum_by-append units_of h.before chunk)
      | inr none ↦ omega (arith, ap units e, sum_by-append units_of mid s.back, sum_by-append units_of chunk h.after, ap units none)
    ] in
    let rest = unit-within mid s.back chunk h.after e below in
    (mid, rest.0, rest.1, omega (arith, first, are, so_many))

pub none-by-unit : (text chunk : List ℕ) (unit line : ℕ) (start : Counts) → IsByUnit text chunk unit start → HasNoColumn chunk (unit - start.units) → StandsBehind text unit line → ⊥
none-by-unit text chunk unit line start is none s =
    let h = in-chunk text chunk unit line start is s in
    none h.0 h.1 h.2 h.3

-- two of them are after equally many breaks
pub one-line : (text : List ℕ) (unit line line' : ℕ) → StandsBehind text unit line → StandsBehind text unit line' → line ≡ line'
one-line text unit line line' s s' =
    s.breaks_are ∙ ap (breaks is_break) (sym (unit-one s.front s.back s'.front s'.back (sym s.parts ∙ s'.parts) (sym s.units_are ∙ s'.units_are))) ∙ sym s'.breaks_are
