-- Character boundaries, at which parts of a text start and end.
use Rattle.std.proofs.Common.{◌≡◌, ℕ, ◌+◌, ◌-◌, ◌^◌, ◌<◌, ◌≤◌, Bool, true, false, cond, ◌&&◌, List, [], ◌∷◌, ◌++◌, length, get_or, take, drop, refl, ap, arith, sym, ◌∙◌, subst, append_assoc, length-append, length-take-le, take-append-drop}
use Rattle.std.specs.Prelude.{encode_utf8_all}
use Rattle.std.specs.List.{concat}
use Rattle.std.specs.Str.{all_scalars, chars, IsUtf8, IsCharBoundary}
use Rattle.std.proofs.lemmas.Bool.{and_parts, and_from}
use Rattle.std.proofs.lemmas.List.{take_at, get_or_append_left, get_or-append_right}
use Rattle.std.proofs.lemmas.Str.{encodes-chars, encodes-append, scalars-chars, IsUtf8-take, IsCharBoundary-at_seam}
use Rattle.str_indices.specs.Text.{byte_len, units, char_ends, unit_ends, end_place, ends_with_cr, cuts_cr_lf, NoCrLfBetween}
use Rattle.str_indices.specs.Laws.{AnyTexts, EndsAddUp, EndsAreBoundaries}
use Rattle.str_indices.proofs.TextLaws.{ends_of_a_part-chars}
use Rattle.ropey_tree.specs.declared.counts.Counts.{Counts}
use Rattle.ropey_tree.specs.declared.counts.By.{By}
use Rattle.ropey_tree.specs.Counts.{counts_of, plus, minus, amount}
use Rattle.ropey_tree.specs.Cutting.{IsCutting}
use Rattle.ropey_walk.specs.Chunks.{line_breaks}
use Rattle.ropey_walk.specs.Clips.{between}
use Rattle.ropey_walk.specs.Conversions.{char_of_byte, unit_of_byte, line_of_byte, byte_of_char}
use Rattle.ropey_walk.specs.Parts.{standing}
use Rattle.ropey_walk.specs.Standing.{IsPlaceIn}
use Rattle.ropey_walk.proofs.BreakLaws.{BreaksOfParts}
use Rattle.ropey_walk.proofs.Cuts.{byte_len-append, first_piece, rest_cut}
use Rattle.ropey_walk.proofs.Placing.{whole_front, whole_chars}
use Rattle.ropey_walk.proofs.Counting.{units-append, amount-plus, front_breaks, take-parts, whole-parts, length-between}
use Rattle.ropey_walk.proofs.CharWalks.{chars_cut}
use Rattle.ropey_walk.proofs.Clipped.{scalars-append}
use Rattle.ropey_walk.proofs.Reading.{place_of_front}
use Rattle.ropey_walk.proofs.Reaching.{amount-below}

-- ---- a text up to a boundary of a chunk
pub record IsFront (text : List ℕ) (start : Counts) (at : ℕ) (front : List ℕ) : Type 0 where
  pub before : List ℕ
  pub after : List ℕ
  pub parts : text ≡ (before ++ front) ++ after
  pub start_is : start ≡ counts_of before
  pub at_is : at ≡ byte_len front
  pub whole : NoCrLfBetween before front
  pub fits : byte_len text < 2 ^ 63

whole_to : (before front back : List ℕ) → NoCrLfBetween before (front ++ back) → NoCrLfBetween before front
whole_to before [] back h = none (ends_with_cr before)
  where
    none : (b : Bool) → (b && false) ≡ false
    none true = refl
    none false = refl
whole_to before (c ∷ cs) back h = h

pub front_at : (text bytes : List ℕ) (start : Counts) (at : ℕ) → IsUtf8 bytes → IsPlaceIn text (chars bytes) start at → IsCharBoundary bytes at → IsFront text start at (chars (take at bytes))
front_at text bytes start at utf8 h boundary =
    let front = chars (take at bytes) in
    let back = chars (drop at bytes) in
    let cut : chars bytes ≡ front ++ back = chars_cut bytes at utf8 boundary in
    record {
      before = h.before;
      after = back ++ h.after;
      parts = h.parts ∙ ap (λ c. h.before ++ c ++ h.after) cut ∙ ap (λ s. s ++ h.after) (sym (append_assoc h.before front back)) ∙ append_assoc (h.before ++ front) back h.after;
      start_is = h.start_is;
      at_is = sym (ap length (encodes-chars (take at bytes) (IsUtf8-take bytes at utf8 boundary)) ∙ length-take-le at bytes boundary.0);
      whole = whole_to h.before front back (ap (cuts_cr_lf h.before) (sym cut) ∙ h.whole_before);
      fits = h.fits;
    }

module _ (text : List ℕ) (start : Counts) (at : ℕ) (front : List ℕ) (h : IsFront text start at front) where
  abbrev upto : List ℕ
  upto = h.before ++ front

  pub place_is : start.bytes + at ≡ byte_len upto
  place_is = omega (arith, ap (λ c. c.bytes) h.start_is, h.at_is, byte_len-append h.before front)

  pub taken : take (length upto) text ≡ upto
  taken = ap (take (length upto)) h.parts ∙ take_at upto h.after (length upto) refl

  pub chars_to : EndsAddUp AnyTexts length char_ends → char_of_byte text (start.bytes + at) ≡ length upto
  chars_to law = ap (char_of_byte text) place_is ∙ ap (λ t. char_of_byte t (byte_len upto)) h.parts ∙ whole_chars law upto h.after

  pub stands : EndsAddUp AnyTexts length char_ends → EndsAddUp AnyTexts units unit_ends → (counts : Counts) → counts.bytes ≡ start.bytes + at → counts.chars ≡ char_of_byte text (start.bytes + at)
      → counts.units ≡ unit_of_byte text (start.bytes + at) → counts.breaks ≡ line_of_byte text (start.bytes + at) → counts ≡ standing text counts.chars
  stands chars_law units_law counts bytes_is chars_is units_is breaks_is =
      let there : take counts.chars text ≡ upto = ap (λ n. take n text) (chars_is ∙ chars_to chars_law) ∙ taken in
      let place : start.bytes + at ≡ byte_len (take counts.chars text) = place_is ∙ ap byte_len (sym there) in
      let b : counts.bytes ≡ byte_len (take counts.chars text) = bytes_is ∙ place in
      let in_front : unit_of_byte text (start.bytes + at) ≡ units upto = ap (unit_of_byte text) place_is ∙ ap (λ t. unit_of_byte t (byte_len upto)) h.parts ∙ whole_front units unit_ends units_law refl upto h.after in
      let u : counts.units ≡ units (take counts.chars text) = units_is ∙ in_front ∙ ap units (sym there) in
      let l : counts.breaks ≡ line_of_byte text (byte_len (take counts.chars text)) = breaks_is ∙ ap (line_of_byte text) place in
      ap (λ (n : ℕ). record { bytes = n; chars = counts.chars; units = counts.units; breaks = counts.breaks }) b
      ∙ ap (λ (n : ℕ). record { bytes = byte_len (take counts.chars text); chars = counts.chars; units = n; breaks = counts.breaks }) u
      ∙ ap (λ (n : ℕ). record { bytes = byte_len (take counts.chars text); chars = counts.chars; units = units (take counts.chars text); breaks = n }) l

  pub sums : BreaksOfParts → plus start (counts_of front) ≡ counts_of upto
  sums law =
      let none : cond {A = ℕ} (cuts_cr_lf h.before front) 1 0 ≡ 0 = ap (λ b. cond {A = ℕ} b 1 0) h.whole in
      let b : byte_len h.before + byte_len front ≡ byte_len upto = sym (byte_len-append h.before front) in
      let n : length h.before + length front ≡ length upto = sym (length-append h.before front) in
      let u : units h.before + units front ≡ units upto = sym (units-append h.before front) in
      let l : line_breaks h.before + line_breaks front ≡ line_breaks upto = omega (arith, law.joined h.before front, none) in
      let both : plus (counts_of h.before) (counts_of front) ≡ counts_of upto = cc in
      ap (λ c. plus c (counts_of front)) h.start_is ∙ both

  pub sums_fit : BreaksOfParts → (by : By) → amount by start + amount by (counts_of front) < 2 ^ 64
  sums_fit law by =
      omega (
        arith,
        amount-plus law by start (counts_of front),
        ap (amount by) (sums law),
        amount-below law by upto,
        ap byte_len h.parts,
        byte_len-append upto h.after,
        h.fits,
      )

-- ---- where a chunk may be cut
pub end_is_boundary : (ends : List ℕ → List ℕ) → EndsAreBoundaries ends → (bytes : List ℕ) → IsUtf8 bytes → (k : ℕ) → IsCharBoundary bytes (end_place (ends (chars bytes)) k (length bytes))
end_is_boundary ends boundaries bytes utf8 k =
    let chunk = chars bytes in
    let len : length bytes ≡ byte_len chunk = sym (ap length (encodes-chars bytes utf8)) in
    subst (λ (n : ℕ). IsCharBoundary bytes (end_place (ends chunk) k n)) (sym len)
    (subst (λ (bs : List ℕ). IsCharBoundary bs (end_place (ends chunk) k (byte_len chunk))) (encodes-chars bytes utf8) (boundaries chunk k (scalars-chars bytes utf8)))

-- a boundary of the text is one of the chunk
pub boundary_in : (text bytes : List ℕ) (start : Counts) (at place : ℕ) → IsUtf8 bytes → IsPlaceIn text (chars bytes) start at → start.bytes + at ≡ place → IsCharBoundary (encode_utf8_all text) place → IsCharBoundary bytes at
boundary_in text bytes start at place utf8 h e boundary =
    let before = encode_utf8_all h.before in
    let after = encode_utf8_all h.after in
    let len : length bytes ≡ byte_len (chars bytes) = sym (ap length (encodes-chars bytes utf8)) in
    let starts : start.bytes ≡ length before = ap (λ c. c.bytes) h.start_is in
    let all : encode_utf8_all text ≡ (before ++ bytes) ++ after =
    ap encode_utf8_all h.parts ∙ encodes-append (h.before ++ chars bytes) h.after ∙ ap (λ bs. bs ++ after) (encodes-append h.before (chars bytes) ∙ ap (λ bs. before ++ bs) (encodes-chars bytes utf8)) in
    let low : length before ≤ place = omega (arith, starts, e) in
    let same : place - length before ≡ at = omega (arith, starts, e) in
    let sizes : length (encode_utf8_all text) ≡ length before + length bytes + length after = ap length all ∙ length-append (before ++ bytes) after ∙ ap (λ n. n + length after) (length-append before bytes) in (
      omega (arith, h.within, len),
      λ inside high.
          let front : place < length (before ++ bytes) = omega (arith, starts, e, inside, length-append before bytes) in
          let there : get_or (encode_utf8_all text) place 0 ≡ get_or bytes at 0 =
          ap (λ bs. get_or bs place 0) all ∙ get_or_append_left (before ++ bytes) after 0 place front ∙ get_or-append_right before bytes (length before) place 0 refl low ∙ ap (λ n. get_or bytes n 0) same in
          let leads : 192 ≤ get_or (encode_utf8_all text) place 0 = boundary.1 (omega (arith, sizes, starts, e, inside)) (omega (arith, high, there)) in
          omega (arith, leads, there),
    )

-- the texts of chunks are scalar values
scalars-both : (s t : List ℕ) → all_scalars s ≡ true → all_scalars t ≡ true → all_scalars (s ++ t) ≡ true
scalars-both [] t h k = k
scalars-both (c ∷ cs) t h k =
    let both = and_parts _ _ h in
    and_from _ _ both.0 (scalars-both cs t both.1 k)

pub cutting-scalars : (ps : List (List ℕ)) → IsCutting ps → all_scalars (concat ps) ≡ true
cutting-scalars [] h = refl
cutting-scalars (p ∷ ps) h = scalars-both p (concat ps) (first_piece p ps h).scalars (cutting-scalars ps (rest_cut p ps h))

-- and a boundary of the chunk is one of the text
pub boundary_out : (text bytes : List ℕ) (start : Counts) (at place : ℕ) → IsUtf8 bytes → IsPlaceIn text (chars bytes) start at → start.bytes + at ≡ place → all_scalars text ≡ true → IsCharBoundary bytes at
    → IsCharBoundary (encode_utf8_all text) place
boundary_out text bytes start at place utf8 h e scalars boundary =
    let front = chars (take at bytes) in
    let f = front_at text bytes start at utf8 h boundary in
    let upto = f.before ++ front in
    let rest = (scalars-append upto f.after (ap all_scalars (sym f.parts) ∙ scalars)).1 in
    let spelled : encode_utf8_all text ≡ encode_utf8_all upto ++ encode_utf8_all f.after = ap encode_utf8_all f.parts ∙ encodes-append upto f.after in
    let there : byte_len upto ≡ place = sym (place_is text start at front f) ∙ e in
    subst (IsCharBoundary (encode_utf8_all text)) there (IsCharBoundary-at_seam (encode_utf8_all text) (encode_utf8_all upto) (encode_utf8_all f.after) spelled (f.after, (rest, refl)))

-- a character's index is recovered from its byte index
pub char_there_and_back : (text : List ℕ) (k : ℕ) → k ≤ length text → char_of_byte text (byte_of_char text k) ≡ k
char_there_and_back text k inside =
    let front = take k text in
    let back = drop k text in
    let whole : text ≡ front ++ back = sym (take-append-drop k text) in
    let size : length front ≡ k = length-take-le k text inside in
    let place : byte_of_char text k ≡ byte_len front = ap (λ t. byte_of_char t k) whole ∙ ap (byte_of_char (front ++ back)) (sym size) ∙ place_of_front front back in
    ap (char_of_byte text) place ∙ ap (λ t. char_of_byte t (byte_len front)) whole ∙ whole_chars ends_of_a_part-chars front back ∙ size

-- the counts of the text up to an index
pub record IsCounted (text : List ℕ) (place : ℕ) (sum : Counts) : Type 0 where
  pub chars_is : sum.chars ≡ char_of_byte text place
  pub within : sum.chars ≤ length text
  pub counted : sum ≡ counts_of (take sum.chars text)

pub counted_front : BreaksOfParts → EndsAddUp AnyTexts length char_ends → (text : List ℕ) (start : Counts) (at : ℕ) (front : List ℕ) → IsFront text start at front → (part : Counts) → part ≡ counts_of front
    → (sum : Counts) → sum ≡ plus start part → IsCounted text (start.bytes + at) sum
counted_front law chars_law text start at front h part part_is sum sum_is =
    let upto = h.before ++ front in
    let all : sum ≡ counts_of upto = sum_is ∙ ap (plus start) part_is ∙ sums text start at front h law in
    let size : sum.chars ≡ length upto = ap (λ c. c.chars) all in
    record {
      chars_is = size ∙ sym (chars_to text start at front h chars_law);
      within = omega (arith, size, ap length h.parts, length-append upto h.after);
      counted = all ∙ ap counts_of (sym (ap (λ n. take n text) size ∙ taken text start at front h));
    }

-- ---- the counts of a part
starts_same : (f p r : List ℕ) → 1 ≤ length p → cuts_cr_lf f (p ++ r) ≡ cuts_cr_lf f p
starts_same f [] r some = absurd (omega (arith, some))
starts_same f (c ∷ cs) r some = refl

module _ (law : BreaksOfParts) where
  -- those of the text up to the part's end by itself, minus those before the part
  pub part_counts : (t : List ℕ) (a e : ℕ) → a < e → e ≤ length t → minus (counts_of (take e t)) (standing t a) ≡ counts_of (between a e t)
  part_counts t a e some inside =
      let f = take a t in
      let p = between a e t in
      let r = drop e t in
      let order : a ≤ e = omega (arith, some) in
      let front : take e t ≡ f ++ p = take-parts a e t order in
      let whole : t ≡ f ++ (p ++ r) = whole-parts a e t order in
      let long : a + length p ≡ e = length-between a e t order inside in
      let size : length f ≡ a = length-take-le a t (omega (arith, some, inside)) in
      let same : cond {A = ℕ} (cuts_cr_lf f (p ++ r)) 1 0 ≡ cond {A = ℕ} (cuts_cr_lf f p) 1 0 = ap (λ c. cond {A = ℕ} c 1 0) (starts_same f p r (omega (arith, long, some))) in
      let lines : line_of_byte t (byte_len f) ≡ line_of_byte (f ++ (p ++ r)) (byte_len f) = ap (λ s. line_of_byte s (byte_len f)) whole in
      let b : byte_len (take e t) - byte_len f ≡ byte_len p = omega (arith, ap byte_len front, byte_len-append f p) in
      let n : length (take e t) - a ≡ length p = omega (arith, ap length front, length-append f p, size) in
      let u : units (take e t) - units f ≡ units p = omega (arith, ap units front, units-append f p) in
      let l : line_breaks (take e t) - line_of_byte t (byte_len f) ≡ line_breaks p = omega (arith, ap line_breaks front, law.joined f p, front_breaks law f (p ++ r), same, lines) in
      cc
