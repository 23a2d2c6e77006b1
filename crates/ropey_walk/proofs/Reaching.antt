-- The leaf that a part of a text reaches into, and what of it is in the part.
use Rattle.std.proofs.Common.{◌≡◌, ℕ, ◌+◌, ◌-◌, ◌^◌, ◌<◌, ◌≤◌, ◌⊎◌, inl, inr, Bool, true, false, ◌&&◌, List, [], ◌∷◌, ◌++◌, length, take, drop, min, refl, ap, arith, sym, ◌∙◌, subst, length-append, length-take, length-drop, length-take-le}
use Rattle.std.specs.Prelude.{encode_utf8_all}
use Rattle.std.specs.List.{concat}
use Rattle.std.specs.Str.{all_scalars, chars, IsCharBoundary}
use Rattle.std.proofs.lemmas.Bool.{cases_lt}
use Rattle.std.proofs.lemmas.List.{append-nil, append_assoc, take-append-drop, take_all, take_at, drop_at, take-append-le, drop-append-le}
use Rattle.std.proofs.lemmas.List.Folds.{concat-append}
use Rattle.std.proofs.lemmas.Str.{length-le-encodes, encodes-append, chars-encodes, IsCharBoundary-at_seam}
use Rattle.std.proofs.Math.ListN.{drop_of_length-le}
use Rattle.str_indices.specs.Text.{byte_len, ends_with_cr, NoCrLfBetween}
use Rattle.ropey_tree.specs.declared.counts.Counts.{Counts}
use Rattle.ropey_tree.specs.declared.counts.By.{By}
use Rattle.ropey_tree.specs.declared.counts.By.TheVariants.{Bytes, Chars, Units, Breaks}
use Rattle.ropey_tree.specs.Counts.{counts_of, zero_counts, plus, minus, amount}
use Rattle.ropey_tree.specs.Cutting.{IsCutting, IsRopeText}
use Rattle.ropey_tree.specs.Nodes.{LiesIn}
use Rattle.ropey_tree.specs.Laws.{CountsAreOfTheText}
use Rattle.ropey_walk.specs.Chunks.{text_of}
use Rattle.ropey_walk.specs.Clips.{between, pieces_from_char, pieces_to_char, clip}
use Rattle.ropey_walk.specs.Conversions.{line_of_byte}
use Rattle.ropey_walk.specs.Parts.{standing, ReachesLeaf}
use Rattle.ropey_walk.specs.Standing.{StandsAt}
use Rattle.ropey_walk.proofs.BreakLaws.{BreaksOfParts}
use Rattle.ropey_walk.proofs.Cuts.{byte_len-append, first_piece, cut-left, cut-right, whole_seams}
use Rattle.ropey_walk.proofs.Shows.{piece_by_itself}
use Rattle.ropey_walk.proofs.Clipping.{drop-past, take-past, text-from, clip-around, to-none}
use Rattle.ropey_walk.proofs.Clipped.{some_chars, clip-all, scalars-take, scalars-drop}
use Rattle.ropey_walk.proofs.Counting.{back_whole, take-parts, whole-parts, length-between, front_breaks, standing-front, standing-plus, amount-plus, amount-front, amount-standing}

-- ---- a part of a text: the counts before it and its own
pub record IsPart (t : List ℕ) (start len : Counts) : Type 0 where
  pub within : start.chars + len.chars ≤ length t
  pub starts : start ≡ standing t start.chars
  pub counted : len ≡ counts_of (between start.chars (start.chars + len.chars) t)

pub nothing_stands : BreaksOfParts → (t : List ℕ) → zero_counts ≡ standing t 0
nothing_stands law t = let none = front_breaks law [] t in let lines : 0 ≡ line_of_byte t 0 = omega (arith, none) in ap (λ (n : ℕ). record { bytes = 0; chars = 0; units = 0; breaks = n }) lines

pub whole_part : BreaksOfParts → (pieces : List (List ℕ)) (start len : Counts) → start ≡ zero_counts → len ≡ counts_of (text_of pieces) → IsPart (text_of pieces) start len
whole_part law pieces start len e h =
    let t = text_of pieces in
    let first : start.chars ≡ 0 = ap (λ c. c.chars) e in
    let all : len.chars ≡ length t = ap (λ c. c.chars) h in
    let end : start.chars + len.chars ≡ length t = omega (arith, first, all) in
    record {
      within = omega (arith, end);
      starts = e ∙ nothing_stands law t ∙ ap (standing t) (sym first);
      counted = h ∙ ap counts_of (sym (ap (λ n. drop n (take (start.chars + len.chars) t)) first ∙ ap (λ n. take n t) end ∙ take_all (length t) t (omega arith)));
    }

pub whole_clip : (pieces : List (List ℕ)) (start len : Counts) → start ≡ zero_counts → len ≡ counts_of (text_of pieces) → IsRopeText pieces → clip start.chars (start.chars + len.chars) pieces ≡ pieces
whole_clip pieces start len e h text =
    let first : start.chars ≡ 0 = ap (λ c. c.chars) e in
    let end : start.chars + len.chars ≡ length (text_of pieces) = omega (arith, first, ap (λ c. c.chars) h) in
    ap (λ n. clip n (start.chars + len.chars) pieces) first ∙ ap (λ n. clip 0 n pieces) end ∙ clip-all pieces text.cut

-- ---- no measure exceeds the bytes
pub amount-below : BreaksOfParts → (by : By) (t : List ℕ) → amount by (counts_of t) ≤ byte_len t
amount-below law Bytes t = omega arith
amount-below law Chars t = length-le-encodes t
amount-below law Units t = law.few_units t
amount-below law Breaks t = law.few t

pub bytes-part : (a e : ℕ) (t : List ℕ) → byte_len (between a e t) ≤ byte_len t
bytes-part a e t =
    omega (
      arith,
      ap byte_len (sym (take-append-drop e t)) ∙ byte_len-append (take e t) (drop e t),
      ap byte_len (sym (take-append-drop a (take e t))) ∙ byte_len-append (take a (take e t)) (between a e t),
    )

pub len-fits : BreaksOfParts → (by : By) (t : List ℕ) (start len : Counts) → IsPart t start len → byte_len t < 2 ^ 63 → amount by len < 2 ^ 63
len-fits law by t start len h fits =
    let part = between start.chars (start.chars + len.chars) t in
    omega (arith, ap (amount by) h.counted, amount-below law by part, bytes-part start.chars (start.chars + len.chars) t, fits)

pub bytes-fit : (t : List ℕ) (start len : Counts) → IsPart t start len → byte_len t < 2 ^ 63 → len.bytes < 2 ^ 63
bytes-fit t start len h fits = omega (arith, ap (λ c. c.bytes) h.counted, bytes-part start.chars (start.chars + len.chars) t, fits)

pub some_bytes : (t : List ℕ) (start len : Counts) → IsPart t start len → len.chars ≤ len.bytes
some_bytes t start len h =
    let part = between start.chars (start.chars + len.chars) t in
    omega (arith, ap (λ c. c.bytes) h.counted, ap (λ c. c.chars) h.counted, length-le-encodes part)

nothing_next : (s r : List ℕ) → r ≡ [] → NoCrLfBetween s r
nothing_next s r e = subst (NoCrLfBetween s) (sym e) (none (ends_with_cr s))
  where
    none : (b : Bool) → (b && false) ≡ false
    none true = refl
    none false = refl

-- ---- a seam: an index between two chunks
pub record IsSeam (t front : List ℕ) : Type 0 where
  pub within : length front ≤ length t
  pub taken : take (length front) t ≡ front
  pub whole : NoCrLfBetween (take (length front) t) (drop (length front) t)
  pub stands : standing t (length front) ≡ counts_of front

module _ (law : BreaksOfParts) where
  pub seam_between : (front rest : List (List ℕ)) (t : List ℕ) → t ≡ concat (front ++ rest) → IsCutting (front ++ rest) → IsSeam t (concat front)
  seam_between front rest t e cut =
      let f = concat front in
      let parts : t ≡ f ++ concat rest = e ∙ concat-append front rest in
      let taken : take (length f) t ≡ f = ap (take (length f)) parts ∙ take_at f (concat rest) (length f) refl in
      let left : drop (length f) t ≡ concat rest = ap (drop (length f)) parts ∙ drop_at f (concat rest) (length f) refl in
      let within : length f ≤ length t = omega (arith, ap length parts, length-append f (concat rest)) in
      let whole : NoCrLfBetween (take (length f) t) (drop (length f) t) = subst (λ (s : List ℕ). NoCrLfBetween s (drop (length f) t)) (sym taken) (subst (NoCrLfBetween f) (sym left) (whole_seams front rest cut)) in
      record { within = within; taken = taken; whole = whole; stands = standing-front law t (length f) within whole ∙ ap counts_of taken }

  pub start-fits : (by : By) (t : List ℕ) (start len : Counts) → IsPart t start len → amount by start ≤ byte_len t
  start-fits by t start len h =
      let n = length t in
      let all : standing t n ≡ counts_of t =
      standing-front law t n (omega arith) (nothing_next (take n t) (drop n t) (drop_of_length-le t (omega arith))) ∙ ap counts_of (take_all n t (omega arith)) in
      omega (arith, ap (amount by) h.starts, amount-standing law by t start.chars n (omega (arith, h.within)), ap (amount by) all, amount-below law by t)

  pub sum-fits : (by : By) (t : List ℕ) (start len : Counts) → IsPart t start len → byte_len t < 2 ^ 63 → amount by start + amount by len < 2 ^ 64
  sum-fits by t start len h fits = omega (arith, start-fits by t start len h, len-fits law by t start len h fits, fits)

between-parts : (a e m : ℕ) (t : List ℕ) → a ≤ e → e ≤ m → e ≤ length t → between a m t ≡ between a e t ++ between e m t
between-parts a e m t low high inside = ap (drop a) (take-parts e m t high) ∙ drop-append-le a (take e t) (between e m t) (omega (arith, low, length-take-le e t inside))

pub end-bytes : (t : List ℕ) (start len : Counts) → IsPart t start len → byte_len (take (start.chars + len.chars) t) ≡ start.bytes + len.bytes
end-bytes t start len h =
    let e = start.chars + len.chars in
    omega (
      arith,
      ap byte_len (take-parts start.chars e t (omega arith)) ∙ byte_len-append (take start.chars t) (between start.chars e t),
      ap (λ c. c.bytes) h.starts,
      ap (λ c. c.bytes) h.counted,
    )

-- ---- the leaf that contains a position of a part
module _ (law : BreaksOfParts) (counted : CountsAreOfTheText) (pieces : List (List ℕ)) (text : IsRopeText pieces) (start len : Counts) (part : IsPart (text_of pieces) start len) (some : 0 < len.chars) where
  abbrev t : List ℕ
  t = text_of pieces

  -- a found leaf, with the text up to it and through it
  record IsFound (leaf : List ℕ) (by : By) (i : ℕ) (before : Counts) : Type 0 where
    left : List (List ℕ)
    right : List (List ℕ)
    parts : pieces ≡ left ++ leaf ∷ right
    stands_before : before ≡ counts_of (text_of left)
    low : IsSeam t (text_of left)
    high : IsSeam t (text_of left ++ leaf)
    not_past : amount by before ≤ i
    passed : (i < amount by (counts_of (text_of left ++ leaf))) ⊎ (length t ≤ length (text_of left ++ leaf))

  found : (leaf : List ℕ) (by : By) (i : ℕ) (before : Counts) → LiesIn pieces (leaf ∷ []) by i before → IsFound leaf by i before
  found leaf by i before h =
      let joined : text_of (h.left ++ leaf ∷ []) ≡ text_of h.left ++ leaf = concat-append h.left (leaf ∷ []) ∙ ap (λ s. text_of h.left ++ s) (append-nil leaf) in
      let there : pieces ≡ h.left ++ leaf ∷ h.right = h.parts ∙ append_assoc h.left (leaf ∷ []) h.right in
      let cut : IsCutting (h.left ++ leaf ∷ h.right) = subst IsCutting there text.cut in
      let cut' : IsCutting ((h.left ++ leaf ∷ []) ++ h.right) = subst IsCutting h.parts text.cut in
      let front = cut-left (h.left ++ leaf ∷ []) h.right cut' in
      record {
        left = h.left;
        right = h.right;
        parts = there;
        stands_before = h.stands_before ∙ counted h.left (cut-left h.left (leaf ∷ h.right) cut);
        low = seam_between law h.left (leaf ∷ h.right) t (ap concat there) cut;
        high = subst (IsSeam t) joined (seam_between law (h.left ++ leaf ∷ []) h.right t (ap concat h.parts) cut');
        not_past = h.not_past;
        passed = elim h.passed [
          | inl p ↦ inl (omega (arith, p, ap (amount by) (counted (h.left ++ leaf ∷ []) front ∙ ap counts_of joined)))
          | inr e ↦
              let all : t ≡ text_of h.left ++ leaf = ap concat h.parts ∙ ap (λ r. concat ((h.left ++ leaf ∷ []) ++ r)) e ∙ ap concat (append-nil (h.left ++ leaf ∷ [])) ∙ joined in
              inr (omega (arith, ap length all))
        ];
      }

  -- the counts between the part's start and a later seam
  from_start : (by : By) (f : List ℕ) → IsSeam t f → start.chars ≤ length f → amount by (counts_of f) ≡ amount by start + amount by (counts_of (between start.chars (length f) t))
  from_start by f seam behind =
      let a = start.chars in
      let step = standing-plus law t a (length f) behind seam.within (back_whole a (take (length f) t) (drop (length f) t) seam.whole) in
      ap (amount by) (sym seam.stands ∙ step ∙ ap (λ c. plus c (counts_of (between a (length f) t))) (sym part.starts)) ∙ amount-plus law by start (counts_of (between a (length f) t))

  -- the counts up to a seam before the part's start
  up_to_start : (by : By) (f : List ℕ) → IsSeam t f → length f ≤ start.chars → amount by (counts_of f) ≤ amount by start
  up_to_start by f seam before = omega (arith, ap (amount by) seam.stands, ap (amount by) part.starts, amount-standing law by t (length f) start.chars before)

  starts_in : (leaf : List ℕ) (by : By) (i : ℕ) (before : Counts) → (f : IsFound leaf by (amount by start + i) before) → i < amount by len → length (text_of f.left) < start.chars + len.chars
  starts_in leaf by i before f inside =
      let l = text_of f.left in
      let a = start.chars in
      let e = start.chars + len.chars in
      elim (cases_lt (length l) e) [
        | inl p ↦ p
        | inr past ↦
            let more = ap counts_of (between-parts a e (length l) t (omega arith) past part.within) in
            absurd (
            omega (
              arith,
              inside,
              f.not_past,
              ap (amount by) f.stands_before,
              from_start by l f.low (omega (arith, past)),
              ap (amount by) more,
              amount-front law by (between a e t) (between e (length l) t),
              ap (amount by) part.counted,
            )
            )
      ]

  ends_in : (leaf : List ℕ) (by : By) (i : ℕ) (before : Counts) → (f : IsFound leaf by (amount by start + i) before) → start.chars < length (text_of f.left ++ leaf)
  ends_in leaf by i before f =
      let m = text_of f.left ++ leaf in
      elim (cases_lt start.chars (length m)) [
        | inl p ↦ p
        | inr past ↦ elim f.passed [
          | inl p ↦ absurd (omega (arith, p, up_to_start by m f.high past))
          | inr all ↦ absurd (omega (arith, all, past, part.within, some))
        ]
      ]

  pub reached-within : (leaf : List ℕ) (by : By) (i : ℕ) (before : Counts) → i < amount by len → LiesIn pieces (leaf ∷ []) by (amount by start + i) before → ReachesLeaf pieces start len by i leaf before
  reached-within leaf by i before inside h =
      let f = found leaf by (amount by start + i) before h in
      record {
        left = f.left;
        right = f.right;
        parts = f.parts;
        stands_before = f.stands_before;
        starts = starts_in leaf by i before f inside;
        ends = ends_in leaf by i before f;
        not_past = f.not_past;
        passed = elim f.passed [
          | inl p ↦ inl p
          | inr all ↦ inr (omega (arith, all, part.within))
        ];
      }

  pub reached-last : (leaf : List ℕ) (by : By) (i : ℕ) (before : Counts) → amount by len ≤ i → LiesIn pieces (leaf ∷ []) Bytes (start.bytes + (len.bytes - 1)) before → ReachesLeaf pieces start len by i leaf before
  reached-last leaf by i before past h =
      let byte = len.bytes - 1 in
      let bytes = some_bytes t start len part in
      let f = found leaf Bytes (start.bytes + byte) before h in
      let l = text_of f.left in
      let m = l ++ leaf in
      let a = start.chars in
      let e = start.chars + len.chars in
      let starts = starts_in leaf Bytes byte before f (omega (arith, bytes, some)) in
      let stands = ap (amount by) f.stands_before in
      let not_past : amount by before ≤ amount by start + i = elim (cases_lt a (length l)) [
        | inl behind ↦
            let more = ap counts_of (between-parts a (length l) e t (omega (arith, behind)) (omega (arith, starts)) f.low.within) in
            omega (
              arith,
              past,
              stands,
              from_start by l f.low (omega (arith, behind)),
              ap (amount by) more,
              amount-front law by (between a (length l) t) (between (length l) e t),
              ap (amount by) part.counted,
            )
        | inr within ↦ omega (arith, stands, up_to_start by l f.low within)
      ] in
      let reaches : (start.bytes + byte < byte_len m) → e ≤ length m = λ p. elim (cases_lt (length m) e) [
        | inl short ↦
            let rest = between (length m) e t in
            let sum = ap byte_len (take-parts (length m) e t (omega (arith, short))) ∙ byte_len-append (take (length m) t) rest in
            let gap = length-between (length m) e t (omega (arith, short)) part.within in
            absurd (omega (arith, p, some, bytes, short, sum, ap byte_len f.high.taken, end-bytes t start len part, gap, length-le-encodes rest))
        | inr done ↦ done
      ] in
      record {
        left = f.left;
        right = f.right;
        parts = f.parts;
        stands_before = f.stands_before;
        starts = starts;
        ends = ends_in leaf Bytes byte before f;
        not_past = not_past;
        passed = elim f.passed [
          | inl p ↦ inr (reaches p)
          | inr all ↦ inr (omega (arith, all, part.within))
        ];
      }

-- ---- what of the leaf is in the part
pub minus-plus : (c d : Counts) → minus (plus c d) c ≡ d
minus-plus c d =
    let b : c.bytes + d.bytes - c.bytes ≡ d.bytes = omega arith in
    let h : c.chars + d.chars - c.chars ≡ d.chars = omega arith in
    let u : c.units + d.units - c.units ≡ d.units = omega arith in
    let l : c.breaks + d.breaks - c.breaks ≡ d.breaks = omega arith in
    ap (λ (n : ℕ). record { bytes = n; chars = c.chars + d.chars - c.chars; units = c.units + d.units - c.units; breaks = c.breaks + d.breaks - c.breaks }) b
    ∙ ap (λ (n : ℕ). record { bytes = d.bytes; chars = n; units = c.units + d.units - c.units; breaks = c.breaks + d.breaks - c.breaks }) h
    ∙ ap (λ (n : ℕ). record { bytes = d.bytes; chars = d.chars; units = n; breaks = c.breaks + d.breaks - c.breaks }) u
    ∙ ap (λ (n : ℕ). record { bytes = d.bytes; chars = d.chars; units = d.units; breaks = n }) l

minus-less : (c d : Counts) → ((by : By) → amount by c ≤ amount by d) → minus c d ≡ zero_counts
minus-less c d h =
    let b : c.bytes - d.bytes ≡ 0 = omega (arith, h Bytes) in
    let n : c.chars - d.chars ≡ 0 = omega (arith, h Chars) in
    let u : c.units - d.units ≡ 0 = omega (arith, h Units) in
    let l : c.breaks - d.breaks ≡ 0 = omega (arith, h Breaks) in
    cc

amount-zero : (by : By) → amount by zero_counts ≡ 0
amount-zero Bytes = refl
amount-zero Chars = refl
amount-zero Units = refl
amount-zero Breaks = refl

drop-parts : (n : ℕ) (f r : List ℕ) → drop n (f ++ r) ≡ drop n f ++ drop (n - length f) r
drop-parts n f r = elim (cases_lt n (length f)) [
  | inl here ↦
      let none : n - length f ≡ 0 = omega (arith, here) in
      drop-append-le n f r (omega (arith, here)) ∙ ap (λ k. drop n f ++ drop k r) (sym none)
  | inr past ↦ drop-past n f r past ∙ ap (λ b. b ++ drop (n - length f) r) (sym (drop_of_length-le f past))
]

-- a text cut at two character boundaries, as bytes
pub record IsCutAt (bytes : List ℕ) (from to : ℕ) (cut : List ℕ) : Type 0 where
  pub order : from ≤ to
  pub within : to ≤ length bytes
  pub starts : IsCharBoundary bytes from
  pub ends : IsCharBoundary bytes to
  pub is : chars (take (to - from) (drop from bytes)) ≡ cut

boundary_at : (n : ℕ) (text : List ℕ) → all_scalars text ≡ true → IsCharBoundary (encode_utf8_all text) (byte_len (take n text))
boundary_at n text scalars =
    let bytes : encode_utf8_all text ≡ encode_utf8_all (take n text) ++ encode_utf8_all (drop n text) = ap encode_utf8_all (sym (take-append-drop n text)) ∙ encodes-append (take n text) (drop n text) in
    IsCharBoundary-at_seam (encode_utf8_all text) (encode_utf8_all (take n text)) (encode_utf8_all (drop n text)) bytes (drop n text, (scalars-drop n text scalars, refl))

pub cut_text : (text : List ℕ) (x y from to : ℕ) → all_scalars text ≡ true → x ≤ y → from ≡ byte_len (take x text) → to ≡ byte_len (take y text) → IsCutAt (encode_utf8_all text) from to (between x y text)
cut_text text x y from to scalars order p q =
    let bytes = encode_utf8_all text in
    let first = encode_utf8_all (take x text) in
    let part = encode_utf8_all (between x y text) in
    let rest = encode_utf8_all (drop y text) in
    let sum : byte_len (take y text) ≡ length first + length part = ap byte_len (take-parts x y text order) ∙ byte_len-append (take x text) (between x y text) in
    let all : byte_len text ≡ byte_len (take y text) + length rest = ap byte_len (sym (take-append-drop y text)) ∙ byte_len-append (take y text) (drop y text) in
    let parts : bytes ≡ first ++ (part ++ rest) =
    ap encode_utf8_all (whole-parts x y text order) ∙ encodes-append (take x text) (between x y text ++ drop y text) ∙ ap (λ bs. first ++ bs) (encodes-append (between x y text) (drop y text)) in
    let size : to - from ≡ length part = omega (arith, p, q, sum) in
    let read : take (to - from) (drop from bytes) ≡ part =
    ap (λ n. take n (drop from bytes)) size
    ∙ ap (λ n. take (length part) (drop n bytes)) p
    ∙ ap (λ bs. take (length part) (drop (length first) bs)) parts
    ∙ ap (take (length part)) (drop_at first (part ++ rest) (length first) refl)
    ∙ take_at part rest (length part) refl in
    record {
      order = omega (arith, p, q, sum);
      within = omega (arith, q, all);
      starts = subst (IsCharBoundary bytes) (sym p) (boundary_at x text scalars);
      ends = subst (IsCharBoundary bytes) (sym q) (boundary_at y text scalars);
      is = ap chars read ∙ chars-encodes (between x y text) (scalars-drop x (take y text) (scalars-take y text scalars));
    }

abbrev pub clipped_leaf : List ℕ → ℕ → ℕ → List ℕ → List ℕ
clipped_leaf l a e leaf = drop (a - length l) (take (e - length l) leaf)

some_clipped : (a e : ℕ) (l leaf : List ℕ) → 0 < length leaf → length l < e → a < e → a < length (l ++ leaf) → 0 < length (clipped_leaf l a e leaf)
some_clipped a e l leaf there low some high = omega (arith, there, low, some, high, length-append l leaf, length-drop (a - length l) (take (e - length l) leaf), length-take (e - length l) leaf)

module _ (law : BreaksOfParts) (pieces : List (List ℕ)) (text : IsRopeText pieces) (start len : Counts) (part : IsPart (text_of pieces) start len) (some : 0 < len.chars) (by : By) (i : ℕ) (leaf : List ℕ) (before : Counts) (r : ReachesLeaf pieces start len by i leaf before) where
  abbrev whole : List ℕ
  whole = text_of pieces

  abbrev l : List ℕ
  l = text_of r.left

  abbrev a : ℕ
  a = start.chars

  abbrev e : ℕ
  e = start.chars + len.chars

  cut : IsCutting (r.left ++ leaf ∷ r.right)
  cut = subst IsCutting r.parts text.cut

  low : IsSeam whole l
  low = seam_between law r.left (leaf ∷ r.right) whole (ap concat r.parts) cut

  high : IsSeam whole (l ++ leaf)
  high =
      let joined : text_of (r.left ++ leaf ∷ []) ≡ l ++ leaf = concat-append r.left (leaf ∷ []) ∙ ap (λ s. l ++ s) (append-nil leaf) in
      let parts : pieces ≡ (r.left ++ leaf ∷ []) ++ r.right = r.parts ∙ sym (append_assoc r.left (leaf ∷ []) r.right) in
      subst (IsSeam whole) joined (seam_between law (r.left ++ leaf ∷ []) r.right whole (ap concat parts) (subst IsCutting parts text.cut))

  -- from the part's start to a later seam
  from_part : (f : List ℕ) → IsSeam whole f → a ≤ length f → counts_of f ≡ plus start (counts_of (drop a f))
  from_part f seam behind =
      sym seam.stands ∙ standing-plus law whole a (length f) behind seam.within (back_whole a (take (length f) whole) (drop (length f) whole) seam.whole)
      ∙ ap (λ c. plus c (counts_of (between a (length f) whole))) (sym part.starts) ∙ ap (λ s. plus start (counts_of (drop a s))) seam.taken

  before_is : minus before start ≡ counts_of (drop a l)
  before_is = elim (cases_lt a (length l)) [
    | inl behind ↦ ap (λ c. minus c start) (r.stands_before ∙ from_part l low (omega (arith, behind))) ∙ minus-plus start (counts_of (drop a l))
    | inr within ↦
        let less : (by : By) → amount by before ≤ amount by start = λ by.
        omega (arith, ap (amount by) r.stands_before, ap (amount by) low.stands, ap (amount by) part.starts, amount-standing law by whole (length l) a within) in
        minus-less before start less ∙ ap counts_of (sym (drop_of_length-le l within))
  ]

  not_past : amount by (counts_of (drop a l)) ≤ i
  not_past = elim (cases_lt a (length l)) [
    | inl behind ↦ omega (arith, r.not_past, ap (amount by) r.stands_before, ap (amount by) (from_part l low (omega (arith, behind))), amount-plus law by start (counts_of (drop a l)))
    | inr within ↦ omega (arith, amount-zero by, ap (λ s. amount by (counts_of s)) (drop_of_length-le l within))
  ]

  abbrev leaf_cut : List ℕ
  leaf_cut = clipped_leaf l a e leaf

  some_left : 0 < length leaf_cut
  some_left = some_clipped a e l leaf (some_chars leaf (first_piece leaf r.right (cut-right r.left (leaf ∷ r.right) cut)).not_empty) r.starts (omega (arith, some)) r.ends

  some_bytes_left : 1 ≤ byte_len leaf_cut
  some_bytes_left = omega (arith, some_left, length-le-encodes leaf_cut)

  clipped : clip a e pieces ≡ pieces_from_char a r.left ++ leaf_cut ∷ pieces_to_char (e - length l - length leaf) r.right
  clipped = ap (clip a e) r.parts ∙ clip-around a e r.left leaf r.right r.starts (omega (arith, some)) (omega (arith, r.ends, length-append l leaf))

  -- the leaf ends before the part does
  through : length (l ++ leaf) < e → text_of (pieces_from_char a r.left) ++ leaf_cut ≡ drop a (l ++ leaf)
  through short =
      let all : take (e - length l) leaf ≡ leaf = take_all (e - length l) leaf (omega (arith, short, length-append l leaf)) in
      ap (λ s. s ++ leaf_cut) (text-from a r.left) ∙ ap (λ s. drop a l ++ drop (a - length l) s) all ∙ sym (drop-parts a l leaf)

  passed : (i < amount by (counts_of (text_of (pieces_from_char a r.left) ++ leaf_cut))) ⊎ (pieces_to_char (e - length l - length leaf) r.right ≡ [])
  passed = elim (cases_lt (length (l ++ leaf)) e) [
    | inl short ↦ elim r.passed [
      | inl p ↦
          inl (
          omega (
            arith,
            p,
            ap (amount by) (from_part (l ++ leaf) high (omega (arith, r.ends))),
            amount-plus law by start (counts_of (drop a (l ++ leaf))),
            ap (λ s. amount by (counts_of s)) (through short),
          )
          )
      | inr q ↦ absurd (omega (arith, short, q))
    ]
    | inr done ↦
        let none : e - length l - length leaf ≡ 0 = omega (arith, done, length-append l leaf) in
        inr (ap (λ k. pieces_to_char k r.right) none ∙ to-none r.right)
  ]

  pub leaf_stands_in : StandsAt (clip a e pieces) by i leaf_cut (minus before start)
  leaf_stands_in =
      let front = pieces_from_char a r.left in
      let back = pieces_to_char (e - length l - length leaf) r.right in
      record {
        before = front;
        after = back;
        parts = clipped ∙ sym (append_assoc front (leaf_cut ∷ []) back) ∙ ap (λ p. front ++ p ++ back) (sym (piece_by_itself leaf_cut some_bytes_left));
        some = λ none. absurd (omega (arith, some_left, ap length none));
        start_is = before_is ∙ ap counts_of (sym (text-from a r.left));
        not_past = omega (arith, not_past, ap (λ s. amount by (counts_of s)) (text-from a r.left));
        passed = passed;
      }

  -- ---- the same in bytes
  rest_text : whole ≡ l ++ (leaf ++ text_of r.right)
  rest_text = ap concat r.parts ∙ concat-append r.left (leaf ∷ r.right)

  front-bytes : (n : ℕ) → length l ≤ n → byte_len (take n whole) ≡ byte_len l + byte_len (take (n - length l) (leaf ++ text_of r.right))
  front-bytes n h = ap byte_len (ap (take n) rest_text ∙ take-past n l (leaf ++ text_of r.right) h) ∙ byte_len-append l (take (n - length l) (leaf ++ text_of r.right))

  bytes_before : before.bytes ≡ byte_len l
  bytes_before = ap (λ c. c.bytes) r.stands_before

  from-is : start.bytes - before.bytes ≡ byte_len (take (a - length l) leaf)
  from-is =
      let starts : start.bytes ≡ byte_len (take a whole) = ap (λ c. c.bytes) part.starts in
      elim (cases_lt a (length l)) [
        | inl front ↦
            let none : a - length l ≡ 0 = omega (arith, front) in
            let sum = ap byte_len (take-parts a (length l) whole (omega (arith, front))) ∙ byte_len-append (take a whole) (between a (length l) whole) in
            omega (arith, bytes_before, starts, sum, ap byte_len low.taken, ap (λ k. byte_len (take k leaf)) none)
        | inr behind ↦
            let inside = ap byte_len (take-append-le (a - length l) leaf (text_of r.right) (omega (arith, behind, r.ends, length-append l leaf))) in
            omega (arith, bytes_before, starts, front-bytes a behind, inside)
      ]

  to-is : min (start.bytes + len.bytes - before.bytes) (byte_len leaf) ≡ byte_len (take (e - length l) leaf)
  to-is =
      let k = e - length l in
      let whole_end = front-bytes e (omega (arith, r.starts)) in
      let ends = end-bytes whole start len part in
      elim (cases_lt (length leaf) k) [
        | inl over ↦
            let all = ap byte_len (take_all k leaf (omega (arith, over))) in
            let more = ap byte_len (take-past k leaf (text_of r.right) (omega (arith, over))) ∙ byte_len-append leaf (take (k - length leaf) (text_of r.right)) in
            omega (arith, bytes_before, whole_end, ends, all, more)
        | inr inside ↦
            let here = ap byte_len (take-append-le k leaf (text_of r.right) inside) in
            let sum = ap byte_len (sym (take-append-drop k leaf)) ∙ byte_len-append (take k leaf) (drop k leaf) in
            omega (arith, bytes_before, whole_end, ends, here, sum)
      ]

  pub ends_behind : before.bytes ≤ start.bytes + len.bytes
  ends_behind = omega (arith, bytes_before, front-bytes e (omega (arith, r.starts)), end-bytes whole start len part)

  pub leaf_cut_at : (from to : ℕ) → all_scalars leaf ≡ true → from ≡ start.bytes - before.bytes → to ≡ min (start.bytes + len.bytes - before.bytes) (byte_len leaf) → IsCutAt (encode_utf8_all leaf) from to leaf_cut
  leaf_cut_at from to scalars p q =
      cut_text leaf (a - length l) (e - length l) from to scalars (omega (arith, some)) (p ∙ from-is) (q ∙ to-is)
