-- Parts of a text inside one of its chunks.
use Rattle.std.proofs.Common.{◌≡◌, ℕ, ◌+◌, ◌-◌, ◌^◌, ◌<◌, ◌≤◌, inl, inr, true, List, [], ◌∷◌, ◌++◌, length, take, drop, refl, ap, arith, sym, ◌∙◌, subst, append-nil, append_assoc, length-append, length-take}
use Rattle.std.specs.List.{concat}
use Rattle.std.specs.Str.{chars, IsUtf8, all_scalars, is_utf8}
use Rattle.std.specs.Borrow.{Bor}
use Rattle.std.proofs.lemmas.Bool.{cases_lt}
use Rattle.std.proofs.lemmas.List.{take_all, drop_at}
use Rattle.std.proofs.lemmas.List.Folds.{concat-append}
use Rattle.std.proofs.lemmas.Str.{length-le-encodes, encodes-chars, scalars-chars, IsUtf8-from_is_utf8}
use Rattle.str_indices.specs.Text.{byte_len}
use Rattle.ropey_tree.specs.declared.counts.Counts.{Counts}
use Rattle.ropey_tree.specs.declared.counts.By.{By}
use Rattle.ropey_tree.specs.Counts.{counts_of, zero_counts, plus, minus}
use Rattle.ropey_tree.specs.Cutting.{IsPiece, IsCutting, IsRopeText}
use Rattle.ropey_walk.specs.Chunks.{text_of, lone_piece}
use Rattle.ropey_walk.specs.Clips.{between, pieces_from_char, pieces_to_char, clip}
use Rattle.ropey_walk.proofs.BreakLaws.{BreaksOfParts}
use Rattle.ropey_walk.specs.Parts.{standing}
use Rattle.ropey_walk.specs.Sources.{source_pieces, light_bytes}
use Rattle.ropey_walk.specs.Standing.{StandsAt, IsChunkOf}
use Rattle.ropey_walk.specs.declared.slice.RopeSlice.{RopeSlice}
use Rattle.ropey_walk.specs.declared.slice.Source.TheVariants.{Light}
use Rattle.ropey_walk.proofs.Cuts.{byte_len-append, cut-left, cut-right, bytes-concat, text_fits}
use Rattle.ropey_walk.proofs.Clipping.{from-here, to-here, to-none, from-all, clip-around, clip-clip}
use Rattle.ropey_walk.proofs.Counting.{take-parts, length-between}
use Rattle.ropey_walk.proofs.Reaching.{IsPart, IsSeam, IsCutAt, seam_between, minus-plus, some_bytes, end-bytes, cut_text}
use Rattle.ropey_walk.proofs.Shows.{piece_by_itself, amount-nothing}
use Rattle.ropey_walk.proofs.Slices.{standing-part, between-between}

-- ---- a text of at most one chunk
pub text_of_piece : (chunk : List ℕ) → text_of (lone_piece chunk) ≡ chunk
text_of_piece [] = refl
text_of_piece (c ∷ cs) = append-nil (c ∷ cs)

light_text : (text : List ℕ) → all_scalars text ≡ true → byte_len text ≤ 984 → IsRopeText (lone_piece text)
light_text [] scalars short = record { cut = tt; fits = omega arith }
light_text (c ∷ cs) scalars short =
    let piece : IsPiece (c ∷ cs) = record { scalars = scalars; not_empty = omega (arith, length-le-encodes (c ∷ cs)); not_long = short } in
    record { cut = piece; fits = omega (arith, bytes-concat ((c ∷ cs) ∷ []), ap byte_len (append-nil (c ∷ cs)), short) }

pub light_utf8 : (slice : RopeSlice) (text : Bor (List ℕ)) → slice.source ≡ Light text → IsUtf8 text.now
light_utf8 slice text is = IsUtf8-from_is_utf8 text.now (ap (λ s. is_utf8 (light_bytes s)) (sym is) ∙ slice.utf8)

pub light_is_text : (slice : RopeSlice) (text : Bor (List ℕ)) → slice.source ≡ Light text → IsRopeText (source_pieces slice.source)
light_is_text slice text is =
    let utf8 = light_utf8 slice text is in
    let short : byte_len (chars text.now) ≤ 984 = omega (arith, ap length (encodes-chars text.now utf8), slice.short, ap (λ s. length (light_bytes s)) is) in
    subst IsRopeText (ap source_pieces (sym is)) (light_text (chars text.now) (scalars-chars text.now utf8) short)

-- an empty chunk says nothing
pub nothing_of : (pieces : List (List ℕ)) → IsChunkOf pieces [] zero_counts
nothing_of pieces = record { before = []; after = pieces; parts = refl; start_is = refl }

clip_one : (a e : ℕ) (chunk : List ℕ) → a < e → e ≤ length chunk → clip a e (chunk ∷ []) ≡ between a e chunk ∷ []
clip_one a e chunk some within =
    ap (pieces_from_char a) (to-here e chunk [] (omega (arith, some)))
    ∙ from-here a (take e chunk) [] (omega (arith, some, within, length-take e chunk))

-- ---- the part of such a text
module _ (chunk : List ℕ) (start len : Counts) (part : IsPart (text_of (lone_piece chunk)) start len) (some : 0 < len.chars) where
  abbrev a : ℕ
  a = start.chars

  abbrev e : ℕ
  e = start.chars + len.chars

  within : e ≤ length chunk
  within = omega (arith, part.within, ap length (text_of_piece chunk))

  alone : lone_piece chunk ≡ chunk ∷ []
  alone = piece_by_itself chunk (omega (arith, within, some, length-le-encodes chunk))

  pub only_piece : clip a e (lone_piece chunk) ≡ between a e chunk ∷ []
  only_piece = ap (clip a e) alone ∙ clip_one a e chunk (omega (arith, some)) within

  pub only_stands : (pieces : List (List ℕ)) (by : By) (i : ℕ) → pieces ≡ clip a e (lone_piece chunk) → StandsAt pieces by i (between a e chunk) zero_counts
  only_stands pieces by i same =
      let inner = between a e chunk in
      let long = length-between a e chunk (omega arith) within in
      let one : lone_piece inner ≡ inner ∷ [] = piece_by_itself inner (omega (arith, long, some, length-le-encodes inner)) in
      record {
        before = [];
        after = [];
        parts = same ∙ only_piece ∙ sym one ∙ sym (append-nil (lone_piece inner));
        some = λ none. absurd (omega (arith, long, some, ap length none));
        start_is = refl;
        not_past = omega (arith, amount-nothing by);
        passed = inr refl;
      }

  pub only_cut : (bytes : List ℕ) → IsUtf8 bytes → chars bytes ≡ chunk → IsCutAt bytes start.bytes (start.bytes + len.bytes) (between a e chunk)
  only_cut bytes utf8 is =
      let t = chars bytes in
      let same : text_of (lone_piece chunk) ≡ t = text_of_piece chunk ∙ sym is in
      let here : IsPart t start len = subst (λ (u : List ℕ). IsPart u start len) same part in
      let cut = cut_text t a e start.bytes (start.bytes + len.bytes) (scalars-chars bytes utf8) (omega arith) (ap (λ c. c.bytes) here.starts) (sym (end-bytes t start len here)) in
      subst (λ (u : List ℕ). IsCutAt bytes start.bytes (start.bytes + len.bytes) (between a e u)) is (subst (λ (bs : List ℕ). IsCutAt bs start.bytes (start.bytes + len.bytes) (between a e t)) (encodes-chars bytes utf8) cut)

pub chunk_fits : (pieces : List (List ℕ)) → IsRopeText pieces → (chunk : List ℕ) (first : Counts) → IsChunkOf pieces chunk first → first.bytes + byte_len chunk < 2 ^ 63
chunk_fits pieces text chunk first shown =
    let l = text_of shown.before in
    omega (
      arith,
      text_fits pieces text,
      ap (λ ps. byte_len (text_of ps)) shown.parts,
      ap byte_len (concat-append (shown.before ++ lone_piece chunk) shown.after),
      byte_len-append (text_of (shown.before ++ lone_piece chunk)) (text_of shown.after),
      ap byte_len (concat-append shown.before (lone_piece chunk)),
      byte_len-append l (text_of (lone_piece chunk)),
      ap byte_len (text_of_piece chunk),
      ap (λ c. c.bytes) shown.start_is,
    )

-- ---- a part inside one of several chunks
module _ (law : BreaksOfParts) (pieces : List (List ℕ)) (text : IsRopeText pieces) (chunk : List ℕ) (first : Counts) (shown : IsChunkOf pieces chunk first)
    (start len : Counts) (part : IsPart (text_of pieces) start len) (some : 0 < len.chars) (low : first.bytes ≤ start.bytes) (high : start.bytes + len.bytes ≤ first.bytes + byte_len chunk) where
  abbrev t : List ℕ
  t = text_of pieces

  abbrev l : List ℕ
  l = text_of shown.before

  abbrev m : List ℕ
  m = l ++ chunk

  one_piece : lone_piece chunk ≡ chunk ∷ []
  one_piece = piece_by_itself chunk (omega (arith, low, high, some, some_bytes t start len part))

  parts : pieces ≡ shown.before ++ chunk ∷ shown.after
  parts = shown.parts ∙ ap (λ p. shown.before ++ p ++ shown.after) one_piece ∙ append_assoc shown.before (chunk ∷ []) shown.after

  front : IsSeam t l
  front = seam_between law shown.before (chunk ∷ shown.after) t (ap concat parts) (subst IsCutting parts text.cut)

  back : IsSeam t m
  back =
      let joined : text_of (shown.before ++ chunk ∷ []) ≡ m = concat-append shown.before (chunk ∷ []) ∙ ap (λ s. l ++ s) (append-nil chunk) in
      let behind : pieces ≡ (shown.before ++ chunk ∷ []) ++ shown.after = parts ∙ sym (append_assoc shown.before (chunk ∷ []) shown.after) in
      subst (IsSeam t) joined (seam_between law (shown.before ++ chunk ∷ []) shown.after t (ap concat behind) (subst IsCutting behind text.cut))

  abbrev k : ℕ
  k = start.chars - length l

  abbrev n : ℕ
  n = len.chars

  -- more characters are more bytes
  longer : (i j : ℕ) → i < j → j ≤ length t → byte_len (take i t) < byte_len (take j t)
  longer i j less inside =
      omega (
        arith,
        ap byte_len (take-parts i j t (omega (arith, less))) ∙ byte_len-append (take i t) (between i j t),
        length-between i j t (omega (arith, less)) inside,
        length-le-encodes (between i j t),
        less,
      )

  starts_behind : length l ≤ start.chars
  starts_behind = elim (cases_lt start.chars (length l)) [
    | inl less ↦
        absurd (
        omega (
          arith,
          longer start.chars (length l) less front.within,
          ap byte_len front.taken,
          ap (λ c. c.bytes) shown.start_is,
          ap (λ c. c.bytes) part.starts,
          low,
        )
        )
    | inr behind ↦ behind
  ]

  ends_before : start.chars + n ≤ length m
  ends_before = elim (cases_lt (length m) (start.chars + n)) [
    | inl more ↦
        absurd (
        omega (
          arith,
          longer (length m) (start.chars + n) more part.within,
          ap byte_len back.taken,
          byte_len-append l chunk,
          ap (λ c. c.bytes) shown.start_is,
          end-bytes t start len part,
          high,
        )
        )
    | inr before ↦ before
  ]

  long : length m ≡ length l + length chunk
  long = length-append l chunk

  sum : length l + k ≡ start.chars
  sum = omega (arith, starts_behind)

  inside : k + n ≤ length m - length l
  inside = omega (arith, ends_before, starts_behind)

  chunk_is : between (length l) (length m) t ≡ chunk
  chunk_is = ap (drop (length l)) back.taken ∙ drop_at l chunk (length l) refl

  starts_are : minus start first ≡ standing chunk k
  starts_are =
      let whole : start ≡ plus first (standing chunk k) =
      part.starts ∙ ap (standing t) (sym sum) ∙ standing-part law t (length l) (length m) k (omega (arith, long)) back.within (omega (arith, inside, some))
      ∙ ap (λ c. plus c (standing (between (length l) (length m) t) k)) (front.stands ∙ sym shown.start_is) ∙ ap (λ s. plus first (standing s k)) chunk_is in
      ap (λ c. minus c first) whole ∙ minus-plus first (standing chunk k)

  -- the part as one of the chunk
  pub in_piece : IsPart (text_of (lone_piece chunk)) (minus start first) len
  in_piece =
      let chars_are : (minus start first).chars ≡ k = ap (λ c. c.chars) starts_are in
      let counted : len ≡ counts_of (between k (k + n) chunk) =
      part.counted ∙ ap (λ i. counts_of (between i (i + n) t)) (sym sum) ∙ ap counts_of (sym (between-between k n (length l) (length m) t (omega (arith, long)) inside))
      ∙ ap (λ s. counts_of (between k (k + n) s)) chunk_is in
      let here : IsPart chunk (minus start first) len =
      record {
        within = omega (arith, inside, long, chars_are);
        starts = starts_are ∙ ap (standing chunk) (sym chars_are);
        counted = counted ∙ ap (λ i. counts_of (between i (i + n) chunk)) (sym chars_are);
      } in
      subst (λ (s : List ℕ). IsPart s (minus start first) len) (sym (text_of_piece chunk)) here

  pub piece_parts : clip (minus start first).chars ((minus start first).chars + n) (lone_piece chunk) ≡ clip start.chars (start.chars + n) pieces
  piece_parts =
      let chars_are : (minus start first).chars ≡ k = ap (λ c. c.chars) starts_are in
      let none : length l - length l ≡ 0 = omega arith in
      let all : length m - length l ≡ length chunk = omega (arith, long) in
      let rest : length m - length l - length chunk ≡ 0 = omega (arith, long) in
      let wide : 0 < length chunk = omega (arith, inside, some, long) in
      let one : clip (length l) (length m) pieces ≡ chunk ∷ [] =
      ap (clip (length l) (length m)) parts
      ∙ clip-around (length l) (length m) shown.before chunk shown.after (omega (arith, long, wide)) (omega (arith, long, wide)) (omega (arith, wide))
      ∙ ap (λ ps. ps ++ drop (length l - length l) (take (length m - length l) chunk) ∷ pieces_to_char (length m - length l - length chunk) shown.after) (from-all (length l) shown.before (omega arith))
      ∙ ap (λ i. drop i (take (length m - length l) chunk) ∷ pieces_to_char (length m - length l - length chunk) shown.after) none
      ∙ ap (λ i. take i chunk ∷ pieces_to_char (length m - length l - length chunk) shown.after) all
      ∙ ap (λ s. s ∷ pieces_to_char (length m - length l - length chunk) shown.after) (take_all (length chunk) chunk (omega arith))
      ∙ ap (λ i. chunk ∷ pieces_to_char i shown.after) rest ∙ ap (λ ps. chunk ∷ ps) (to-none shown.after) in
      let end : length l + (k + n) ≡ start.chars + n = omega (arith, sum) in
      ap (λ i. clip i (i + n) (lone_piece chunk)) chars_are ∙ ap (clip k (k + n)) (one_piece ∙ sym one)
      ∙ clip-clip k (k + n) (length l) (length m) pieces (omega (arith, inside, long)) ∙ ap (λ i. clip i (length l + (k + n)) pieces) sum ∙ ap (λ i. clip start.chars i pieces) end

  -- a chunk is a text by itself
  cut_alone : IsCutting (chunk ∷ [])
  cut_alone = cut-left (chunk ∷ []) shown.after (cut-right shown.before (chunk ∷ shown.after) (subst IsCutting parts text.cut))

  pub piece_short : byte_len chunk ≤ 984
  piece_short = cut_alone.not_long

  pub piece_text : IsRopeText (lone_piece chunk)
  piece_text =
      subst IsRopeText (sym one_piece) (record { cut = cut_alone; fits = omega (arith, bytes-concat (chunk ∷ []), ap byte_len (append-nil chunk), piece_short) })
