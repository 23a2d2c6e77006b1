-- Slices as parts of a text.
use Rattle.std.proofs.Common.{◌≡◌, ◌+◌, ◌-◌, ◌^◌, ◌<◌, ◌≤◌, ℕ, List, [], ◌++◌, length, take, drop, refl, ap, sym, ◌∙◌, subst, arith}
use Rattle.std.proofs.lemmas.List.{take-take, drop-drop}
use Rattle.str_indices.specs.Text.{byte_len, units}
use Rattle.ropey_tree.specs.declared.counts.Counts.{Counts}
use Rattle.ropey_tree.specs.declared.counts.By.{By}
use Rattle.ropey_tree.specs.Counts.{counts_of, plus, amount}
use Rattle.ropey_tree.specs.Cutting.{IsRopeText}
use Rattle.ropey_walk.specs.Chunks.{text_of}
use Rattle.ropey_walk.specs.Clips.{between, clip}
use Rattle.ropey_walk.specs.Conversions.{line_of_byte}
use Rattle.ropey_walk.proofs.BreakLaws.{BreaksOfParts}
use Rattle.ropey_walk.specs.Parts.{standing}
use Rattle.ropey_walk.specs.Sources.{source_pieces}
use Rattle.ropey_walk.specs.Slices.{slice_pieces, slice_text}
use Rattle.ropey_walk.specs.declared.slice.RopeSlice.{RopeSlice}
use Rattle.ropey_walk.proofs.Cuts.{byte_len-append}
use Rattle.ropey_walk.proofs.Clipping.{clip-nothing, clip-clip, text-clip, drop-of-take}
use Rattle.ropey_walk.proofs.Counting.{units-append, take-parts, whole-parts, length-between, inner_breaks}
use Rattle.ropey_walk.proofs.Reaching.{IsPart, start-fits, bytes-part}

pub part_of : (slice : RopeSlice) (pieces : List (List ℕ)) → source_pieces slice.source ≡ pieces → IsPart (text_of pieces) slice.start slice.len
part_of slice pieces e = subst (λ (ps : List (List ℕ)). IsPart (text_of ps) slice.start slice.len) e (record { within = slice.within; starts = slice.starts; counted = slice.counted })

-- a slice without characters has no chunks
pub nothing_in : (slice : RopeSlice) → slice.len.chars ≡ 0 → slice_pieces slice ≡ []
nothing_in slice e =
    let same : slice.start.chars + slice.len.chars ≡ slice.start.chars = omega (arith, e) in
    ap (λ n. clip slice.start.chars n (source_pieces slice.source)) same ∙ clip-nothing slice.start.chars (source_pieces slice.source)

pub no_text : (pieces : List (List ℕ)) → pieces ≡ [] → IsRopeText pieces
no_text pieces e = subst IsRopeText (sym e) (record { cut = tt; fits = omega arith })

-- ---- a part of a part of a text
between-take : (k a e : ℕ) (t : List ℕ) → a ≤ e → k ≤ e - a → take k (between a e t) ≡ between a (a + k) t
between-take k a e t h inside =
    let sum : e ≡ a + (e - a) = omega (arith, h) in
    ap (λ n. take k (drop a (take n t))) sum ∙ ap (take k) (drop-of-take a (e - a) t) ∙ take-take k (e - a) (drop a t) inside ∙ sym (drop-of-take a k t)

pub between-between : (k n a e : ℕ) (t : List ℕ) → a ≤ e → k + n ≤ e - a → between k (k + n) (between a e t) ≡ between (a + k) (a + k + n) t
between-between k n a e t h inside =
    let same : a + (k + n) ≡ a + k + n = omega arith in
    ap (drop k) (between-take (k + n) a e t h inside) ∙ ap (λ m. drop k (drop a (take m t))) same ∙ drop-drop k a (take (a + k + n) t)

pub standing-part : BreaksOfParts → (t : List ℕ) (a e k : ℕ) → a ≤ e → e ≤ length t → k < e - a → standing t (a + k) ≡ plus (standing t a) (standing (between a e t) k)
standing-part law t a e k h l inside =
    let p = between a e t in
    let f = take a t in
    let r = drop e t in
    let long : k < length p = omega (arith, inside, length-between a e t h l) in
    let front : take (a + k) t ≡ f ++ take k p = take-parts a (a + k) t (omega arith) ∙ ap (λ b. f ++ b) (sym (between-take k a e t h (omega (arith, inside)))) in
    let bytes : byte_len (take (a + k) t) ≡ byte_len f + byte_len (take k p) = ap byte_len front ∙ byte_len-append f (take k p) in
    let us : units (take (a + k) t) ≡ units f + units (take k p) = ap units front ∙ units-append f (take k p) in
    let whole : t ≡ f ++ (p ++ r) = whole-parts a e t h in
    let within : byte_len (take (a + k) t) - byte_len f ≡ byte_len (take k p) = omega (arith, bytes) in
    let lines : line_of_byte t (byte_len (take (a + k) t)) ≡ line_of_byte t (byte_len f) + line_of_byte p (byte_len (take k p)) =
    omega (
      arith,
      law.behind f (p ++ r) (byte_len (take (a + k) t)) (omega (arith, bytes)),
      ap (λ n. line_of_byte (p ++ r) n) within,
      inner_breaks law p r k long,
      ap (λ s. line_of_byte s (byte_len (take (a + k) t))) whole,
      ap (λ s. line_of_byte s (byte_len f)) whole,
    ) in
    cc

-- a part of a slice as one of its rope
pub record InPart (t : List ℕ) (start len : Counts) : Type 0 where
  pub within : start.chars + len.chars ≤ length t
  pub starts : start ≡ standing t start.chars
  pub counted : len ≡ counts_of (between start.chars (start.chars + len.chars) t)

slice_length : (s : RopeSlice) → length (slice_text s) ≡ s.len.chars
slice_length s =
    let t = text_of (source_pieces s.source) in
    omega (
      arith,
      ap length (text-clip s.start.chars (s.start.chars + s.len.chars) (source_pieces s.source)),
      length-between s.start.chars (s.start.chars + s.len.chars) t (omega arith) s.within,
    )

module _ (law : BreaksOfParts) where
  pub in_part : (s : RopeSlice) (start len : Counts) → start.chars + len.chars ≤ length (slice_text s) → start ≡ standing (slice_text s) start.chars
      → len ≡ counts_of (between start.chars (start.chars + len.chars) (slice_text s)) → 0 < len.chars → InPart (text_of (source_pieces s.source)) (plus s.start start) len
  in_part s start len within starts counted some =
      let t = text_of (source_pieces s.source) in
      let a = s.start.chars in
      let e = s.start.chars + s.len.chars in
      let k = start.chars in
      let n = len.chars in
      let text : slice_text s ≡ between a e t = text-clip a e (source_pieces s.source) in
      let size = slice_length s in
      record {
        within = omega (arith, within, size, s.within);
        starts = ap (λ c. plus s.start c) (starts ∙ ap (λ u. standing u k) text) ∙ ap (λ c. plus c (standing (between a e t) k)) s.starts
            ∙ sym (standing-part law t a e k (omega arith) s.within (omega (arith, within, size, some)));
        counted = counted ∙ ap (λ u. counts_of (between k (k + n) u)) text ∙ ap counts_of (between-between k n a e t (omega arith) (omega (arith, within, size)));
      }

  pub parts_fit : (by : By) (s : RopeSlice) (start len : Counts) → start.chars + len.chars ≤ length (slice_text s) → start ≡ standing (slice_text s) start.chars
      → len ≡ counts_of (between start.chars (start.chars + len.chars) (slice_text s)) → amount by s.start + amount by start < 2 ^ 64
  parts_fit by s start len within starts counted =
      let t = text_of (source_pieces s.source) in
      let outer = start-fits law by t s.start s.len (part_of s (source_pieces s.source) refl) in
      let inner = start-fits law by (slice_text s) start len (record { within = within; starts = starts; counted = counted }) in
      let below = bytes-part s.start.chars (s.start.chars + s.len.chars) t in
      omega (arith, outer, inner, below, ap byte_len (text-clip s.start.chars (s.start.chars + s.len.chars) (source_pieces s.source)), s.fits)

pub deeper_pieces : (s : RopeSlice) (start len : Counts) → start.chars + len.chars ≤ length (slice_text s)
    → clip (s.start.chars + start.chars) (s.start.chars + start.chars + len.chars) (source_pieces s.source) ≡ clip start.chars (start.chars + len.chars) (slice_pieces s)
deeper_pieces s start len within =
    let a = s.start.chars in
    let same : a + start.chars + len.chars ≡ a + (start.chars + len.chars) = omega arith in
    ap (λ n. clip (a + start.chars) n (source_pieces s.source)) same
    ∙ sym (clip-clip start.chars (start.chars + len.chars) a (a + s.len.chars) (source_pieces s.source) (omega (arith, within, slice_length s)))
