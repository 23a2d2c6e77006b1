-- Chunks in sequence.
use Rattle.std.proofs.Common.{◌≡◌, ℕ, zero, suc, List, [], ◌∷◌, ◌++◌, ◌<◌, ◌≤◌, ◌⊎◌, inl, inr, get_or, ◌+◌, ◌-◌, ◌^◌, length, take, drop, refl, ap, sym, ◌∙◌, append_assoc, append-nil, arith}
use Rattle.std.specs.Prelude.{MatchOption, Option, Some, None, unwrap_or}
use Rattle.std.proofs.lemmas.List.{take_all, length-append, take-append-drop}
use Rattle.std.proofs.lemmas.List.Concat.{flat_map-append}
use Rattle.std.proofs.Math.Seq.{drop-append_seam, take-append_seam}
use Rattle.std.specs.Borrow.{Bor}
use Rattle.rx_input.specs.Cursors.{IsLawful, IsNext, piece_of}
use Rattle.rx_input.specs.Chunks.{joined, chunk_at, SameBefore, showing, IsShowing}

abbrev pub Chunks : Type 0
Chunks = List (Bor (List ℕ))

pub chunk_is : (chunks : Chunks) (i : ℕ) (d : Bor (List ℕ)) → i < length chunks → chunk_at chunks i ≡ (get_or chunks i d).now
chunk_is [] i d inside = absurd (omega (arith, inside))
chunk_is (chunk ∷ chunks) zero d inside = refl
chunk_is (chunk ∷ chunks) (suc i) d inside = chunk_is chunks i d (omega (arith, inside))

pub chunk_past : (chunks : Chunks) (i : ℕ) → length chunks ≤ i → chunk_at chunks i ≡ []
chunk_past [] i past = refl
chunk_past (chunk ∷ chunks) zero past = absurd (omega (arith, past))
chunk_past (chunk ∷ chunks) (suc i) past = chunk_past chunks i (omega (arith, past))

-- one more chunk
joined-next : (chunks : Chunks) (i : ℕ) → i < length chunks → joined (take (suc i) chunks) ≡ joined (take i chunks) ++ chunk_at chunks i
joined-next [] i inside = absurd (omega (arith, inside))
joined-next (chunk ∷ chunks) zero inside = append-nil chunk.now
joined-next (chunk ∷ chunks) (suc i) inside = ap (λ xs. chunk.now ++ xs) (joined-next chunks i (omega (arith, inside))) ∙ sym (append_assoc chunk.now (joined (take i chunks)) (chunk_at chunks i))

pub joined-more : (chunks : Chunks) (i : ℕ) → i < length chunks → joined (take (i + 1) chunks) ≡ joined (take i chunks) ++ chunk_at chunks i
joined-more chunks i inside = let e : i + 1 ≡ suc i = omega arith in ap (λ n. joined (take n chunks)) e ∙ joined-next chunks i inside

inside_or : (i n : ℕ) → (i < n) ⊎ (n ≤ i)
inside_or i n = grind arith

pub length-more : (chunks : Chunks) (i : ℕ) → length (joined (take (i + 1) chunks)) ≡ length (joined (take i chunks)) + length (chunk_at chunks i)
length-more chunks i = elim (inside_or i (length chunks)) [
  | inl inside ↦ ap length (joined-more chunks i inside) ∙ length-append (joined (take i chunks)) (chunk_at chunks i)
  | inr past ↦
      let same : length (joined (take (i + 1) chunks)) ≡ length (joined (take i chunks)) = ap (λ cs. length (joined cs)) (take_all (i + 1) chunks (omega (arith, past)) ∙ sym (take_all i chunks past)) in
      omega (arith, same, ap length (chunk_past chunks i past))
]

-- the bytes up to a chunk and those after it
joined-halves : (chunks : Chunks) (i : ℕ) → joined chunks ≡ joined (take i chunks) ++ joined (drop i chunks)
joined-halves chunks i = ap joined (sym (take-append-drop i chunks)) ∙ flat_map-append (λ (c : Bor (List ℕ)). c.now) (take i chunks) (drop i chunks)

pub length-part : (chunks : Chunks) (i : ℕ) → length (joined (take i chunks)) ≤ length (joined chunks)
length-part chunks i = let e : length (joined chunks) ≡ length (joined (take i chunks)) + length (joined (drop i chunks)) = ap length (joined-halves chunks i) ∙ length-append (joined (take i chunks)) (joined (drop i chunks)) in omega (arith, e)

pub joined_all : (chunks : Chunks) (i : ℕ) → length chunks ≤ i → joined (take i chunks) ≡ joined chunks
joined_all chunks i past = ap joined (take_all i chunks past)

-- after the last chunk
pub all_before : (chunks : Chunks) (i from : ℕ) → length chunks ≤ i → SameBefore chunks i from → SameBefore chunks (length chunks) from
all_before chunks i from past same = joined_all chunks (length chunks) (omega arith) ∙ sym (joined_all chunks i past) ∙ same

-- an empty chunk is skipped
no_bytes : (xs : List ℕ) → length xs ≡ 0 → xs ≡ []
no_bytes [] e = refl
no_bytes (x ∷ xs) e = absurd (omega (arith, e))

pub skip : (chunks : Chunks) (i : ℕ) → i < length chunks → length (chunk_at chunks i) ≡ 0 → SameBefore chunks (i + 1) i
skip chunks i inside e = joined-more chunks i inside ∙ ap (λ xs. joined (take i chunks) ++ xs) (no_bytes (chunk_at chunks i) e) ∙ append-nil (joined (take i chunks))

-- the current chunk
pub shown_fits : (chunks : Chunks) (i start total : ℕ) → IsShowing chunks i start total → start + length (chunk_at chunks i) ≤ length (joined chunks)
shown_fits chunks i start total shows = omega (arith, shows.starts, length-more chunks i, length-part chunks (i + 1))

pub shown_lawful : (chunks : Chunks) (i start total : ℕ) → IsShowing chunks i start total → IsLawful (showing chunks i start)
shown_lawful chunks i start total shows = record {
  ordered = omega arith;
  within = shown_fits chunks i start total shows;
  filled = λ e. shows.filled (omega (arith, e));
  bound = omega (arith, shows.total_is, shows.bound);
}

cut : (before piece after : List ℕ) (start : ℕ) → start ≡ length before → take (start + length piece - start) (drop start (before ++ (piece ++ after))) ≡ piece
cut before piece after start e =
    let n : start + length piece - start ≡ length piece = omega arith in
    ap (λ k. take k (drop start (before ++ (piece ++ after)))) n
    ∙ ap (λ k. take (length piece) (drop k (before ++ (piece ++ after)))) e
    ∙ ap (take (length piece)) (drop-append_seam before (piece ++ after))
    ∙ take-append_seam piece after

pub shown_piece : (chunks : Chunks) (i start total : ℕ) → IsShowing chunks i start total → piece_of (showing chunks i start) ≡ chunk_at chunks i
shown_piece chunks i start total shows = elim (inside_or i (length chunks)) [
  | inl inside ↦
      let whole : joined chunks ≡ joined (take i chunks) ++ (chunk_at chunks i ++ joined (drop (i + 1) chunks)) =
      joined-halves chunks (i + 1) ∙ ap (λ xs. xs ++ joined (drop (i + 1) chunks)) (joined-more chunks i inside) ∙ append_assoc (joined (take i chunks)) (chunk_at chunks i) (joined (drop (i + 1) chunks)) in
      ap (λ xs. take (start + length (chunk_at chunks i) - start) (drop start xs)) whole ∙ cut (joined (take i chunks)) (chunk_at chunks i) (joined (drop (i + 1) chunks)) start shows.starts
  | inr past ↦
      let none : chunk_at chunks i ≡ [] = chunk_past chunks i past in
      let nothing : start + length (chunk_at chunks i) - start ≡ 0 = omega (arith, ap length none) in
      ap (λ k. take k (drop start (joined chunks))) nothing ∙ sym none
]

-- the next chunk, and the one before
pub shows_next : (chunks : Chunks) (i j start total : ℕ) → IsShowing chunks i start total → j < length chunks → 0 < length (chunk_at chunks j) → SameBefore chunks j (i + 1) → IsShowing chunks j (start + length (chunk_at chunks i)) total
shows_next chunks i j start total shows inside some same = record {
  inside = omega (arith, inside);
  starts = omega (arith, shows.starts, length-more chunks i, ap length same);
  filled = λ e. absurd (omega (arith, some, e));
  total_is = shows.total_is;
  bound = shows.bound;
}

pub shows_not_last : (chunks : Chunks) (i j start total : ℕ) → IsShowing chunks i start total → 0 < length (chunk_at chunks j) → SameBefore chunks j (i + 1) → start + length (chunk_at chunks i) < length (joined chunks)
shows_not_last chunks i j start total shows some same = omega (arith, shows.starts, length-more chunks i, ap length same, some, length-more chunks j, length-part chunks (j + 1))

pub shows_last : (chunks : Chunks) (i start total : ℕ) → IsShowing chunks i start total → SameBefore chunks (length chunks) (i + 1) → start + length (chunk_at chunks i) ≡ length (joined chunks)
shows_last chunks i start total shows same = omega (arith, shows.starts, length-more chunks i, ap length same, ap length (joined_all chunks (length chunks) (omega arith)))

pub behind_fits : (chunks : Chunks) (i j start total : ℕ) → IsShowing chunks i start total → SameBefore chunks (j + 1) i → length (chunk_at chunks j) ≤ start
behind_fits chunks i j start total shows same = omega (arith, shows.starts, length-more chunks j, ap length same)

pub moves_back : (chunks : Chunks) (i j start total : ℕ) → IsShowing chunks i start total → SameBefore chunks (j + 1) i → IsNext (showing chunks j (start - length (chunk_at chunks j))) (showing chunks i start)
moves_back chunks i j start total shows same = record { same = record { content = refl; is_sized = refl }; meets = omega (arith, behind_fits chunks i j start total shows same) }

pub shows_before : (chunks : Chunks) (i j start total : ℕ) → IsShowing chunks i start total → j < i → 0 < length (chunk_at chunks j) → SameBefore chunks (j + 1) i → IsShowing chunks j (start - length (chunk_at chunks j)) total
shows_before chunks i j start total shows before some same = record {
  inside = omega (arith, before, shows.inside);
  starts = omega (arith, shows.starts, length-more chunks j, ap length same);
  filled = λ e. absurd (omega (arith, some, e));
  total_is = shows.total_is;
  bound = shows.bound;
}

-- of a new cursor
starts_filled : (chunks : Chunks) (j total : ℕ) → total ≡ length (joined chunks) → total < 2 ^ 63 → j < length chunks → 0 < length (chunk_at chunks j) → SameBefore chunks j 0 → IsShowing chunks j 0 total
starts_filled chunks j total is bound inside some same = record { inside = omega (arith, inside); starts = ap length (sym same); filled = λ e. absurd (omega (arith, some, e)); total_is = is; bound = bound }

starts_empty : (chunks : Chunks) (total : ℕ) → total ≡ length (joined chunks) → total < 2 ^ 63 → SameBefore chunks (length chunks) 0 → IsShowing chunks (length chunks) 0 total
starts_empty chunks total is bound same = record { inside = omega arith; starts = ap length (sym same); filled = λ e. sym (joined_all chunks (length chunks) (omega arith)) ∙ same; total_is = is; bound = bound }

pub starts_at : (chunks : Chunks) (total : ℕ) → total ≡ length (joined chunks) → total < 2 ^ 63 → (found : Option ℕ)
    → MatchOption found (SameBefore chunks (length chunks) 0) (λ j. (j < length chunks) × (0 < length (chunk_at chunks j)) × SameBefore chunks j 0) → IsShowing chunks (unwrap_or found (length chunks)) 0 total
starts_at chunks total is bound None same = starts_empty chunks total is bound same
starts_at chunks total is bound (Some j) f = starts_filled chunks j total is bound f.0 f.1 f.2

-- one more chunk is counted
pub counts_more : (chunks : Chunks) (i : ℕ) (d : Bor (List ℕ)) → i < length chunks → length (joined (take i chunks)) + length (get_or chunks i d).now ≤ length (joined chunks)
counts_more chunks i d inside = omega (arith, length-more chunks i, length-part chunks (i + 1), ap length (chunk_is chunks i d inside))
