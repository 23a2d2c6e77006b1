-- A clip of the chunks of a rope has the chunks of a rope.
use Rattle.std.proofs.Common.{◌≡◌, ℕ, zero, suc, ◌+◌, ◌-◌, ◌<◌, ◌≤◌, inl, inr, true, false, ◌&&◌, List, [], ◌∷◌, ◌++◌, length, take, drop, refl, ap, arith, sym, ◌∙◌, subst, length-append, length-take, length-drop}
use Rattle.std.specs.List.{concat}
use Rattle.std.specs.Str.{all_scalars}
use Rattle.std.proofs.lemmas.Bool.{cases_lt, and_parts, and_from}
use Rattle.std.proofs.lemmas.List.{take-append-drop, take_all}
use Rattle.std.proofs.lemmas.Str.{length-le-encodes}
use Rattle.str_indices.specs.Text.{byte_len, cuts_cr_lf, starts_with_lf, ends_with_cr}
use Rattle.ropey_tree.specs.Cutting.{IsPiece, IsCutting, IsRopeText}
use Rattle.ropey_walk.specs.Chunks.{text_of}
use Rattle.ropey_walk.specs.Clips.{between, pieces_from_char, pieces_to_char, clip}
use Rattle.ropey_walk.proofs.Cuts.{byte_len-append, first_piece, rest_cut, bytes-concat, text_fits}
use Rattle.ropey_walk.proofs.Clipping.{from-here, from-past, to-here, text-clip}
use Rattle.ropey_walk.proofs.Counting.{back_whole}

-- scalar values in parts
pub scalars-append : (s t : List ℕ) → all_scalars (s ++ t) ≡ true → (all_scalars s ≡ true) × (all_scalars t ≡ true)
scalars-append [] t h = (refl, h)
scalars-append (c ∷ cs) t h =
    let both = and_parts _ _ h in
    let below = scalars-append cs t both.1 in
    (and_from _ _ both.0 below.0, below.1)

pub scalars-take : (n : ℕ) (t : List ℕ) → all_scalars t ≡ true → all_scalars (take n t) ≡ true
scalars-take n t h = (scalars-append (take n t) (drop n t) (ap all_scalars (take-append-drop n t) ∙ h)).0

pub scalars-drop : (n : ℕ) (t : List ℕ) → all_scalars t ≡ true → all_scalars (drop n t) ≡ true
scalars-drop n t h = (scalars-append (take n t) (drop n t) (ap all_scalars (take-append-drop n t) ∙ h)).1

-- a chunk that isn't empty in bytes isn't empty in characters
pub some_chars : (p : List ℕ) → 1 ≤ byte_len p → 0 < length p
some_chars [] h = absurd (omega (arith, h))
some_chars (c ∷ cs) h = omega arith

piece-take : (n : ℕ) (p : List ℕ) → 0 < n → IsPiece p → IsPiece (take n p)
piece-take n p some h =
    let sum : byte_len p ≡ byte_len (take n p) + byte_len (drop n p) = ap byte_len (sym (take-append-drop n p)) ∙ byte_len-append (take n p) (drop n p) in
    record {
      scalars = scalars-take n p h.scalars;
      not_empty = omega (arith, length-le-encodes (take n p), length-take n p, some, some_chars p h.not_empty);
      not_long = omega (arith, sum, h.not_long);
    }

piece-drop : (n : ℕ) (p : List ℕ) → n < length p → IsPiece p → IsPiece (drop n p)
piece-drop n p inside h =
    let sum : byte_len p ≡ byte_len (take n p) + byte_len (drop n p) = ap byte_len (sym (take-append-drop n p)) ∙ byte_len-append (take n p) (drop n p) in
    record {
      scalars = scalars-drop n p h.scalars;
      not_empty = omega (arith, length-le-encodes (drop n p), length-drop n p, inside);
      not_long = omega (arith, sum, h.not_long);
    }

cut-to : (n : ℕ) (ps : List (List ℕ)) → IsCutting ps → IsCutting (pieces_to_char n ps)
cut-to n [] h = tt
cut-to zero (p ∷ ps) h = tt
cut-to (suc n) (p ∷ []) h = subst IsCutting (sym (to-here (suc n) p [] (omega arith))) (piece-take (suc n) p (omega arith) h)
cut-to (suc n) (p ∷ q ∷ ps) h =
    let some : 0 < suc n = omega arith in
    let one = piece-take (suc n) p some h.0 in
    subst IsCutting (sym (to-here (suc n) p (q ∷ ps) some)) (elim (cases_lt (length p) (suc n)) [
      | inl past ↦
          let m = suc n - length p in
          let all : take (suc n) p ≡ p = take_all (suc n) p (omega (arith, past)) in
          let more : 0 < m = omega (arith, past) in
          let next = to-here m q ps more in
          let rest : IsCutting (take m q ∷ pieces_to_char (m - length q) ps) = subst IsCutting next (cut-to m (q ∷ ps) h.2) in
          let seam : cuts_cr_lf (take (suc n) p) (take m q) ≡ false =
          ap (λ s. cuts_cr_lf s (take m q)) all ∙ ap (λ b. ends_with_cr p && b) (first_of_front m q more (first_piece q ps h.2).not_empty) ∙ h.1 in
          subst (λ (rs : List (List ℕ)). IsCutting (take (suc n) p ∷ rs)) (sym next) (one, seam, rest)
      | inr within ↦
          let none : suc n - length p ≡ 0 = omega (arith, within) in
          subst (λ (rs : List (List ℕ)). IsCutting (take (suc n) p ∷ rs)) (sym (ap (λ k. pieces_to_char k (q ∷ ps)) none)) one
    ])
  where
    first_of_front : (m : ℕ) (q : List ℕ) → 0 < m → 1 ≤ byte_len q → starts_with_lf (take m q) ≡ starts_with_lf q
    first_of_front zero q more some = absurd (omega (arith, more))
    first_of_front (suc m) [] more some = refl
    first_of_front (suc m) (c ∷ cs) more some = refl

cut-from : (n : ℕ) (ps : List (List ℕ)) → IsCutting ps → IsCutting (pieces_from_char n ps)
cut-from n [] h = tt
cut-from n (p ∷ []) h = elim (cases_lt n (length p)) [
  | inl here ↦ subst IsCutting (sym (from-here n p [] here)) (piece-drop n p here h)
  | inr past ↦ subst IsCutting (sym (from-past n p [] past)) tt
]
cut-from n (p ∷ q ∷ ps) h = elim (cases_lt n (length p)) [
  | inl here ↦ subst IsCutting (sym (from-here n p (q ∷ ps) here)) (piece-drop n p here h.0, back_whole n p q h.1, h.2)
  | inr past ↦ subst IsCutting (sym (from-past n p (q ∷ ps) past)) (cut-from (n - length p) (q ∷ ps) h.2)
]

pub cut-clip : (a e : ℕ) (ps : List (List ℕ)) → IsCutting ps → IsCutting (clip a e ps)
cut-clip a e ps h = cut-from a (pieces_to_char e ps) (cut-to e ps h)

bytes-part : (a e : ℕ) (t : List ℕ) → byte_len (between a e t) ≤ byte_len t
bytes-part a e t =
    omega (
      arith,
      ap byte_len (sym (take-append-drop e t)) ∙ byte_len-append (take e t) (drop e t),
      ap byte_len (sym (take-append-drop a (take e t))) ∙ byte_len-append (take a (take e t)) (between a e t),
    )

pub text-is : (a e : ℕ) (ps : List (List ℕ)) → IsRopeText ps → IsRopeText (clip a e ps)
text-is a e ps h = record {
  cut = cut-clip a e ps h.cut;
  fits = omega (arith, bytes-concat (clip a e ps), ap byte_len (text-clip a e ps), bytes-part a e (text_of ps), text_fits ps h);
}

-- the clip of all
pub clip-all : (ps : List (List ℕ)) → IsCutting ps → clip 0 (length (text_of ps)) ps ≡ ps
clip-all ps h = ap (pieces_from_char 0) (to-all ps h) ∙ from-none ps h
  where
    to-all : (ps : List (List ℕ)) → IsCutting ps → pieces_to_char (length (text_of ps)) ps ≡ ps
    to-all [] h = refl
    to-all (p ∷ ps) h =
        let sum = length-append p (concat ps) in
        let n = length (text_of (p ∷ ps)) in
        let rest : n - length p ≡ length (concat ps) = omega (arith, sum) in
        to-here n p ps (omega (arith, sum, some_chars p (first_piece p ps h).not_empty)) ∙ ap (λ q. q ∷ pieces_to_char (n - length p) ps) (take_all n p (omega (arith, sum)))
        ∙ ap (λ k. p ∷ pieces_to_char k ps) rest ∙ ap (λ qs. p ∷ qs) (to-all ps (rest_cut p ps h))

    from-none : (ps : List (List ℕ)) → IsCutting ps → pieces_from_char 0 ps ≡ ps
    from-none [] h = refl
    from-none (p ∷ ps) h = from-here 0 p ps (some_chars p (first_piece p ps h).not_empty)
