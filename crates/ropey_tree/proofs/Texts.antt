-- The counts of a text that is cut into leaf texts.
use Rattle.std.proofs.Common.{◌≡◌, ℕ, ◌+◌, ◌≤◌, false, cond, ◌&&◌, List, [], ◌∷◌, ◌++◌, length, refl, ap, arith, sym, ◌∙◌, length-append, zero-add}
use Rattle.std.proofs.lemmas.List.{append-nil}
use Rattle.std.proofs.lemmas.Str.{encodes-append}
use Rattle.std.specs.List.{concat}
use Rattle.str_indices.specs.Text.{breaks, units, starts_with_lf, byte_len, ends_with_cr}
use Rattle.str_indices.specs.Laws.{LosesBreakInCrLf, AddsUp}
use Rattle.ropey_tree.specs.Breaks.{is_break}
use Rattle.ropey_tree.specs.Counts.{total, plus, counts_of}
use Rattle.ropey_tree.specs.Cutting.{IsPiece, IsCutting, cuts_cr_lf}
use Rattle.ropey_tree.proofs.Totals.{total-append}

pub byte_len-append : (s t : List ℕ) → byte_len (s ++ t) ≡ byte_len s + byte_len t
byte_len-append s t = ap length (encodes-append s t) ∙ length-append _ _

starts-append : (p t : List ℕ) → 1 ≤ byte_len p → starts_with_lf (p ++ t) ≡ starts_with_lf p
starts-append [] t h = absurd (omega arith)
starts-append (c ∷ cs) t h = refl

first_piece : (q : List ℕ) (ps : List (List ℕ)) → IsCutting (q ∷ ps) → IsPiece q
first_piece q [] h = h
first_piece q (p ∷ ps) h = h.0

pub total-one : (p : List ℕ) → total (p ∷ []) ≡ counts_of p
total-one p =
    let b = zero-add (byte_len p) in
    let c = zero-add (length p) in
    let u = zero-add (units p) in
    let l = zero-add (breaks is_break p) in
    cc

module _ (lines : LosesBreakInCrLf is_break) (adds : AddsUp units) where
  -- two texts with no CR LF across them
  counts-append : (s t : List ℕ) → cuts_cr_lf s t ≡ false → counts_of (s ++ t) ≡ plus (counts_of s) (counts_of t)
  counts-append s t h =
      let joined = lines s t in
      let none : breaks is_break (s ++ t) + cond (cuts_cr_lf s t) 1 0 ≡ breaks is_break (s ++ t) = ap (λ b. breaks is_break (s ++ t) + cond b 1 0) h ∙ omega arith in
      let b = byte_len-append s t in
      let c = length-append s t in
      let u = adds s t in
      let l : breaks is_break (s ++ t) ≡ breaks is_break s + breaks is_break t = sym none ∙ joined in
      cc

  pub total-concat : (ps : List (List ℕ)) → IsCutting ps → total ps ≡ counts_of (concat ps)
  total-concat [] h = refl
  total-concat (p ∷ []) h = total-one p ∙ sym (ap counts_of (append-nil p))
  total-concat (p ∷ q ∷ ps) h =
      let rest = total-concat (q ∷ ps) h.2 in
      let same : cuts_cr_lf p (concat (q ∷ ps)) ≡ false = ap (λ b. ends_with_cr p && b) (starts-append q (concat ps) (first_piece q ps h.2).not_empty) ∙ h.1 in
      let whole = counts-append p (concat (q ∷ ps)) same in
      let front = total-append (p ∷ []) (q ∷ ps) in
      front ∙ ap (λ c. plus c (total (q ∷ ps))) (total-one p) ∙ ap (plus (counts_of p)) rest ∙ sym whole
