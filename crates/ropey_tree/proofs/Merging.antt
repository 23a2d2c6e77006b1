-- Texts joined with a leaf for their seam.
use Rattle.std.proofs.Common.{◌≡◌, ℕ, ◌+◌, ◌<◌, ◌≤◌, Bool, true, false, ◌&&◌, ◌⊎◌, inl, inr, List, [], ◌∷◌, ◌++◌, take, drop, refl, ap, arith, sym, ◌∙◌, append_assoc}
use Rattle.std.specs.Prelude.{◌^◌}
use Rattle.std.specs.List.{concat}
use Rattle.std.specs.Str.{chars, IsUtf8, IsCharBoundary}
use Rattle.std.proofs.lemmas.List.{append-nil, take-append-drop}
use Rattle.std.proofs.lemmas.List.Folds.{concat-append}
use Rattle.std.proofs.lemmas.Str.{chars-append, IsUtf8-take}
use Rattle.str_indices.specs.Text.{starts_with_lf, byte_len, ends_with_cr}
use Rattle.ropey_tree.specs.declared.counts.Counts.{Counts}
use Rattle.ropey_tree.specs.declared.counts.By.TheVariants.{Bytes}
use Rattle.ropey_tree.specs.Counts.{total}
use Rattle.ropey_tree.specs.Cutting.{IsCutting, IsRopeText, IsBoundaryOf, cuts_cr_lf}
use Rattle.ropey_tree.specs.Nodes.{LiesIn}
use Rattle.ropey_tree.specs.Splits.{IsSplit}
use Rattle.ropey_tree.specs.Seams.{StandsBetween}
use Rattle.ropey_tree.proofs.Texts.{byte_len-append}
use Rattle.ropey_tree.proofs.Pieces.{cut-left}
use Rattle.ropey_tree.proofs.Splitting.{bytes-concat, byte_len-some, starts-append, ends-append}
use Rattle.ropey_tree.proofs.Editing.{front_bytes}
use Rattle.ropey_tree.proofs.Ends.{ends_at_cr, lf_front, and_false}
use Rattle.ropey_tree.proofs.OverSeams.{cr_lf, no_text, text-append, same_front, one_byte, last_leaf_parts, first_leaf_parts, some_text}

-- ---- no CR LF spans the start of the last leaf text
whole_before : (ps : List (List ℕ)) (q : List ℕ) → IsCutting (ps ++ q ∷ []) → cuts_cr_lf (concat ps) q ≡ false
whole_before [] q h = refl
whole_before (p ∷ []) q h = ap (λ t. ends_with_cr t && starts_with_lf q) (append-nil p) ∙ h.1
whole_before (p ∷ r ∷ ps) q h = ap (λ b. b && starts_with_lf q) (ends-append p (concat (r ∷ ps)) (some_text r ps (cut-left (r ∷ ps) (q ∷ []) h.2))) ∙ whole_before (r ∷ ps) q h.2

-- ---- the text between two leaves: CR LF, or the end of the one and the start of the other
pub cr_lf_between : (a b : List ℕ) (at : ℕ) → ends_with_cr a ≡ true → starts_with_lf b ≡ true → at + 1 ≡ byte_len a → StandsBetween (a ∷ []) at cr_lf (b ∷ []) 1
cr_lf_between a b at h g len =
    let cr = ends_at_cr a h in
    let lf = lf_front b g in
    record {
      front = cr.0;
      last = 13 ∷ [];
      first = 10 ∷ [];
      back = lf.0;
      left_is = append-nil a ∙ cr.1;
      right_is = append-nil b ∙ lf.1;
      middle_is = refl;
      place = omega (arith, len, ap byte_len cr.1, byte_len-append cr.0 (13 ∷ []), one_byte 13 (omega arith));
      place_right = one_byte 10 (omega arith);
      whole_left = and_false (ends_with_cr cr.0) false refl;
    }

cut_in_two : (bytes text : List ℕ) (at : ℕ) → IsUtf8 bytes → chars bytes ≡ text → IsCharBoundary bytes at → text ≡ chars (take at bytes) ++ chars (drop at bytes)
cut_in_two bytes text at u is boundary = sym is ∙ ap chars (sym (take-append-drop at bytes)) ∙ chars-append (take at bytes) (drop at bytes) (IsUtf8-take bytes at u boundary)

pub over_between : (last first a b : List ℕ) (from to : ℕ) (leaf : List ℕ) → IsUtf8 last → IsUtf8 first → chars last ≡ a → chars first ≡ b → IsCharBoundary last from → IsCharBoundary first to
    → leaf ≡ chars (drop from last) ++ chars (take to first) → cuts_cr_lf (chars (take from last)) (chars (drop from last) ++ chars (take to first)) ≡ false → StandsBetween (a ∷ []) from leaf (b ∷ []) to
over_between last first a b from to leaf u v a_is b_is starts ends is whole = record {
  front = chars (take from last);
  last = chars (drop from last);
  first = chars (take to first);
  back = chars (drop to first);
  left_is = append-nil a ∙ cut_in_two last a from u a_is starts;
  right_is = append-nil b ∙ cut_in_two first b to v b_is ends;
  middle_is = is;
  place = front_bytes last from u starts;
  place_right = front_bytes first to v ends;
  whole_left = ap (λ t. ends_with_cr (chars (take from last)) && starts_with_lf t) is ∙ whole;
}

-- a text that is cut up to `room`, if no CR ends a start that fills it, and no LF follows one that
-- doesn't
pub whole_cut : (front back rest : List ℕ) (n room : ℕ) → 1 ≤ byte_len back → 1 ≤ room → (n < room) ⊎ ((n ≡ 0) ⊎ (ends_with_cr front ≡ false)) → (starts_with_lf back ≡ true → n ≡ room)
    → cuts_cr_lf front (back ++ rest) ≡ false
whole_cut front back rest n room more some cr lf = ap (λ b. ends_with_cr front && b) (starts-append back rest more) ∙ cut (starts_with_lf back) lf
  where
    cut : (b : Bool) → (b ≡ true → n ≡ room) → (ends_with_cr front && b) ≡ false
    cut false h = and_false (ends_with_cr front) false refl
    cut true h = elim cr [
      | inl low ↦ absurd (omega (arith, low, h refl))
      | inr e ↦ elim e [
        | inl none ↦ absurd (omega (arith, none, h refl, some))
        | inr plain ↦ ap (λ c. c && true) plain
      ]
    ]

-- ---- the text between the last leaf of a text and the first of another is between the texts
some_front : (start front mid : List ℕ) → cuts_cr_lf front mid ≡ false → (byte_len front ≡ 0 → cuts_cr_lf start mid ≡ false) → cuts_cr_lf (start ++ front) mid ≡ false
some_front start [] mid h g = ap (λ t. ends_with_cr t && starts_with_lf mid) (append-nil start) ∙ g refl
some_front start (c ∷ cs) mid h g = ap (λ b. b && starts_with_lf mid) (ends-append start (c ∷ cs) (omega (arith, byte_len-some c cs))) ∙ h

pub leaves_between : (ps qs : List (List ℕ)) (a b mid : List ℕ) (i at from to : ℕ) (before before_b : Counts) → LiesIn ps (a ∷ []) Bytes i before → (total ps).bytes ≤ i → LiesIn qs (b ∷ []) Bytes 0 before_b
    → IsRopeText ps → 1 ≤ byte_len a → at + byte_len a ≡ (total ps).bytes → StandsBetween (a ∷ []) from mid (b ∷ []) to → StandsBetween ps (at + from) mid qs to
leaves_between ps qs a b mid i at from to before before_b h past g p_is some len between =
    let l = last_leaf_parts ps a i before h past in
    let r = first_leaf_parts qs b before_b g in
    let cut_l : IsCutting (h.left ++ a ∷ []) = rw l.0 at p_is.cut in
    let start = concat h.left in
    let a_is : a ≡ between.front ++ between.last = sym (append-nil a) ∙ between.left_is in
    let b_is : b ≡ between.first ++ between.back = sym (append-nil b) ∙ between.right_is in
    let whole : byte_len between.front ≡ 0 → cuts_cr_lf start mid ≡ false = λ none.
    let gone = no_text between.front (omega (arith, none)) in
    let a_last : a ≡ between.last = a_is ∙ ap (λ t. t ++ between.last) gone in
    let mid_is : mid ≡ a ++ between.first = between.middle_is ∙ ap (λ t. t ++ between.first) (sym a_last) in
    ap (λ t. ends_with_cr start && starts_with_lf t) mid_is ∙ ap (λ c. ends_with_cr start && c) (starts-append a between.first some) ∙ whole_before h.left a cut_l in
    record {
      front = start ++ between.front;
      last = between.last;
      first = between.first;
      back = between.back ++ concat g.right;
      left_is = l.1 ∙ ap (λ t. start ++ t) a_is ∙ sym (append_assoc start between.front between.last);
      right_is = r ∙ ap (λ t. t ++ concat g.right) b_is ∙ append_assoc between.first between.back (concat g.right);
      middle_is = between.middle_is;
      place = omega (arith, len, bytes-concat ps, ap byte_len l.1, byte_len-append start a, byte_len-append start between.front, between.place);
      place_right = between.place_right;
      whole_left = some_front start between.front mid between.whole_left whole;
    }

-- ---- the start of the one, and after it the text between and the end of the other
module _ (ps qs : List (List ℕ)) (mid : List ℕ) (at from : ℕ) (b : StandsBetween ps at mid qs from) where
  pub left_boundary : IsBoundaryOf (concat ps) at
  left_boundary = record { front = b.front; back = b.last; parts = b.left_is; place = b.place }

  pub right_boundary : IsBoundaryOf (concat qs) from
  right_boundary = record { front = b.first; back = b.back; parts = b.right_is; place = b.place_right }

  module _ (l x y r : List (List ℕ)) (some : 1 ≤ from) (fits : (total ps).bytes + (total qs).bytes < 2 ^ 63) (left : IsSplit ps at l x) (right : IsSplit qs from y r) where
    front_is : concat l ≡ b.front
    front_is = (same_front (concat l) (concat x) b.front b.last (left.text ∙ b.left_is) (omega (arith, bytes-concat l, left.place, b.place))).0

    back_is : concat r ≡ b.back
    back_is = (same_front (concat y) (concat r) b.first b.back (right.text ∙ b.right_is) (omega (arith, bytes-concat y, right.place, b.place_right))).1

    pub shorter : (total r).bytes < (total qs).bytes
    shorter = omega (arith, bytes-concat r, bytes-concat qs, ap byte_len back_is, ap byte_len b.right_is, byte_len-append b.first b.back, b.place_right, some)

    all_bytes : (total l).bytes + byte_len mid + (total r).bytes ≡ (total ps).bytes + (total qs).bytes
    all_bytes = omega (
      arith,
      bytes-concat l,
      bytes-concat r,
      bytes-concat ps,
      bytes-concat qs,
      ap byte_len front_is,
      ap byte_len back_is,
      ap byte_len b.left_is,
      ap byte_len b.right_is,
      ap byte_len b.middle_is,
      byte_len-append b.front b.last,
      byte_len-append b.first b.back,
      byte_len-append b.last b.first,
    )

    pub rest_fits : byte_len mid + (total r).bytes < 2 ^ 63
    rest_fits = omega (arith, all_bytes, fits)

    mid_some : 1 ≤ byte_len mid
    mid_some = omega (arith, ap byte_len b.middle_is, byte_len-append b.last b.first, b.place_right, some)

    module _ (bs : List (List ℕ)) (p_is : IsRopeText ps) (bs_is : IsRopeText bs) (joined : concat bs ≡ mid ++ concat r) where
      pub whole_text : IsRopeText (l ++ bs)
      whole_text =
          let starts : starts_with_lf (concat bs) ≡ starts_with_lf mid = ap starts_with_lf joined ∙ starts-append mid (concat r) mid_some in
          let whole : cuts_cr_lf (concat l) (concat bs) ≡ false = ap (λ t. ends_with_cr t && starts_with_lf (concat bs)) front_is ∙ ap (λ c. ends_with_cr b.front && c) starts ∙ b.whole_left in
          text-append l bs (left.after [] p_is) bs_is whole (omega (arith, bytes-concat bs, ap byte_len joined, byte_len-append mid (concat r), bytes-concat r, all_bytes, fits))

      pub whole_concat : concat (l ++ bs) ≡ concat ps ++ concat qs
      whole_concat =
          concat-append l bs ∙ ap (λ t. concat l ++ t) joined ∙ ap (λ t. t ++ (mid ++ concat r)) front_is ∙ ap (λ t. b.front ++ (mid ++ t)) back_is ∙ ap (λ t. b.front ++ (t ++ b.back)) b.middle_is
          ∙ regroup b.front b.last b.first b.back ∙ ap (λ t. t ++ (b.first ++ b.back)) (sym b.left_is) ∙ ap (λ t. concat ps ++ t) (sym b.right_is)
        where
          regroup : (s t u v : List ℕ) → s ++ ((t ++ u) ++ v) ≡ (s ++ t) ++ (u ++ v)
          regroup s t u v = simp append_assoc
