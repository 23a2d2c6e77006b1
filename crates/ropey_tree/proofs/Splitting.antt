-- Texts before and after an offset.
use Rattle.std.proofs.Common.{◌≡◌, ℕ, ◌+◌, ◌-◌, ◌<◌, ◌≤◌, ◌⊎◌, Bool, true, false, ◌&&◌, inl, inr, List, [], ◌∷◌, ◌++◌, length, take, drop, take-append-drop, get_or, refl, ap, arith, sym, ◌∙◌, subst, append_assoc, length-append}
use Rattle.std.specs.Prelude.{encode_utf8_all}
use Rattle.std.specs.List.{concat}
use lib.Utf8.{scalar}
use Rattle.std.specs.Str.{all_scalars, chars, IsCharBoundary}
use Rattle.std.proofs.lemmas.List.{append-nil, append_cancel_left}
use Rattle.std.proofs.lemmas.List.Elements.{All-get_or}
use Rattle.std.proofs.lemmas.Grind.{common_steps}
use Rattle.std.specs.Prelude.{slice_range}
use Rattle.std.proofs.Math.Seq.{take-append_seam, drop-append_seam, take-length}
use Rattle.std.proofs.lemmas.List.Folds.{concat-append}
use Rattle.std.proofs.lemmas.List.Sums.{sum_by-cons}
use Rattle.std.proofs.lemmas.Str.{encodes-append, length-le-encodes, chars-encodes, IsCharBoundary-at_seam}
use Rattle.str_indices.specs.Text.{starts_with_lf, byte_len, ends_with_cr}
use Rattle.ropey_tree.specs.Counts.{total}
use Rattle.ropey_tree.specs.Cutting.{IsPiece, IsCutting, IsRopeText, IsBoundaryOf}
use Rattle.ropey_tree.specs.NodeView.{NodeView}
use Rattle.ropey_tree.specs.Nodes.{all_pieces, inner_view, IsInner, IsNodeOf}
use Rattle.ropey_tree.proofs.InRow.{all_pieces-parts, all_pieces-take_more, all_pieces-append}
use Rattle.ropey_tree.specs.Splits.{IsSplit}
use Rattle.ropey_tree.proofs.Texts.{byte_len-append}
use Rattle.ropey_tree.proofs.Pieces.{bytes-append, text-left, text-right}

-- the bytes of leaf texts are those of their text
pub bytes-concat : (ps : List (List ℕ)) → (total ps).bytes ≡ byte_len (concat ps)
bytes-concat [] = refl
bytes-concat (p ∷ ps) = sum_by-cons byte_len p ps ∙ ap (λ n. byte_len p + n) (bytes-concat ps) ∙ sym (byte_len-append p (concat ps))

pub byte_len-some : (c : ℕ) (cs : List ℕ) → 1 ≤ byte_len (c ∷ cs)
byte_len-some c cs = let few = length-le-encodes (c ∷ cs) in omega arith

-- if a text is cut in two in two ways, the longer start begins with the shorter
pub record Between (front back short rest : List ℕ) : Type 0 where
  pub mid : List ℕ
  pub front_is : front ≡ short ++ mid
  pub rest_is : rest ≡ mid ++ back

tails : (x y : ℕ) (xs ys : List ℕ) → x ∷ xs ≡ y ∷ ys → (x ≡ y) × (xs ≡ ys)
tails x y xs ys e = (cc, cc)

pub between : (front back short rest : List ℕ) → front ++ back ≡ short ++ rest → byte_len short ≤ byte_len front → Between front back short rest
between front back [] rest e le = record { mid = front; front_is = refl; rest_is = sym e }
between [] back (x ∷ short) rest e le = absurd (omega (arith, byte_len-some x short))
between (y ∷ front) back (x ∷ short) rest e le =
    let t = tails y x (front ++ back) (short ++ rest) e in
    let ys = byte_len-append (y ∷ []) front in
    let xs = byte_len-append (x ∷ []) short in
    let same : byte_len (y ∷ []) ≡ byte_len (x ∷ []) = ap (λ c. byte_len (c ∷ [])) t.0 in
    let below = between front back short rest t.1 (omega arith) in
    record { mid = below.mid; front_is = ap (λ c. c ∷ front) t.0 ∙ ap (λ cs. x ∷ cs) below.front_is; rest_is = below.rest_is }

-- a boundary of a text is a boundary of the part that contains it
pub inner_boundary : (a c b : List (List ℕ)) (at : ℕ) → IsBoundaryOf (concat (a ++ c ++ b)) at → (total a).bytes ≤ at → at ≤ (total (a ++ c)).bytes → IsBoundaryOf (concat c) (at - (total a).bytes)
inner_boundary a c b at h low high =
    let whole : concat (a ++ c ++ b) ≡ concat a ++ (concat c ++ concat b) = concat-append (a ++ c) b ∙ ap (λ t. t ++ concat b) (concat-append a c) ∙ append_assoc (concat a) (concat c) (concat b) in
    let parts : h.front ++ h.back ≡ concat a ++ (concat c ++ concat b) = sym h.parts ∙ whole in
    let first = between h.front h.back (concat a) (concat c ++ concat b) parts (omega (arith, bytes-concat a, h.place)) in
    let sums = ap byte_len first.front_is ∙ byte_len-append (concat a) first.mid in
    let second = between (concat c) (concat b) first.mid h.back first.rest_is (omega (arith, sums, h.place, bytes-concat a, bytes-append a c, bytes-concat c)) in
    record { front = first.mid; back = second.mid; parts = second.front_is; place = omega (arith, sums, h.place, bytes-concat a) }

-- no boundary of a text is past its end
pub boundary-le : (ps : List (List ℕ)) (at : ℕ) → IsBoundaryOf (concat ps) at → at ≤ (total ps).bytes
boundary-le ps at h = omega (arith, bytes-concat ps, ap byte_len h.parts, byte_len-append h.front h.back, h.place)

-- the halves of a part, with the text on both sides of it
pub split_around : (a c b l r : List (List ℕ)) (at : ℕ) → (total a).bytes ≤ at → IsSplit c (at - (total a).bytes) l r → IsSplit (a ++ c ++ b) at (a ++ l) (r ++ b)
split_around a c b l r at low h = record {
  text = ap (λ t. t ++ concat (r ++ b)) (concat-append a l) ∙ ap (λ t. concat a ++ concat l ++ t) (concat-append r b) ∙ regroup (concat a) (concat l) (concat r) (concat b)
      ∙ ap (λ t. concat a ++ t ++ concat b) h.text ∙ ap (λ t. t ++ concat b) (sym (concat-append a c)) ∙ sym (concat-append (a ++ c) b);
  place = omega (arith, bytes-append a l, h.place);
  after = λ xs text. rw (← append_assoc xs a l) (h.after (xs ++ a) (text-left (xs ++ a ++ c) b (rw (← append_assoc xs (a ++ c) b, ← append_assoc xs a c) at text)));
  before = λ ys text. rw append_assoc (h.before (b ++ ys) (text-right a (c ++ (b ++ ys)) (rw (append_assoc (a ++ c) b ys, append_assoc a c (b ++ ys)) at text)));
}
  where
    regroup : (s t u v : List ℕ) → (s ++ t) ++ (u ++ v) ≡ s ++ (t ++ u) ++ v
    regroup s t u v = simp append_assoc

-- ---- a leaf text in two
pub starts-append : (s t : List ℕ) → 1 ≤ byte_len s → starts_with_lf (s ++ t) ≡ starts_with_lf s
starts-append [] t h = absurd (omega arith)
starts-append (c ∷ cs) t h = refl

pub ends-append : (s t : List ℕ) → 1 ≤ byte_len t → ends_with_cr (s ++ t) ≡ ends_with_cr t
ends-append [] t h = refl
ends-append (c ∷ []) [] h = absurd (omega arith)
ends-append (c ∷ []) (d ∷ t) h = refl
ends-append (c ∷ d ∷ s) t h = ends-append (d ∷ s) t h

both_true : (a b : Bool) → (a && b) ≡ true → (a ≡ true) × (b ≡ true)
both_true true b h = (refl, h)
both_true false b h = (h, cc)

both : (a b : Bool) → a ≡ true → b ≡ true → (a && b) ≡ true
both true b p q = q
both false b p q = p

pub scalars-both : (s t : List ℕ) → all_scalars (s ++ t) ≡ true → (all_scalars s ≡ true) × (all_scalars t ≡ true)
scalars-both [] t h = (refl, h)
scalars-both (c ∷ s) t h =
    let first = both_true (scalar c) (all_scalars (s ++ t)) h in
    let rest = scalars-both s t first.1 in
    (both (scalar c) (all_scalars s) first.0 rest.0, rest.1)

pub piece_front : (s t : List ℕ) → IsPiece (s ++ t) → 1 ≤ byte_len s → IsPiece s
piece_front s t h some = record { scalars = (scalars-both s t h.scalars).0; not_empty = some; not_long = omega (arith, byte_len-append s t, h.not_long) }

pub piece_back : (s t : List ℕ) → IsPiece (s ++ t) → 1 ≤ byte_len t → IsPiece t
piece_back s t h some = record { scalars = (scalars-both s t h.scalars).1; not_empty = some; not_long = omega (arith, byte_len-append s t, h.not_long) }

cut_front : (s t : List ℕ) → 1 ≤ byte_len s → (xs : List (List ℕ)) → IsCutting (xs ++ (s ++ t) ∷ []) → IsCutting (xs ++ s ∷ [])
cut_front s t some [] h = piece_front s t h some
cut_front s t some (x ∷ []) h = (h.0, ap (λ b. ends_with_cr x && b) (sym (starts-append s t some)) ∙ h.1, piece_front s t h.2 some)
cut_front s t some (x ∷ y ∷ xs) h = (h.0, h.1, cut_front s t some (y ∷ xs) h.2)

cut_back : (s t : List ℕ) → 1 ≤ byte_len t → (ys : List (List ℕ)) → IsCutting ((s ++ t) ∷ ys) → IsCutting (t ∷ ys)
cut_back s t some [] h = piece_back s t h some
cut_back s t some (y ∷ ys) h = (piece_back s t h.0 some, ap (λ b. b && starts_with_lf y) (sym (ends-append s t some)) ∙ h.1, h.2)

pub piece_split : (s t : List ℕ) → 1 ≤ byte_len s → 1 ≤ byte_len t → IsSplit ((s ++ t) ∷ []) (byte_len s) (s ∷ []) (t ∷ [])
piece_split s t some some_back = record {
  text = ap (λ u. u ++ (t ++ [])) (append-nil s) ∙ ap (λ u. s ++ u) (append-nil t) ∙ sym (append-nil (s ++ t));
  place = sum_by-cons byte_len s [] ∙ omega arith;
  after = λ xs text. record { cut = cut_front s t some xs text.cut; fits = omega (arith, text.fits, bytes-append xs (s ∷ []), bytes-append xs ((s ++ t) ∷ []), sum_by-cons byte_len s [], sum_by-cons byte_len (s ++ t) [], byte_len-append s t) };
  before = λ ys text. record { cut = cut_back s t some_back ys text.cut; fits = omega (arith, text.fits, sum_by-cons byte_len t ys, sum_by-cons byte_len (s ++ t) ys, byte_len-append s t) };
}

-- an offset at the start
pub split_start : (ps : List (List ℕ)) → IsSplit ps 0 [] ps
split_start ps = record { text = refl; place = refl; after = λ xs text. text-left (xs ++ []) ps (rw append-nil text); before = λ ys text. text }

pub split_end : (ps : List (List ℕ)) (at : ℕ) → at ≡ (total ps).bytes → IsSplit ps at ps []
split_end ps at e = record { text = append-nil (concat ps); place = sym e; after = λ xs text. text; before = λ ys text. text-right ps ys text }

-- ---- the bytes of a leaf text in two
pub record LeafParts (bytes front back : List ℕ) (at : ℕ) : Type 0 where
  pub boundary : IsCharBoundary bytes at
  pub front_is : chars (take at bytes) ≡ front
  pub back_is : chars (drop at bytes) ≡ back
  pub len : length bytes ≡ at + byte_len back

pub leaf_parts : (bytes leaf : List ℕ) (at : ℕ) → bytes ≡ encode_utf8_all leaf → IsPiece leaf → (h : IsBoundaryOf leaf at) → LeafParts bytes h.front h.back at
leaf_parts bytes leaf at is piece h =
    let parts : bytes ≡ encode_utf8_all h.front ++ encode_utf8_all h.back = is ∙ ap encode_utf8_all h.parts ∙ encodes-append h.front h.back in
    let scalars = scalars-both h.front h.back (rw h.parts at piece.scalars) in
    let seam = IsCharBoundary-at_seam bytes (encode_utf8_all h.front) (encode_utf8_all h.back) parts (h.back, (scalars.1, refl)) in
    let Front : ℕ → Type 0 = λ n. IsCharBoundary bytes n in
    record {
      boundary = subst Front h.place seam;
      front_is = ap (λ bs. chars (take at bs)) parts ∙ ap (λ n. chars (take n (encode_utf8_all h.front ++ encode_utf8_all h.back))) (sym h.place) ∙ ap chars (take-append_seam (encode_utf8_all h.front) (encode_utf8_all h.back)) ∙ chars-encodes h.front scalars.0;
      back_is = ap (λ bs. chars (drop at bs)) parts ∙ ap (λ n. chars (drop n (encode_utf8_all h.front ++ encode_utf8_all h.back))) (sym h.place) ∙ ap chars (drop-append_seam (encode_utf8_all h.front) (encode_utf8_all h.back)) ∙ chars-encodes h.back scalars.1;
      len = ap length parts ∙ length-append (encode_utf8_all h.front) (encode_utf8_all h.back) ∙ ap (λ n. n + byte_len h.back) h.place;
    }

pub slice_front : (bytes : List ℕ) (at : ℕ) → slice_range bytes 0 at ≡ take at bytes
slice_front bytes at = grind (arith, common_steps)

-- ---- a node in two, by the child that contains the offset
module _ (v : NodeView) (vs : List NodeView) (k : ℕ) (c : NodeView) (at : ℕ) (v_is : v ≡ inner_view v.height vs) (inner : IsInner v.height vs) (text : IsRopeText v.pieces)
    (within : k < length vs) (is : c ≡ get_or vs k c) (boundary : IsBoundaryOf (concat v.pieces) at) (not_past : (total (all_pieces (take k vs))).bytes ≤ at)
    (passed : (at < (total (all_pieces (take (k + 1) vs))).bytes) ⊎ (k + 1 ≡ length vs)) where
  child_parts : v.pieces ≡ all_pieces (take k vs) ++ c.pieces ++ all_pieces (drop (k + 1) vs)
  child_parts = ap (λ w. w.pieces) v_is ∙ all_pieces-parts vs k c within ∙ ap (λ w. all_pieces (take k vs) ++ w.pieces ++ all_pieces (drop (k + 1) vs)) (sym is)

  front_and_child : all_pieces (take (k + 1) vs) ≡ all_pieces (take k vs) ++ c.pieces
  front_and_child = all_pieces-take_more vs k c within ∙ ap (λ w. all_pieces (take k vs) ++ w.pieces) (sym is)

  through : at ≤ (total (all_pieces (take k vs) ++ c.pieces)).bytes
  through = elim passed [
    | inl p ↦ omega (arith, p, ap (λ ps. (total ps).bytes) front_and_child)
    | inr e ↦
        let whole : all_pieces (take k vs) ++ c.pieces ≡ v.pieces = sym front_and_child ∙ ap (λ n. all_pieces (take n vs)) e ∙ ap all_pieces (take-length vs) ∙ sym (ap (λ w. w.pieces) v_is) in
        omega (arith, boundary-le v.pieces at boundary, ap (λ ps. (total ps).bytes) whole)
  ]

  pub child_boundary : IsBoundaryOf (concat c.pieces) (at - (total (all_pieces (take k vs))).bytes)
  child_boundary = inner_boundary (all_pieces (take k vs)) c.pieces (all_pieces (drop (k + 1) vs)) at (rw child_parts at boundary) not_past through

  pub child_falls : c.height < v.height
  child_falls =
      let node = All-get_or (IsNodeOf inner.below 12) vs k c within inner.nodes in
      omega (arith, node.level, ap (λ w. w.height) is, inner.level)

  pub node_split : (l r : List (List ℕ)) → IsSplit c.pieces (at - (total (all_pieces (take k vs))).bytes) l r → IsSplit v.pieces at (all_pieces (take k vs) ++ l) (r ++ all_pieces (drop (k + 1) vs))
  node_split l r h = rw child_parts (split_around (all_pieces (take k vs)) c.pieces (all_pieces (drop (k + 1) vs)) l r at not_past h)

  pub node_split_left : (l r : List (List ℕ)) → IsSplit c.pieces (at - (total (all_pieces (take k vs))).bytes) l r → IsRopeText (all_pieces (take k vs) ++ l)
  node_split_left l r h = (node_split l r h).after [] text

  pub node_split_right : (l r : List (List ℕ)) → IsSplit c.pieces (at - (total (all_pieces (take k vs))).bytes) l r → IsRopeText (r ++ all_pieces (drop (k + 1) vs))
  node_split_right l r h = rw append-nil at ((node_split l r h).before [] (rw append-nil text))

  pub rest_pieces : (n : ℕ) (rest : List (List ℕ)) → n ≡ length vs → all_pieces (take (k + 1) vs) ++ rest ≡ all_pieces (take n vs) → rest ≡ all_pieces (drop (k + 1) vs)
  rest_pieces n rest len e =
      let whole : all_pieces (take n vs) ≡ all_pieces (take (k + 1) vs) ++ all_pieces (drop (k + 1) vs) =
      ap (λ m. all_pieces (take m vs)) len ∙ ap all_pieces (take-length vs) ∙ ap all_pieces (sym (take-append-drop (k + 1) vs)) ∙ all_pieces-append (take (k + 1) vs) (drop (k + 1) vs) in
      append_cancel_left (all_pieces (take (k + 1) vs)) rest (all_pieces (drop (k + 1) vs)) (e ∙ whole)
