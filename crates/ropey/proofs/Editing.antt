-- Edits by byte indices, and what they are by characters.
use Rattle.std.proofs.Common.{◌≡◌, ℕ, ◌+◌, ◌-◌, ◌≤◌, true, List, [], ◌∷◌, ◌++◌, length, take, drop, refl, ap, sym, subst, ◌∙◌, arith, append_assoc, take-append-drop, length-append, length-take-le}
use Rattle.std.specs.List.{concat}
use Rattle.std.specs.Prelude.{Result, Ok, Err, OnOk, IfOk, encode_utf8, encode_utf8_all}
use Rattle.std.specs.Str.{all_scalars, chars, IsUtf8, IsCharBoundary}
use Rattle.std.proofs.lemmas.Bool.{and_parts, and_from}
use Rattle.std.proofs.lemmas.List.{append-nil, nil_from_length, take-take, take_at, drop_at}
use Rattle.std.proofs.lemmas.List.Folds.{concat-append}
use Rattle.std.proofs.lemmas.Str.{length-le-encodes, chars_from_encodes, chars-encodes, encodes-chars, chars-append, encodes-append, IsUtf8-take}
use Rattle.str_indices.specs.Text.{byte_len}
use Rattle.ropey_tree.specs.Cutting.{IsCutting, IsRopeText, IsBoundaryOf}
use Rattle.ropey_tree.specs.Edits.{IsReplaced, IsEdited}
use Rattle.ropey_tree.specs.NodeView.{NodeView}
use Rattle.ropey_tree.specs.Splits.{IsSplit}
use Rattle.ropey_walk.specs.Conversions.{byte_of_char}
use Rattle.ropey_walk.proofs.Reading.{place_of_front}
use Rattle.ropey.specs.Chunks.{text_of}
use Rattle.ropey.specs.Edits.{with_inserted, with_removed, with_replaced}
use Rattle.ropey.proofs.Pieces.{byte_len-append, bytes-concat, first_piece, rest_cut}

-- ---- two ways to cut a text in two
some_bytes : (c : ℕ) (cs : List ℕ) → 1 ≤ byte_len (c ∷ cs)
some_bytes c cs = let few = length-le-encodes (c ∷ cs) in omega arith

tails : (x y : ℕ) (xs ys : List ℕ) → x ∷ xs ≡ y ∷ ys → (x ≡ y) × (xs ≡ ys)
tails x y xs ys e = (cc, cc)

-- the longer front begins with the shorter
pub record Between (front back short rest : List ℕ) : Type 0 where
  pub mid : List ℕ
  pub front_is : front ≡ short ++ mid
  pub rest_is : rest ≡ mid ++ back

pub between : (front back short rest : List ℕ) → front ++ back ≡ short ++ rest → byte_len short ≤ byte_len front → Between front back short rest
between front back [] rest e le = record { mid = front; front_is = refl; rest_is = sym e }
between [] back (x ∷ short) rest e le = absurd (omega (arith, some_bytes x short))
between (y ∷ front) back (x ∷ short) rest e le =
    let t = tails y x (front ++ back) (short ++ rest) e in
    let ys = byte_len-append (y ∷ []) front in
    let xs = byte_len-append (x ∷ []) short in
    let same : byte_len (y ∷ []) ≡ byte_len (x ∷ []) = ap (λ c. byte_len (c ∷ [])) t.0 in
    let below = between front back short rest t.1 (omega arith) in
    record { mid = below.mid; front_is = ap (λ c. c ∷ front) t.0 ∙ ap (λ cs. x ∷ cs) below.front_is; rest_is = below.rest_is }

no_bytes : (t : List ℕ) → byte_len t ≡ 0 → t ≡ []
no_bytes [] h = refl
no_bytes (c ∷ cs) h = absurd (omega (arith, h, some_bytes c cs))

-- fronts of one length are the same
same_front : (front back short rest : List ℕ) → front ++ back ≡ short ++ rest → byte_len front ≡ byte_len short → (front ≡ short) × (back ≡ rest)
same_front front back short rest e len =
    let parts = between front back short rest e (omega (arith, len)) in
    let none : parts.mid ≡ [] = no_bytes parts.mid (omega (arith, len, ap byte_len parts.front_is, byte_len-append short parts.mid)) in
    (parts.front_is ∙ ap (λ t. short ++ t) none ∙ append-nil short, sym (parts.rest_is ∙ ap (λ t. t ++ back) none))

-- ---- the one text that a replacement gives
pub replaced_is : (front gone back text t new : List ℕ) (from to : ℕ) → t ≡ front ++ gone ++ back → byte_len front ≡ from → byte_len (front ++ gone) ≡ to → IsReplaced t from to text new
    → new ≡ front ++ text ++ back
replaced_is front gone back text t new from to parts starts ends h =
    let outer = same_front (h.front ++ h.gone) h.back (front ++ gone) back (sym h.old_is ∙ parts) (h.ends ∙ sym ends) in
    let inner = same_front h.front h.gone front gone outer.0 (h.starts ∙ sym starts) in
    h.new_is ∙ ap (λ (f : List ℕ). f ++ text ++ h.back) inner.0 ∙ ap (λ (b : List ℕ). front ++ text ++ b) outer.1

-- ---- characters
pub place_of : (t : List ℕ) (k : ℕ) → k ≤ length t → byte_of_char t k ≡ byte_len (take k t)
place_of t k h =
    ap (byte_of_char t) (sym (length-take-le k t h)) ∙ ap (λ s. byte_of_char s (length (take k t))) (sym (take-append-drop k t)) ∙ place_of_front (take k t) (drop k t)

pub boundary_of : (t : List ℕ) (k at : ℕ) → at ≡ byte_len (take k t) → IsBoundaryOf t at
boundary_of t k at e = record { front = take k t; back = drop k t; parts = sym (take-append-drop k t); place = sym e }

pub inserted_is : (t : List ℕ) (k at : ℕ) (text new : List ℕ) → at ≡ byte_len (take k t) → IsReplaced t at at text new → new ≡ with_inserted t k text
inserted_is t k at text new e h =
    let none : take k t ++ [] ≡ take k t = append-nil (take k t) in
    replaced_is (take k t) [] (drop k t) text t new at at (sym (take-append-drop k t) ∙ ap (λ f. f ++ drop k t) (sym none)) (sym e) (ap byte_len none ∙ sym e) h

pub chars_replaced : (t : List ℕ) (s e from to : ℕ) (text new : List ℕ) → s ≤ e → from ≡ byte_len (take s t) → to ≡ byte_len (take e t) → IsReplaced t from to text new → new ≡ with_replaced t s e text
chars_replaced t s e from to text new order starts ends h =
    let mid = drop s (take e t) in
    let front : take s t ++ mid ≡ take e t = ap (λ f. f ++ mid) (sym (take-take s e t order)) ∙ take-append-drop s (take e t) in
    replaced_is (take s t) mid (drop e t) text t new from to (sym (take-append-drop e t) ∙ ap (λ f. f ++ drop e t) (sym front)) (sym starts) (ap byte_len front ∙ sym ends) h

-- what it has in bytes
pub replaced_len : (t : List ℕ) (s e : ℕ) (text : List ℕ) → s ≤ e → byte_len (with_replaced t s e text) ≡ byte_len t - (byte_len (take e t) - byte_len (take s t)) + byte_len text
replaced_len t s e text order =
    let mid = drop s (take e t) in
    let front : take s t ++ mid ≡ take e t = ap (λ f. f ++ mid) (sym (take-take s e t order)) ∙ take-append-drop s (take e t) in
    omega (
      arith,
      ap byte_len front,
      byte_len-append (take s t) mid,
      ap byte_len (take-append-drop e t),
      byte_len-append (take e t) (drop e t),
      byte_len-append (take s t ++ text) (drop e t),
      byte_len-append (take s t) text,
    )

-- an empty text in the place of others removes them
pub removes : (t : List ℕ) (s e : ℕ) (text : List ℕ) → text ≡ [] → with_replaced t s e text ≡ with_removed t s e
removes t s e text none = ap (λ f. f ++ drop e t) (ap (λ x. take s t ++ x) none ∙ append-nil (take s t))

-- ---- bytes
pub place_within : (t : List ℕ) (at : ℕ) → IsBoundaryOf t at → at ≤ byte_len t
place_within t at h = omega (arith, ap byte_len h.parts, byte_len-append h.front h.back, h.place)

pub boundary_between : (t : List ℕ) (at : ℕ) → all_scalars t ≡ true → IsCharBoundary (encode_utf8_all t) at → IsBoundaryOf t at
boundary_between t at scalars boundary =
    let bytes = encode_utf8_all t in
    let utf8 : IsUtf8 bytes = (t, (scalars, refl)) in
    let front_utf8 = IsUtf8-take bytes at utf8 boundary in
    record {
      front = chars (take at bytes);
      back = chars (drop at bytes);
      parts = sym (chars-encodes t scalars) ∙ ap chars (sym (take-append-drop at bytes)) ∙ chars-append (take at bytes) (drop at bytes) front_utf8;
      place = ap length (encodes-chars (take at bytes) front_utf8) ∙ length-take-le at bytes boundary.0;
    }

pub bytes_replaced : (t bytes new : List ℕ) (from to : ℕ) → IsUtf8 bytes → IsReplaced t from to (chars bytes) new
    → encode_utf8_all new ≡ with_replaced (encode_utf8_all t) from to bytes
bytes_replaced t bytes new from to utf8 h =
    let front = encode_utf8_all h.front in
    let gone = encode_utf8_all (h.front ++ h.gone) in
    let back = encode_utf8_all h.back in
    let old : encode_utf8_all t ≡ gone ++ back = ap encode_utf8_all h.old_is ∙ encodes-append (h.front ++ h.gone) h.back in
    let longer : gone ++ back ≡ front ++ (encode_utf8_all h.gone ++ back) = ap (λ f. f ++ back) (encodes-append h.front h.gone) ∙ append_assoc front (encode_utf8_all h.gone) back in
    let first : take from (encode_utf8_all t) ≡ front = ap (take from) (old ∙ longer) ∙ take_at front (encode_utf8_all h.gone ++ back) from h.starts in
    let last : drop to (encode_utf8_all t) ≡ back = ap (drop to) old ∙ drop_at gone back to h.ends in
    ap encode_utf8_all h.new_is ∙ encodes-append (h.front ++ chars bytes) h.back
    ∙ ap (λ f. f ++ back) (encodes-append h.front (chars bytes) ∙ ap (λ b. front ++ b) (encodes-chars bytes utf8) ∙ ap (λ f. f ++ bytes) (sym first))
    ∙ ap (λ b. take from (encode_utf8_all t) ++ bytes ++ b) (sym last)

-- so many bytes
pub bytes_len : (bytes new : List ℕ) (from to : ℕ) → from ≤ to → to ≤ length bytes → length (with_replaced bytes from to new) ≡ length bytes - (to - from) + length new
bytes_len bytes new from to order within =
    omega (
      arith,
      length-append (take from bytes ++ new) (drop to bytes),
      length-append (take from bytes) new,
      length-take-le from bytes (omega (arith, order, within)),
      length-append (take to bytes) (drop to bytes),
      ap length (take-append-drop to bytes),
      length-take-le to bytes within,
    )

-- the texts of a cutting are of scalar values
pub cutting_scalars : (ps : List (List ℕ)) → IsCutting ps → all_scalars (concat ps) ≡ true
cutting_scalars [] h = refl
cutting_scalars (p ∷ ps) h = both p (concat ps) (first_piece p ps h).scalars (cutting_scalars ps (rest_cut p ps h))
  where
    both : (s t : List ℕ) → all_scalars s ≡ true → all_scalars t ≡ true → all_scalars (s ++ t) ≡ true
    both [] t h k = k
    both (c ∷ cs) t h k =
        let parts = and_parts _ _ h in
        and_from _ _ parts.0 (both cs t parts.1 k)

-- ---- by one leaf
regroup : (a f g b r : List ℕ) → a ++ ((f ++ g ++ b) ++ r) ≡ a ++ f ++ g ++ (b ++ r)
regroup a f g b r = simp append_assoc

pub edited_text : (v w : NodeView) (from to : ℕ) (text : List ℕ) → from ≤ to → IsEdited v from to text w → IsReplaced (text_of v.pieces) from to text (text_of w.pieces)
edited_text v w from to text order edit =
    let h = edit.edited in
    let r = h.replaced in
    let before : byte_len (concat h.left) ≤ from = omega (arith, h.stands.not_past, bytes-concat h.left) in
    let starts : byte_len (concat h.left ++ r.front) ≡ from = omega (arith, byte_len-append (concat h.left) r.front, r.starts, before, bytes-concat h.left) in
    record {
      front = concat h.left ++ r.front;
      gone = r.gone;
      back = r.back ++ concat h.right;
      old_is = ap concat h.stands.parts ∙ concat-append h.left (h.old ∷ h.right) ∙ ap (λ t. concat h.left ++ (t ++ concat h.right)) r.old_is ∙ regroup (concat h.left) r.front r.gone r.back (concat h.right);
      new_is = ap concat h.pieces_are ∙ concat-append h.left (h.leaves ++ h.right) ∙ ap (λ t. concat h.left ++ t) (concat-append h.leaves h.right) ∙ ap (λ t. concat h.left ++ (t ++ concat h.right)) r.new_is
          ∙ regroup (concat h.left) r.front text r.back (concat h.right);
      starts = starts;
      ends = omega (arith, byte_len-append (concat h.left ++ r.front) r.gone, byte_len-append r.front r.gone, byte_len-append (concat h.left) r.front, r.ends, before, order, bytes-concat h.left);
    }

-- what replaces nothing at the end is appended
pub appended_is : (t text new : List ℕ) (at : ℕ) → at ≡ byte_len t → IsReplaced t at at text new → new ≡ t ++ text
appended_is t text new at e h =
    let none : t ++ [] ≡ t = append-nil t in
    replaced_is t [] [] text t new at at (sym none ∙ sym (append-nil (t ++ []))) (sym e) (ap byte_len none ∙ sym e) h ∙ append-nil (t ++ text)

-- ---- by splits
pub removed_text : (ps l r l' r' : List (List ℕ)) (from to : ℕ) (new : List ℕ) → from ≤ to → IsSplit ps from l r → IsSplit ps to l' r' → new ≡ concat l ++ concat r' → IsReplaced (concat ps) from to [] new
removed_text ps l r l' r' from to new order first second whole =
    let place : byte_len (concat l) ≡ from = sym (bytes-concat l) ∙ first.place in
    let place' : byte_len (concat l') ≡ to = sym (bytes-concat l') ∙ second.place in
    let parts = between (concat l') (concat r') (concat l) (concat r) (second.text ∙ sym first.text) (omega (arith, place, place', order)) in
    record {
      front = concat l;
      gone = parts.mid;
      back = concat r';
      old_is = sym second.text ∙ ap (λ f. f ++ concat r') parts.front_is;
      new_is = whole ∙ ap (λ f. f ++ concat r') (sym (append-nil (concat l)));
      starts = place;
      ends = ap byte_len (sym parts.front_is) ∙ place';
    }

pub no_chars : chars [] ≡ []
unfolding chars
no_chars = refl

pub chars_of_none : (bytes : List ℕ) → length bytes ≡ 0 → chars bytes ≡ []
chars_of_none bytes none = ap chars (nil_from_length bytes none) ∙ no_chars

-- what stands before and behind what goes, and a text between them
pub record IsAround (t : List ℕ) (from to : ℕ) (l r : List ℕ) : Type 0 where
  pub gone : IsReplaced t from to [] (l ++ r)
  pub place : byte_len l ≡ from

pub around_fits : (t l r : List ℕ) (from to : ℕ) → from ≤ to → IsAround t from to l r → byte_len t - (to - from) ≡ byte_len l + byte_len r
around_fits t l r from to order h =
    let g = h.gone in
    let none : byte_len (g.front ++ []) ≡ byte_len g.front = ap byte_len (append-nil g.front) in
    omega (
      arith,
      order,
      g.starts,
      g.ends,
      none,
      ap byte_len g.old_is,
      ap byte_len g.new_is,
      byte_len-append (g.front ++ g.gone) g.back,
      byte_len-append (g.front ++ []) g.back,
      byte_len-append l r,
    )

pub put_between : (t l r text longer new : List ℕ) (from to : ℕ) → IsAround t from to l r → longer ≡ l ++ text → new ≡ longer ++ r → IsReplaced t from to text new
put_between t l r text longer new from to h front whole =
    let g = h.gone in
    let parts : g.front ++ g.back ≡ l ++ r = ap (λ f. f ++ g.back) (sym (append-nil g.front)) ∙ sym g.new_is in
    let same = same_front g.front g.back l r parts (g.starts ∙ sym h.place) in
    record {
      front = g.front;
      gone = g.gone;
      back = g.back;
      old_is = g.old_is;
      new_is = whole ∙ ap (λ f. f ++ r) (front ∙ ap (λ f. f ++ text) (sym same.0)) ∙ ap (λ b. g.front ++ text ++ b) (sym same.1);
      starts = g.starts;
      ends = g.ends;
    }

-- of nothing by nothing
pub replaced_nothing : (t : List ℕ) (from to : ℕ) (text : List ℕ) → from ≡ to → text ≡ [] → IsBoundaryOf t from → IsReplaced t from to text t
replaced_nothing t from to text same none at =
    let front : at.front ++ [] ≡ at.front = append-nil at.front in
    record {
      front = at.front;
      gone = [];
      back = at.back;
      old_is = at.parts ∙ ap (λ f. f ++ at.back) (sym front);
      new_is = at.parts ∙ ap (λ f. f ++ at.back) (sym front ∙ ap (λ x. at.front ++ x) (sym none));
      starts = at.place;
      ends = ap byte_len front ∙ at.place ∙ same;
    }

-- in no text
pub replaced_none : (ps : List (List ℕ)) (from to : ℕ) (text new : List ℕ) → ps ≡ [] → IsBoundaryOf (text_of ps) from → IsBoundaryOf (text_of ps) to → new ≡ text → IsReplaced (text_of ps) from to text new
replaced_none ps from to text new none first last is =
    let empty : text_of ps ≡ [] = ap text_of none in
    let start : 0 ≡ from = omega (arith, ap byte_len empty, ap byte_len first.parts, byte_len-append first.front first.back, first.place) in
    let end : 0 ≡ to = omega (arith, ap byte_len empty, ap byte_len last.parts, byte_len-append last.front last.back, last.place) in
    record { front = []; gone = []; back = []; old_is = empty; new_is = is ∙ sym (append-nil text); starts = start; ends = end }

-- of no text both halves are none
pub no_halves : (ps : List (List ℕ)) (at : ℕ) → ps ≡ [] → IsBoundaryOf (text_of ps) at → IsSplit ps at [] []
no_halves ps at none h =
    let empty : byte_len (text_of ps) ≡ 0 = ap (λ qs. byte_len (text_of qs)) none in
    let start : 0 ≡ at = omega (arith, empty, ap byte_len h.parts, byte_len-append h.front h.back, h.place) in
    record {
      text = sym (ap concat none);
      place = start;
      after = λ xs text. subst (λ (qs : List (List ℕ)). IsRopeText (xs ++ qs)) none text;
      before = λ ys text. subst (λ (qs : List (List ℕ)). IsRopeText (qs ++ ys)) none text;
    }

-- ---- on success
pub on_ok : {T E P Q : Type 0} (r : Result T E) → (P → Q) → OnOk r P → OnOk r Q
on_ok (Ok x) f p = f p
on_ok (Err e) f p = tt

pub split_front : {T E : Type 0} (r : Result T E) (text : T → List ℕ) (new t : List ℕ) (k at : ℕ) → at ≡ byte_len (take k t) → IfOk r (λ rest. new ++ text rest ≡ t) → OnOk r (byte_len new ≡ at)
    → OnOk r (new ≡ take k t)
split_front (Ok rest) text new t k at e whole place = (same_front new (text rest) (take k t) (drop k t) (whole ∙ sym (take-append-drop k t)) (place ∙ e)).0
split_front (Err error) text new t k at e whole place = tt

pub split_back : {T E : Type 0} (r : Result T E) (text : T → List ℕ) (new t : List ℕ) (k at : ℕ) → at ≡ byte_len (take k t) → IfOk r (λ rest. new ++ text rest ≡ t) → OnOk r (byte_len new ≡ at)
    → IfOk r (λ rest. text rest ≡ drop k t)
split_back (Ok rest) text new t k at e whole place = (same_front new (text rest) (take k t) (drop k t) (whole ∙ sym (take-append-drop k t)) (place ∙ e)).1
split_back (Err error) text new t k at e whole place = tt

-- ---- one character
pub one_char : (c : ℕ) (bytes : List ℕ) → IsUtf8 bytes → bytes ≡ encode_utf8 c → chars bytes ≡ c ∷ []
one_char c bytes utf8 e = sym (chars_from_encodes (c ∷ []) bytes utf8 (append-nil (encode_utf8 c) ∙ sym e))

-- ---- places in order
pub places_rise : (t : List ℕ) (s e : ℕ) → s ≤ e → byte_len (take s t) ≤ byte_len (take e t)
places_rise t s e order =
    let mid = drop s (take e t) in
    let front : take s t ++ mid ≡ take e t = ap (λ f. f ++ mid) (sym (take-take s e t order)) ∙ take-append-drop s (take e t) in
    omega (arith, ap byte_len front, byte_len-append (take s t) mid)

-- ---- there and back
pub undone : (text inserted : List ℕ) (at : ℕ) → at ≤ length text → with_removed (with_inserted text at inserted) at (at + length inserted) ≡ text
undone text inserted at h =
    let front = take at text in
    let back = drop at text in
    let whole = front ++ inserted ++ back in
    let len : length front ≡ at = length-take-le at text h in
    let first : take at whole ≡ front = ap (take at) (append_assoc front inserted back) ∙ take_at front (inserted ++ back) at len in
    let last : drop (at + length inserted) whole ≡ back = drop_at (front ++ inserted) back (at + length inserted) (length-append front inserted ∙ ap (λ n. n + length inserted) len) in
    ap (λ f. f ++ drop (at + length inserted) whole) first ∙ ap (λ b. front ++ b) last ∙ take-append-drop at text
