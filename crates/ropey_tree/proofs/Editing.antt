-- Edits inside one leaf.
use Rattle.std.proofs.Common.{◌≡◌, ℕ, suc, ◌+◌, ◌-◌, ◌*◌, ◌^◌, ◌<◌, ◌≤◌, ◌⊎◌, Bool, true, false, true≢false, ◌&&◌, inl, inr, List, [], ◌∷◌, ◌++◌, length, take, drop, get_or, map, cond, min, refl, ap, arith, sym, ◌∙◌, subst, append_assoc, length-append, length-take-le, All}
use Rattle.std.proofs.lemmas.List.Elements.{All-head, All-cons, All-nil, All-append, All-get_or}
use Rattle.std.proofs.lemmas.List.{take-append-drop, length-drop, append-nil, drop-drop}
use Rattle.std.proofs.lemmas.List.Sums.{sum_by-cons}
use Rattle.std.specs.Str.{chars, IsUtf8, IsCharBoundary}
use Rattle.std.proofs.lemmas.Str.{encodes-chars, length-le-encodes, scalars-chars, chars-append, IsUtf8-take, IsUtf8-drop}
use Rattle.std.proofs.Math.Nat.{pow-le-pow_right, mul-le-mul_right}
use Rattle.std.specs.Prelude.{slice_range}
use Rattle.str_indices.specs.Text.{breaks, units, starts_with_lf, byte_len, ends_with_cr}
use Rattle.str_indices.specs.Laws.{LosesBreakInCrLf}
use Rattle.ropey_tree.specs.Breaks.{is_break}
use Rattle.ropey_tree.specs.Counts.{total, counts_of}
use Rattle.ropey_tree.specs.Cutting.{IsPiece, IsCutting, IsRopeText, IsBoundaryOf, cuts_cr_lf}
use Rattle.ropey_tree.specs.NodeView.{NodeView}
use Rattle.ropey_tree.specs.declared.counts.Counts.{Counts}
use Rattle.ropey_tree.specs.Nodes.{all_pieces, count_of, AreNodes, IsNodeOf, IsInner, inner_view, leaf_view}
use Rattle.std.specs.List.{concat}
use Rattle.ropey_tree.specs.Edits.{IsReplaced, AreOneOrTwo, MayStandFor, IsPieceAt, AreEdited, IsEdited}
use Rattle.ropey_tree.specs.LeafRow.{IsReplacedBy, leaves_of}
use Rattle.ropey_tree.specs.declared.edits.Leaves.{Leaves}
use Rattle.ropey_tree.specs.declared.edits.Leaves.TheVariants.{One as OneLeaf, Two as TwoLeaves}
use Rattle.ropey_tree.specs.Siblings.{AreSiblings, Packed}
use Rattle.ropey_tree.proofs.Texts.{byte_len-append}
use Rattle.ropey_tree.proofs.Totals.{units-le-bytes, breaks-le-bytes}
use Rattle.ropey_tree.proofs.Pieces.{bytes-append}
use Rattle.ropey_tree.proofs.Splitting.{bytes-concat, starts-append, ends-append}
use Rattle.ropey_tree.proofs.OverSeams.{same_front}
use Rattle.ropey_tree.proofs.InRow.{all_pieces-append, all_pieces-one, all_pieces-parts, all_pieces-take_more}
use Rattle.ropey_tree.proofs.Packing.{nodes-left, nodes-right}
use Rattle.ropey_tree.proofs.Joining.{nodes-weaker}

-- ---- tests

pub not_both : (b : Bool) → b ≡ true → b ≡ false → ⊥
not_both b h g = true≢false (sym h ∙ g)

-- ---- another leaf text in place of one
cutting-other : (ls : List (List ℕ)) (p q : List ℕ) (rs : List (List ℕ)) → IsCutting (ls ++ p ∷ rs) → IsPiece q → starts_with_lf q ≡ starts_with_lf p → ends_with_cr q ≡ ends_with_cr p → IsCutting (ls ++ q ∷ rs)
cutting-other [] p q [] h piece starts ends = piece
cutting-other [] p q (r ∷ rs) h piece starts ends = (piece, ap (λ b. b && starts_with_lf r) ends ∙ h.1, h.2)
cutting-other (l ∷ []) p q rs h piece starts ends = (h.0, ap (λ b. ends_with_cr l && b) starts ∙ h.1, cutting-other [] p q rs h.2 piece starts ends)
cutting-other (l ∷ m ∷ ls) p q rs h piece starts ends = (h.0, h.1, cutting-other (m ∷ ls) p q rs h.2 piece starts ends)

-- two leaf texts in place of one
cutting-two : (ls : List (List ℕ)) (p a b : List ℕ) (rs : List (List ℕ)) → IsCutting (ls ++ p ∷ rs) → IsPiece a → IsPiece b → cuts_cr_lf a b ≡ false → starts_with_lf a ≡ starts_with_lf p → ends_with_cr b ≡ ends_with_cr p
    → IsCutting (ls ++ a ∷ b ∷ rs)
cutting-two [] p a b [] h first second whole starts ends = (first, whole, second)
cutting-two [] p a b (r ∷ rs) h first second whole starts ends = (first, whole, (second, ap (λ c. c && starts_with_lf r) ends ∙ h.1, h.2))
cutting-two (l ∷ []) p a b rs h first second whole starts ends = (h.0, ap (λ c. ends_with_cr l && c) starts ∙ h.1, cutting-two [] p a b rs h.2 first second whole starts ends)
cutting-two (l ∷ m ∷ ls) p a b rs h first second whole starts ends = (h.0, h.1, cutting-two (m ∷ ls) p a b rs h.2 first second whole starts ends)

-- the leaf texts that may replace it
cutting-leaves : (ls : List (List ℕ)) (p : List ℕ) (leaves rs : List (List ℕ)) → IsCutting (ls ++ p ∷ rs) → MayStandFor p leaves → IsCutting (ls ++ (leaves ++ rs))
cutting-leaves ls p [] rs h may = elim may.number [
  | inl one ↦ absurd (omega (arith, one))
  | inr two ↦ absurd (omega (arith, two.0))
]
cutting-leaves ls p (q ∷ []) rs h may = cutting-other ls p q rs h may.cut (ap starts_with_lf (sym (append-nil q)) ∙ may.starts) (ap ends_with_cr (sym (append-nil q)) ∙ may.ends)
cutting-leaves ls p (a ∷ b ∷ []) rs h may =
    let last : 1 ≤ byte_len (b ++ []) = omega (arith, may.cut.2.not_empty, ap byte_len (append-nil b)) in
    cutting-two ls p a b rs h may.cut.0 may.cut.2 may.cut.1 (sym (starts-append a (b ++ []) may.cut.0.not_empty) ∙ may.starts)
    (ap ends_with_cr (sym (append-nil b)) ∙ sym (ends-append a (b ++ []) last) ∙ may.ends)
cutting-leaves ls p (a ∷ b ∷ c ∷ leaves) rs h may = elim may.number [
  | inl one ↦ absurd (omega (arith, one))
  | inr two ↦ absurd (omega (arith, two.0))
]

total-leaves : (ls leaves rs : List (List ℕ)) → (total (ls ++ (leaves ++ rs))).bytes ≡ (total ls).bytes + byte_len (concat leaves) + (total rs).bytes
total-leaves ls leaves rs = omega (arith, bytes-append ls (leaves ++ rs), bytes-append leaves rs, bytes-concat leaves)

total-mid : (ls : List (List ℕ)) (p : List ℕ) (rs : List (List ℕ)) → (total (ls ++ p ∷ rs)).bytes ≡ (total ls).bytes + byte_len p + (total rs).bytes
total-mid ls p rs = omega (arith, bytes-append ls (p ∷ rs), sum_by-cons byte_len p rs)

-- ---- a text in place of a part of another
module _ (old : List ℕ) (from to : ℕ) (text new : List ℕ) (h : IsReplaced old from to text new) where
  pub gone_bytes : to ≡ from + byte_len h.gone
  gone_bytes = omega (arith, h.starts, h.ends, byte_len-append h.front h.gone)

  pub replaced_bytes : byte_len new + byte_len h.gone ≡ byte_len old + byte_len text
  replaced_bytes = omega (
    arith,
    ap byte_len h.old_is,
    ap byte_len h.new_is,
    byte_len-append (h.front ++ h.gone) h.back,
    byte_len-append h.front h.gone,
    byte_len-append (h.front ++ text) h.back,
    byte_len-append h.front text,
  )

  pub replaced_from : IsBoundaryOf old from
  replaced_from = record { front = h.front; back = h.gone ++ h.back; parts = h.old_is ∙ append_assoc h.front h.gone h.back; place = h.starts }

  pub replaced_to : IsBoundaryOf old to
  replaced_to = record { front = h.front ++ h.gone; back = h.back; parts = h.old_is; place = h.ends }

-- at equal offsets
replaced_at : (old : List ℕ) (from to start end : ℕ) (text new : List ℕ) → IsReplaced old from to text new → from ≡ start → to ≡ end → IsReplaced old start end text new
replaced_at old from to start end text new h e g =
    record { front = h.front; gone = h.gone; back = h.back; old_is = h.old_is; new_is = h.new_is; starts = h.starts ∙ e; ends = h.ends ∙ g }

-- the resulting text is unique
pub one_replaced : (old : List ℕ) (from to : ℕ) (text new other : List ℕ) → IsReplaced old from to text new → IsReplaced old from to text other → other ≡ new
one_replaced old from to text new other h g =
    let fronts = same_front g.front (g.gone ++ g.back) h.front (h.gone ++ h.back)
    (sym (append_assoc g.front g.gone g.back) ∙ sym g.old_is ∙ h.old_is ∙ append_assoc h.front h.gone h.back) (g.starts ∙ sym h.starts) in
    let backs = same_front (g.front ++ g.gone) g.back (h.front ++ h.gone) h.back (sym g.old_is ∙ h.old_is) (g.ends ∙ sym h.ends) in
    g.new_is ∙ ap (λ t. t ++ text ++ g.back) fronts.0 ∙ ap (λ t. h.front ++ text ++ t) backs.1 ∙ sym h.new_is

-- ---- the bytes of a text cut at two offsets
pub front_bytes : (bytes : List ℕ) (at : ℕ) → IsUtf8 bytes → IsCharBoundary bytes at → byte_len (chars (take at bytes)) ≡ at
front_bytes bytes at u boundary = ap length (encodes-chars (take at bytes) (IsUtf8-take bytes at u boundary)) ∙ length-take-le at bytes boundary.0

pub back_bytes : (bytes : List ℕ) (at : ℕ) → IsUtf8 bytes → IsCharBoundary bytes at → byte_len (chars (drop at bytes)) ≡ length bytes - at
back_bytes bytes at u boundary = ap length (encodes-chars (drop at bytes) (IsUtf8-drop bytes at u boundary)) ∙ length-drop at bytes

pub three_chars : (a b c : List ℕ) → IsUtf8 a → IsUtf8 b → chars (a ++ b ++ c) ≡ chars a ++ chars b ++ chars c
three_chars a b c u v = ap chars (append_assoc a b c) ∙ chars-append a (b ++ c) u ∙ ap (λ t. chars a ++ t) (chars-append b c v) ∙ sym (append_assoc (chars a) (chars b) (chars c))

pub three_parts : (bytes mid : List ℕ) (from to : ℕ) → IsUtf8 bytes → IsCharBoundary bytes from → from ≤ to → IsUtf8 mid → mid ≡ slice_range bytes from to → chars bytes ≡ chars (take from bytes) ++ chars mid ++ chars (drop to bytes)
three_parts bytes mid from to u starts le mid_utf8 is =
    let index : from + (to - from) ≡ to = omega (arith, le) in
    let behind : drop (to - from) (drop from bytes) ≡ drop to bytes = drop-drop (to - from) from bytes ∙ ap (λ n. drop n bytes) index in
    let rest : drop from bytes ≡ mid ++ drop to bytes = sym (ap (λ m. m ++ drop to bytes) is ∙ ap (λ t. slice_range bytes from to ++ t) (sym behind) ∙ take-append-drop (to - from) (drop from bytes)) in
    ap chars (sym (take-append-drop from bytes)) ∙ chars-append (take from bytes) (drop from bytes) (IsUtf8-take bytes from u starts) ∙ ap (λ t. chars (take from bytes) ++ t) (ap chars rest ∙ chars-append mid (drop to bytes) mid_utf8) ∙ sym (append_assoc (chars (take from bytes)) (chars mid) (chars (drop to bytes)))

pub mid_bytes : (bytes mid : List ℕ) (from to : ℕ) → IsUtf8 bytes → IsCharBoundary bytes from → to ≤ length bytes → from ≤ to → IsUtf8 mid → mid ≡ slice_range bytes from to → byte_len (chars (take from bytes) ++ chars mid) ≡ to
mid_bytes bytes mid from to u starts ends le mid_utf8 is =
    let len = ap length is ∙ length-take-le (to - from) (drop from bytes) (omega (arith, ends, length-drop from bytes)) in
    omega (arith, le, len, byte_len-append (chars (take from bytes)) (chars mid), front_bytes bytes from u starts, ap length (encodes-chars mid mid_utf8))

-- a text between two others that is replaced
pub replaced_in : (old front gone back text : List ℕ) (from to : ℕ) → old ≡ front ++ gone ++ back → byte_len front ≡ from → byte_len (front ++ gone) ≡ to → IsReplaced old from to text (front ++ text ++ back)
replaced_in old front gone back text from to is starts ends = record { front = front; gone = gone; back = back; old_is = is; new_is = refl; starts = starts; ends = ends }

-- ---- the counts of a text between two others
module _ (lines : LosesBreakInCrLf is_break) where
  pub seams_some : (front mid back : List ℕ) (cr lf : Bool) → ends_with_cr front ≡ cr → starts_with_lf back ≡ lf → 1 ≤ byte_len mid
      → breaks is_break (front ++ mid ++ back) + (cond (cr && starts_with_lf mid) 1 0 + cond (ends_with_cr mid && lf) 1 0) ≡ breaks is_break front + breaks is_break mid + breaks is_break back
  seams_some front mid back cr lf cr_is lf_is some =
      let first : breaks is_break (front ++ mid) + cond (cr && starts_with_lf mid) 1 0 ≡ breaks is_break front + breaks is_break mid =
      ap (λ b. breaks is_break (front ++ mid) + cond (b && starts_with_lf mid) 1 0) (sym cr_is) ∙ lines front mid in
      let second : breaks is_break (front ++ mid ++ back) + cond (ends_with_cr mid && lf) 1 0 ≡ breaks is_break (front ++ mid) + breaks is_break back =
      ap (λ b. breaks is_break (front ++ mid ++ back) + cond (ends_with_cr mid && b) 1 0) (sym lf_is) ∙ ap (λ b. breaks is_break (front ++ mid ++ back) + cond (b && starts_with_lf back) 1 0) (sym (ends-append front mid some)) ∙ lines (front ++ mid) back in
      omega (arith, first, second)

  pub seams_none : (front mid back : List ℕ) (cr lf : Bool) → ends_with_cr front ≡ cr → starts_with_lf back ≡ lf → mid ≡ []
      → breaks is_break (front ++ mid ++ back) + cond (cr && lf) 1 0 ≡ breaks is_break front + breaks is_break mid + breaks is_break back
  seams_none front mid back cr lf cr_is lf_is none =
      let whole : front ++ mid ++ back ≡ front ++ back = ap (λ m. front ++ m ++ back) none ∙ ap (λ t. t ++ back) (append-nil front) in
      let zero : breaks is_break mid ≡ 0 = ap (breaks is_break) none in
      let joined : breaks is_break (front ++ mid ++ back) + cond (cr && lf) 1 0 ≡ breaks is_break front + breaks is_break back =
      ap (λ t. breaks is_break t + cond (cr && lf) 1 0) whole ∙ ap (λ b. breaks is_break (front ++ back) + cond (b && lf) 1 0) (sym cr_is) ∙ ap (λ b. breaks is_break (front ++ back) + cond (ends_with_cr front && b) 1 0) (sym lf_is) ∙ lines front back in
      omega (arith, zero, joined)

-- a text of at most n bytes has at most n of every measure
pub record CountsFew (text : List ℕ) (n : ℕ) : Type 0 where
  pub bytes : byte_len text ≤ n
  pub chars : length text ≤ n
  pub units : units text ≤ n
  pub breaks : breaks is_break text ≤ n

pub counts-few : (text : List ℕ) (n : ℕ) → byte_len text ≤ n → CountsFew text n
counts-few text n few = record {
  bytes = few;
  chars = omega (arith, few, length-le-encodes text);
  units = omega (arith, few, units-le-bytes text);
  breaks = omega (arith, few, breaks-le-bytes text);
}

pub bytes-few : (bytes : List ℕ) (n : ℕ) → IsUtf8 bytes → length bytes ≤ n → CountsFew (chars bytes) n
bytes-few bytes n u few = counts-few (chars bytes) n (omega (arith, few, ap length (encodes-chars bytes u)))

-- three texts of at most n bytes together
pub three-few : (a b c : List ℕ) (n : ℕ) → IsUtf8 a → IsUtf8 b → IsUtf8 c → length a + length b + length c ≤ n → CountsFew (chars a ++ chars b ++ chars c) n
three-few a b c n u v w few =
    counts-few (chars a ++ chars b ++ chars c) n
    (omega (arith, few, ap length (encodes-chars a u), ap length (encodes-chars b v), ap length (encodes-chars c w), byte_len-append (chars a ++ chars b) (chars c), byte_len-append (chars a) (chars b)))

pub counts_are : (b c u l : ℕ) (text : List ℕ) → b ≡ byte_len text → c ≡ length text → u ≡ units text → l ≡ breaks is_break text → record { bytes = b; chars = c; units = u; breaks = l } ≡ counts_of text
counts_are b c u l text eb ec eu el = cc

-- ---- a text in one leaf, or in two
pub piece_of : (bytes : List ℕ) → IsUtf8 bytes → 1 ≤ length bytes → length bytes ≤ 984 → IsPiece (chars bytes)
piece_of bytes u some few =
    let len = ap length (encodes-chars bytes u) in
    record { scalars = scalars-chars bytes u; not_empty = omega (arith, len, some); not_long = omega (arith, len, few) }

pub two_cut : (bytes : List ℕ) (at : ℕ) → IsUtf8 bytes → IsCharBoundary bytes at → (488 ≤ at) × (at ≤ 984) → (at + 488 ≤ length bytes) × (length bytes ≤ at + 984) → cuts_cr_lf (chars (take at bytes)) (chars (drop at bytes)) ≡ false
    → IsCutting (chars (take at bytes) ∷ chars (drop at bytes) ∷ [])
two_cut bytes at u boundary front back whole =
    let first = length-take-le at bytes boundary.0 in
    let second = length-drop at bytes in (
      piece_of (take at bytes) (IsUtf8-take bytes at u boundary) (omega (arith, first, front.0)) (omega (arith, first, front.1)),
      whole,
      piece_of (drop at bytes) (IsUtf8-drop bytes at u boundary) (omega (arith, second, back.0)) (omega (arith, second, back.1)),
    )

pub two_text : (bytes : List ℕ) (at : ℕ) → IsUtf8 bytes → IsCharBoundary bytes at → chars (take at bytes) ++ chars (drop at bytes) ≡ chars bytes
two_text bytes at u boundary = sym (chars-append (take at bytes) (drop at bytes) (IsUtf8-take bytes at u boundary)) ∙ ap chars (take-append-drop at bytes)

pub two_may : (a b : List ℕ) (text : List ℕ) → a ++ b ≡ text → 984 ≤ byte_len text → 488 ≤ byte_len a → 488 ≤ byte_len b → AreOneOrTwo (a ∷ b ∷ [])
two_may a b text is long first second =
    let Half : List ℕ → Type 0 = λ p. 488 ≤ byte_len p in
    let all : concat (a ∷ b ∷ []) ≡ text = ap (λ t. a ++ t) (append-nil b) ∙ is in
    inr (refl, omega (arith, long, ap byte_len all), All-cons Half a (b ∷ []) first (All-cons Half b [] second (All-nil Half)))

-- ---- two ways to cut a list in two: the second is later, or earlier
record IsLater (a b x y : List (List ℕ)) : Type 0 where
  mid : List (List ℕ)
  front : x ≡ a ++ mid
  back : b ≡ mid ++ y

record IsEarlier (a b x y : List (List ℕ)) : Type 0 where
  first : List ℕ
  mid : List (List ℕ)
  front : a ≡ x ++ first ∷ mid
  back : y ≡ first ∷ (mid ++ b)

heads : (p q : List ℕ) (ps qs : List (List ℕ)) → p ∷ ps ≡ q ∷ qs → (p ≡ q) × (ps ≡ qs)
heads p q ps qs e = (cc, cc)

cut_twice : (a b x y : List (List ℕ)) → a ++ b ≡ x ++ y → IsLater a b x y ⊎ IsEarlier a b x y
cut_twice [] b x y e = inl (record { mid = x; front = refl; back = e })
cut_twice (p ∷ a) b [] y e = inr (record { first = p; mid = a; front = refl; back = sym e })
cut_twice (p ∷ a) b (q ∷ x) y e =
    let h = heads p q (a ++ b) (x ++ y) e in
    elim (cut_twice a b x y h.1) [
      | inl m ↦ inl (record { mid = m.mid; front = ap (λ r. q ∷ r) m.front ∙ ap (λ r. r ∷ (a ++ m.mid)) (sym h.0); back = m.back })
      | inr m ↦ inr (record { first = m.first; mid = m.mid; front = ap (λ r. r ∷ a) h.0 ∙ ap (λ r. q ∷ r) m.front; back = m.back })
    ]

-- the leaf text at an offset is in the part that contains the offset
record IsInside (a c b left : List (List ℕ)) (piece : List ℕ) (right : List (List ℕ)) : Type 0 where
  mid : List (List ℕ)
  rest : List (List ℕ)
  left_is : left ≡ a ++ mid
  parts : c ≡ mid ++ piece ∷ rest
  right_is : right ≡ rest ++ b

is_inside : (a c b : List (List ℕ)) (at : ℕ) (left : List (List ℕ)) (piece : List ℕ) (right : List (List ℕ)) → IsPieceAt (a ++ c ++ b) at left piece right → 1 ≤ length c → (total a).bytes ≤ at
    → (at < (total (a ++ c)).bytes) ⊎ (b ≡ []) → IsInside a c b left piece right
is_inside a c b at left piece right h some low passed =
    elim (cut_twice a (c ++ b) left (piece ∷ right) (sym (append_assoc a c b) ∙ h.parts)) [
      | inl m ↦
          elim (cut_twice c b m.mid (piece ∷ right) m.back) [
            | inl n ↦
                let bytes = bytes-append (a ++ c) n.mid in
                let left_is : left ≡ (a ++ c) ++ n.mid = m.front ∙ ap (λ ps. a ++ ps) n.front ∙ sym (append_assoc a c n.mid) in
                elim passed [
                  | inl p ↦ absurd (omega (arith, p, h.not_past, ap (λ ps. (total ps).bytes) left_is, bytes))
                  | inr e ↦ absurd (omega (arith, ap length (sym e ∙ n.back), length-append n.mid (piece ∷ right)))
                ]
            | inr n ↦
                let both = heads piece n.first right (n.mid ++ b) n.back in
                record {
                  mid = m.mid;
                  rest = n.mid;
                  left_is = m.front;
                  parts = n.front ∙ ap (λ p. m.mid ++ p ∷ n.mid) (sym both.0);
                  right_is = both.1;
                }
          ]
      | inr m ↦
          let both = heads piece m.first right (m.mid ++ (c ++ b)) m.back in
          elim h.passed [
            | inl p ↦
                absurd (omega (
                  arith,
                  p,
                  low,
                  ap (λ ps. (total ps).bytes) m.front,
                  total-mid left m.first m.mid,
                  total-mid left piece [],
                  ap byte_len both.0,
                ))
            | inr e ↦ absurd (omega (arith, some, ap length (sym e ∙ both.1), length-append m.mid (c ++ b), length-append c b))
          ]
    ]

-- ---- the leaf texts of a node, and that of a leaf
pub edited_bytes : (v : NodeView) (from to : ℕ) (text : List ℕ) (pieces : List (List ℕ)) → AreEdited v from to text pieces → (total pieces).bytes ≤ (total v.pieces).bytes + byte_len text
edited_bytes v from to text pieces h =
    omega (
      arith,
      ap (λ ps. (total ps).bytes) h.stands.parts,
      ap (λ ps. (total ps).bytes) h.pieces_are,
      total-mid h.left h.old h.right,
      total-leaves h.left h.leaves h.right,
      replaced_bytes h.old (from - (total h.left).bytes) (to - (total h.left).bytes) text (concat h.leaves) h.replaced,
    )

pub edited_text : (v : NodeView) (from to : ℕ) (text : List ℕ) (pieces : List (List ℕ)) → AreEdited v from to text pieces → IsRopeText v.pieces → (total v.pieces).bytes + byte_len text < 2 ^ 63 → IsRopeText pieces
edited_text v from to text pieces h is fits = record {
  cut = rw h.pieces_are (cutting-leaves h.left h.old h.leaves h.right (rw h.stands.parts at is.cut) h.may_stand);
  fits = omega (arith, edited_bytes v from to text pieces h, fits);
}

pub leaf_edited : (v : NodeView) (old : List ℕ) (from to : ℕ) (text : List ℕ) (leaves pieces : List (List ℕ)) → v ≡ leaf_view old → pieces ≡ leaves → IsReplaced old from to text (concat leaves) → MayStandFor old leaves → AreEdited v from to text pieces
leaf_edited v old from to text leaves pieces v_is is h stands = record {
  left = [];
  old = old;
  leaves = leaves;
  right = [];
  stands = record { parts = ap (λ u. u.pieces) v_is; not_past = omega arith; passed = inr refl };
  replaced = replaced_at old from to (from - 0) (to - 0) text (concat leaves) h (omega arith) (omega arith);
  may_stand = stands;
  pieces_are = is ∙ sym (append-nil leaves);
}

leaf_node : (leaf : List ℕ) → IsNodeOf 0 12 (leaf_view leaf)
leaf_node leaf = record { level = refl; full = omega arith; many = omega arith }

-- a leaf in place of a leaf
pub one_replaces : (v w : NodeView) (old new : List ℕ) (from to : ℕ) (text : List ℕ) (made : ℕ) → v ≡ leaf_view old → w ≡ leaf_view new → IsReplaced old from to text (concat (new ∷ [])) → MayStandFor old (new ∷ []) → made ≡ 1
    → IsReplacedBy v from to text made (w ∷ [])
one_replaces v w old new from to text made v_is w_is h stands one = rw (v_is, w_is) (record {
  edited = leaf_edited (leaf_view old) old from to text (new ∷ []) (new ∷ []) refl refl h stands;
  in_place = record {
    level = All-cons (IsNodeOf 0 12) (leaf_view new) [] (leaf_node new) (All-nil (IsNodeOf 0 12));
    full = inl refl;
    same = λ _. (refl, All-cons (λ u. u.degree ≡ 12) (leaf_view new) [] refl (All-nil (λ u. u.degree ≡ 12)));
  };
  counted = (λ _. omega (arith, one), omega (arith, one));
})

-- two in its place
pub two_replace : (v w u : NodeView) (old front back : List ℕ) (from to : ℕ) (text : List ℕ) (made : ℕ) → v ≡ leaf_view old → w ≡ leaf_view front → u ≡ leaf_view back → IsReplaced old from to text (concat (front ∷ back ∷ []))
    → MayStandFor old (front ∷ back ∷ []) → made ≡ 2 → IsReplacedBy v from to text made (w ∷ u ∷ [])
unfolding leaf_edited
two_replace v w u old front back from to text made v_is w_is u_is h stands two =
    let both : AreNodes 0 12 (leaf_view front ∷ leaf_view back ∷ []) =
    All-cons (IsNodeOf 0 12) (leaf_view front) (leaf_view back ∷ []) (leaf_node front) (All-cons (IsNodeOf 0 12) (leaf_view back) [] (leaf_node back) (All-nil (IsNodeOf 0 12))) in
    rw (v_is, w_is, u_is) (record {
      edited = leaf_edited (leaf_view old) old from to text (front ∷ back ∷ []) (front ∷ back ∷ []) refl refl h stands;
      in_place = record {
        level = both;
        full = inr both;
        same = λ one. absurd (omega (arith, one));
      };
      counted = (λ one. absurd (omega (arith, one)), omega (arith, two));
    })

-- the nodes of the leaves that replace a leaf
pub leaves_replace : (v : NodeView) (old : List ℕ) (leaves : Leaves) (nodes : List NodeView) (from to : ℕ) (text : List ℕ) (made : ℕ) → v ≡ leaf_view old → nodes ≡ map leaf_view (leaves_of leaves)
    → IsReplaced old from to text (concat (leaves_of leaves)) → MayStandFor old (leaves_of leaves) → made ≡ length (leaves_of leaves) → IsReplacedBy v from to text made nodes
leaves_replace v old (OneLeaf leaf counts) nodes from to text made v_is is h may number = rw is (one_replaces v (leaf_view leaf) old leaf from to text made v_is refl h may number)
leaves_replace v old (TwoLeaves front counts back more) nodes from to text made v_is is h may number = rw is (two_replace v (leaf_view front) (leaf_view back) old front back from to text made v_is refl refl h may number)

-- an edit of a leaf is one of its text
pub record IsOfPiece (old : List ℕ) (from to : ℕ) (text : List ℕ) (leaves : List (List ℕ)) : Type 0 where
  pub replaced : IsReplaced old from to text (concat leaves)
  pub may_stand : MayStandFor old leaves

pub of_piece : (v : NodeView) (old : List ℕ) (from to : ℕ) (text : List ℕ) (pieces : List (List ℕ)) → v ≡ leaf_view old → (h : AreEdited v from to text pieces) → IsOfPiece old from to text h.leaves
of_piece v old from to text pieces v_is h =
    let only = one_piece old h.left h.old h.right (sym (ap (λ u. u.pieces) v_is) ∙ h.stands.parts) in
    let none : (total h.left).bytes ≡ 0 = ap (λ ps. (total ps).bytes) only.0 in
    record {
      replaced = rw (← only.1) (replaced_at h.old (from - (total h.left).bytes) (to - (total h.left).bytes) from to text (concat h.leaves) h.replaced (omega (arith, none)) (omega (arith, none)));
      may_stand = rw (← only.1) h.may_stand;
    }
  where
    one_piece : (p : List ℕ) (ls : List (List ℕ)) (q : List ℕ) (rs : List (List ℕ)) → p ∷ [] ≡ ls ++ q ∷ rs → (ls ≡ []) × (q ≡ p)
    one_piece p [] q rs e = (refl, sym (heads p q [] rs e).0)
    one_piece p (l ∷ ls) q rs e = absurd (omega (arith, ap length e, length-append (l ∷ ls) (q ∷ rs)))

-- the counts of a child that was entered
pub child_counted : (vs : List NodeView) (k : ℕ) (c : NodeView) (len : Counts) → c ≡ get_or vs k c → ((d : NodeView) → len ≡ count_of (get_or vs k d)) → len ≡ total c.pieces
child_counted vs k c len is counted = counted c ∙ ap count_of (sym is)

-- ---- a node whose child at k was edited
module _ (v : NodeView) (vs : List NodeView) (k : ℕ) (c : NodeView) (from to : ℕ) (v_is : v ≡ inner_view v.height vs) (inner : IsInner v.height vs) (within : k < length vs) (is : c ≡ get_or vs k c)
    (low : (total (all_pieces (take k vs))).bytes ≤ from) (range : from ≤ to) (passed : (from < (total (all_pieces (take (k + 1) vs))).bytes) ⊎ (k + 1 ≡ length vs)) where
  abbrev pub before : ℕ
  before = (total (all_pieces (take k vs))).bytes

  next : k + 1 ≡ suc k
  next = omega arith

  v_pieces : v.pieces ≡ all_pieces (take k vs) ++ c.pieces ++ all_pieces (drop (suc k) vs)
  v_pieces = ap (λ u. u.pieces) v_is ∙ all_pieces-parts vs k c within ∙ ap (λ n. all_pieces (take k vs) ++ (get_or vs k c).pieces ++ all_pieces (drop n vs)) next ∙ ap (λ u. all_pieces (take k vs) ++ u.pieces ++ all_pieces (drop (suc k) vs)) (sym is)

  child_passed : (from < (total (all_pieces (take k vs) ++ c.pieces)).bytes) ⊎ (all_pieces (drop (suc k) vs) ≡ [])
  child_passed =
      let through : all_pieces (take (k + 1) vs) ≡ all_pieces (take k vs) ++ c.pieces = all_pieces-take_more vs k c within ∙ ap (λ u. all_pieces (take k vs) ++ u.pieces) (sym is) in
      elim passed [
        | inl p ↦ inl (omega (arith, p, ap (λ ps. (total ps).bytes) through))
        | inr e ↦ inr (ap (λ n. all_pieces (drop n vs)) (sym next ∙ e) ∙ ap all_pieces (drop-all vs))
      ]
    where
      drop-all : (us : List NodeView) → drop (length us) us ≡ []
      drop-all [] = refl
      drop-all (u ∷ us) = drop-all us

  child_node : IsNodeOf inner.below 12 c
  child_node = rw is (All-get_or (IsNodeOf inner.below 12) vs k c within inner.nodes)

  pub child_lower : c.height < v.height
  child_lower = omega (arith, child_node.level, inner.level)

  child_some : 1 ≤ length c.pieces
  child_some =
      let low : 0 ≤ c.height = omega arith in
      let one : 12 ^ 0 ≤ 12 ^ c.height = pow-le-pow_right {n = 12} (omega arith) low in
      let full : 12 * 12 ^ c.height ≤ c.degree * 12 ^ c.height = mul-le-mul_right (12 ^ c.height) child_node.full in
      grind (arith, one, full, child_node.many)

  -- a child has no more bytes than the node
  pub child_fits : (n : ℕ) → (total v.pieces).bytes + n < 2 ^ 63 → (total c.pieces).bytes + n < 2 ^ 63
  child_fits n fits =
      omega (arith, ap (λ ps. (total ps).bytes) v_pieces, bytes-append (all_pieces (take k vs) ++ c.pieces) (all_pieces (drop (suc k) vs)), bytes-append (all_pieces (take k vs)) c.pieces, fits)

  -- an edit of the node is one of the child
  pub record IsOfChild (text : List ℕ) (leaves : List (List ℕ)) : Type 0 where
    pub pieces : List (List ℕ)
    pub edited : AreEdited c (from - before) (to - before) text pieces
    pub same : edited.leaves ≡ leaves

  pub of_child : (text : List ℕ) (pieces : List (List ℕ)) (h : AreEdited v from to text pieces) → IsOfChild text h.leaves
  of_child text pieces h =
      let inside = is_inside (all_pieces (take k vs)) c.pieces (all_pieces (drop (suc k) vs)) from h.left h.old h.right (rw v_pieces at h.stands) child_some low child_passed in
      let left_bytes : (total h.left).bytes ≡ before + (total inside.mid).bytes = ap (λ ps. (total ps).bytes) inside.left_is ∙ bytes-append (all_pieces (take k vs)) inside.mid in
      record {
        pieces = inside.mid ++ (h.leaves ++ inside.rest);
        edited = record {
          left = inside.mid;
          old = h.old;
          leaves = h.leaves;
          right = inside.rest;
          stands = record {
            parts = inside.parts;
            not_past = omega (arith, left_bytes, h.stands.not_past);
            passed = elim h.stands.passed [
              | inl p ↦ inl (omega (arith, p, left_bytes, low, total-mid h.left h.old [], total-mid inside.mid h.old []))
              | inr e ↦ inr (no_front inside.rest (all_pieces (drop (suc k) vs)) (sym inside.right_is ∙ e))
            ];
          };
          replaced = replaced_at h.old (from - (total h.left).bytes) (to - (total h.left).bytes) (from - before - (total inside.mid).bytes) (to - before - (total inside.mid).bytes) text (concat h.leaves) h.replaced
              (omega (arith, left_bytes)) (omega (arith, left_bytes));
          may_stand = h.may_stand;
          pieces_are = refl;
        };
        same = refl;
      }
    where
      no_front : (ps qs : List (List ℕ)) → ps ++ qs ≡ [] → ps ≡ []
      no_front [] qs e = refl
      no_front (p ∷ ps) qs e = absurd (omega (arith, ap length e))

  -- an edit of the child is one of the node, with one node or two in the child's place
  module _ (text : List ℕ) (made : ℕ) (nodes : List NodeView) (some : 1 ≤ length nodes) (two : length nodes ≤ 2) (by : IsReplacedBy c (from - before) (to - before) text made nodes) where
    h : AreEdited c (from - before) (to - before) text (all_pieces nodes)
    h = by.edited

    abbrev pub row : List NodeView
    row = take k vs ++ nodes ++ drop (suc k) vs

    row_pieces : all_pieces row ≡ all_pieces (take k vs) ++ all_pieces nodes ++ all_pieces (drop (suc k) vs)
    row_pieces = all_pieces-append (take k vs ++ nodes) (drop (suc k) vs) ∙ ap (λ ps. ps ++ all_pieces (drop (suc k) vs)) (all_pieces-append (take k vs) nodes)

    pub row_len : length row + 1 ≡ length vs + length nodes
    row_len = omega (arith, within, length-append (take k vs ++ nodes) (drop (suc k) vs), length-append (take k vs) nodes, length-take-le k vs (omega (arith, within)), length-drop (suc k) vs)

    around : (ls : List (List ℕ)) (p : List ℕ) (rs ps : List (List ℕ)) → ps ≡ ls ++ p ∷ rs → (all_pieces (take k vs) ++ ps) ++ all_pieces (drop (suc k) vs) ≡ (all_pieces (take k vs) ++ ls) ++ p ∷ (rs ++ all_pieces (drop (suc k) vs))
    around ls p rs ps e = ap (λ qs. (all_pieces (take k vs) ++ qs) ++ all_pieces (drop (suc k) vs)) e ∙ simp append_assoc

    around_leaves : (ls leaves rs ps : List (List ℕ)) → ps ≡ ls ++ (leaves ++ rs) → (all_pieces (take k vs) ++ ps) ++ all_pieces (drop (suc k) vs) ≡ (all_pieces (take k vs) ++ ls) ++ (leaves ++ (rs ++ all_pieces (drop (suc k) vs)))
    around_leaves ls leaves rs ps e = ap (λ qs. (all_pieces (take k vs) ++ qs) ++ all_pieces (drop (suc k) vs)) e ∙ simp append_assoc

    left_bytes : (total (all_pieces (take k vs) ++ h.left)).bytes ≡ before + (total h.left).bytes
    left_bytes = bytes-append (all_pieces (take k vs)) h.left

    left_mid : (total ((all_pieces (take k vs) ++ h.left) ++ h.old ∷ [])).bytes ≡ before + (total h.left).bytes + byte_len h.old
    left_mid = omega (arith, left_bytes, total-mid (all_pieces (take k vs) ++ h.left) h.old [])

    node_passed : (from < (total ((all_pieces (take k vs) ++ h.left) ++ h.old ∷ [])).bytes) ⊎ (h.right ++ all_pieces (drop (suc k) vs) ≡ [])
    node_passed = elim h.stands.passed [
      | inl p ↦ inl (omega (arith, p, low, left_mid, total-mid h.left h.old []))
      | inr e ↦
          elim child_passed [
            | inl q ↦
                inl (omega (
                  arith,
                  q,
                  left_mid,
                  bytes-append (all_pieces (take k vs)) c.pieces,
                  ap (λ ps. (total ps).bytes) h.stands.parts,
                  total-mid h.left h.old h.right,
                  ap (λ ps. (total ps).bytes) e,
                ))
            | inr g ↦ inr (ap (λ ps. ps ++ all_pieces (drop (suc k) vs)) e ∙ g)
          ]
    ]

    pub node_edited : (pieces : List (List ℕ)) → pieces ≡ all_pieces row → AreEdited v from to text pieces
    node_edited pieces is = record {
      left = all_pieces (take k vs) ++ h.left;
      old = h.old;
      leaves = h.leaves;
      right = h.right ++ all_pieces (drop (suc k) vs);
      stands = record {
        parts = v_pieces ∙ around h.left h.old h.right c.pieces h.stands.parts;
        not_past = omega (arith, left_bytes, h.stands.not_past, low);
        passed = node_passed;
      };
      replaced = replaced_at h.old (from - before - (total h.left).bytes) (to - before - (total h.left).bytes) (from - (total (all_pieces (take k vs) ++ h.left)).bytes) (to - (total (all_pieces (take k vs) ++ h.left)).bytes)
          text (concat h.leaves) h.replaced (omega (arith, left_bytes)) (omega (arith, left_bytes));
      may_stand = h.may_stand;
      pieces_are = is ∙ row_pieces ∙ around_leaves h.left h.leaves h.right (all_pieces nodes) h.pieces_are;
    }

    whole : (n : ℕ) → AreNodes inner.below 12 (take n vs ++ drop n vs)
    whole n = let P : List NodeView → Type 0 = λ us. AreNodes inner.below 12 us in subst P (sym (take-append-drop n vs)) inner.nodes

    new_nodes : AreNodes inner.below 12 nodes
    new_nodes = rw child_node.level at (nodes-weaker c.height (min 12 c.degree) 12 nodes (omega (arith, child_node.full)) by.in_place.level)

    pub row_siblings : length vs ≤ 24 → IsRopeText v.pieces → (total v.pieces).bytes + byte_len text < 2 ^ 63 → AreSiblings v.height row
    row_siblings few is_text fits = record {
      below = inner.below;
      level = inner.level;
      branches = omega (arith, row_len, some, inner.branches);
      few = omega (arith, row_len, few, two);
      nodes = All-append (IsNodeOf inner.below 12) (take k vs ++ nodes) (drop (suc k) vs) (All-append (IsNodeOf inner.below 12) (take k vs) nodes (nodes-left inner.below 12 (take k vs) (drop k vs) (whole k)) new_nodes)
          (nodes-right inner.below 12 (take (suc k) vs) (drop (suc k) vs) (whole (suc k)));
      text = edited_text v from to text (all_pieces row) (node_edited (all_pieces row) refl) is_text fits;
    }

    -- the nodes that the row is packed into
    pub row_replaces : (packed : List NodeView) (made' : ℕ) → length vs ≤ 24 → Packed v.height row packed → (length row ≤ 24 → packed ≡ inner_view v.height row ∷ []) → made' ≡ made + length packed → length packed ≤ 2
        → IsReplacedBy v from to text made' packed
    unfolding h node_edited
    row_replaces packed made' few is one count most =
        let degree : v.degree ≡ length vs = ap (λ u. u.degree) v_is in
        let lower : v.height ≡ c.height + 1 = omega (arith, inner.level, child_node.level) in
        let as_many : length h.leaves ≡ 1 → length row ≡ length vs = λ e. omega (arith, row_len, (by.in_place.same e).0) in
        let only : length h.leaves ≡ 1 → packed ≡ inner_view v.height row ∷ [] = λ e. one (omega (arith, as_many e, few)) in
        record {
          edited = node_edited (all_pieces packed) is.pieces;
          in_place = record {
            level = nodes-weaker v.height (min 12 (length row)) (min 12 v.degree) packed (omega (arith, degree, row_len, some)) is.nodes;
            full = elim is.full [
              | inl single ↦ inl single
              | inr many ↦ inr (nodes-weaker v.height (min 12 (length row)) 12 packed (omega (arith, many)) is.nodes)
            ];
            same = λ e. (ap length (only e), one_degree packed (length row) (only e) (as_many e ∙ sym degree));
          };
          counted = (λ e. omega (arith, count, ap length (only e), by.counted.0 e, lower), omega (arith, count, most, by.counted.1, lower));
        }
      where
        one_degree : (packed : List NodeView) (n : ℕ) → packed ≡ inner_view v.height row ∷ [] → length row ≡ v.degree → All (λ w. w.degree ≡ v.degree) packed
        one_degree packed n is same = rw is (All-cons (λ w. w.degree ≡ v.degree) (inner_view v.height row) [] same (All-nil (λ w. w.degree ≡ v.degree)))

-- ---- a tree
-- the same leaf texts
at_pieces : (v : NodeView) (from to : ℕ) (text : List ℕ) (pieces others : List (List ℕ)) → AreEdited v from to text pieces → others ≡ pieces → AreEdited v from to text others
at_pieces v from to text pieces others h is = record {
  left = h.left;
  old = h.old;
  leaves = h.leaves;
  right = h.right;
  stands = h.stands;
  replaced = h.replaced;
  may_stand = h.may_stand;
  pieces_are = is ∙ h.pieces_are;
}

-- one node
pub one_tree : (v w : NodeView) (from to : ℕ) (text : List ℕ) (made : ℕ) → IsReplacedBy v from to text made (w ∷ []) → IsEdited v from to text w
unfolding at_pieces
one_tree v w from to text made by = record {
  edited = at_pieces v from to text (all_pieces (w ∷ [])) w.pieces by.edited (sym (all_pieces-one w));
  height = λ _. (All-head (IsNodeOf v.height (min 12 v.degree)) w [] by.in_place.level).level;
  degree = λ one. All-head (λ u. u.degree ≡ v.degree) w [] (by.in_place.same one).1;
}

-- two nodes under a root
pub two_nodes : (v first second : NodeView) (from to : ℕ) (text : List ℕ) (made : ℕ) → IsReplacedBy v from to text made (first ∷ second ∷ []) → IsRopeText v.pieces → (total v.pieces).bytes + byte_len text < 2 ^ 63
    → IsInner (v.height + 1) (first ∷ second ∷ [])
two_nodes v first second from to text made by is fits = record {
  below = v.height;
  level = refl;
  branches = omega arith;
  nodes = elim by.in_place.full [
    | inl one ↦ absurd (omega (arith, one))
    | inr nodes ↦ nodes
  ];
  text = edited_text v from to text (all_pieces (first ∷ second ∷ [])) by.edited is fits;
}

pub two_tree : (v first second w : NodeView) (from to : ℕ) (text : List ℕ) (made : ℕ) → IsReplacedBy v from to text made (first ∷ second ∷ []) → w ≡ inner_view (v.height + 1) (first ∷ second ∷ []) → IsEdited v from to text w
two_tree v first second w from to text made by w_is = rw w_is (record {
  edited = by.edited;
  height = λ one. absurd (omega (arith, (by.in_place.same one).0));
  degree = λ one. absurd (omega (arith, (by.in_place.same one).0));
})
