-- Rows with a joined child on one side.
use Rattle.std.proofs.Common.{◌≡◌, ℕ, suc, ◌+◌, ◌-◌, ◌<◌, ◌≤◌, min, max, inl, inr, List, [], ◌∷◌, ◌++◌, length, take, drop, get_or, refl, ap, arith, sym, ◌∙◌, subst, append_assoc, length-append, length-take-le}
use Rattle.std.proofs.lemmas.List.{take_more, drop_all, append-nil}
use Rattle.std.proofs.Math.Seq.{take-length}
use Rattle.std.proofs.lemmas.List.Elements.{All-head, All-tail, All-cons, All-nil, All-append}
use Rattle.ropey_tree.specs.Cutting.{IsRopeText}
use Rattle.ropey_tree.specs.LeafRow.{row_with}
use Rattle.ropey_tree.specs.NodeView.{NodeView}
use Rattle.ropey_tree.specs.Nodes.{all_pieces, AreNodes, IsNodeOf, IsInner, leaf_view, inner_view, AreJoined}
use Rattle.ropey_tree.specs.Siblings.{AreSiblings, Packed, nodes_of}
use Rattle.ropey_tree.specs.declared.siblings.Joined.{Joined}
use Rattle.ropey_tree.specs.declared.siblings.Joined.TheVariants.{One, Two}
use Rattle.ropey_tree.proofs.InRow.{all_pieces-append, all_pieces-one}
use Rattle.ropey_tree.proofs.Pieces.{text-left, text-right}
use Rattle.ropey_tree.proofs.Packing.{nodes-left, nodes-right}

pub joined_len : (joined : Joined) → (1 ≤ length (nodes_of joined)) × (length (nodes_of joined) ≤ 2)
joined_len (One node counts) = (omega arith, omega arith)
joined_len (Two first counts second more) = (omega arith, omega arith)

pub nodes-weaker : (h a b : ℕ) (vs : List NodeView) → b ≤ a → AreNodes h a vs → AreNodes h b vs
nodes-weaker h a b [] le all = All-nil (IsNodeOf h b)
nodes-weaker h a b (v ∷ vs) le all =
    let head = All-head (IsNodeOf h a) v vs all in
    All-cons (IsNodeOf h b) v vs (record { level = head.level; full = omega (arith, head.full); many = head.many }) (nodes-weaker h a b vs le (All-tail (IsNodeOf h a) v vs all))

-- the last child, and those before it
pub last_child : (vs : List NodeView) (v : NodeView) → 0 < length vs → v ≡ get_or vs (length vs - 1) v → take (length vs - 1) vs ++ v ∷ [] ≡ vs
last_child vs v some is =
    let n = length vs - 1 in
    let more = take_more vs n v (omega arith) in
    let count : n + 1 ≡ length vs = omega arith in
    ap (λ w. take n vs ++ w ∷ []) is ∙ sym more ∙ ap (λ k. take k vs) count ∙ take-length vs

-- others in place of the last child
pub row-last : (vs others : List NodeView) (end : ℕ) → 0 < length vs → end ≡ length vs - 1 → row_with end others vs ≡ take (length vs - 1) vs ++ others
row-last vs others end some is =
    ap (λ k. row_with k others vs) is ∙ ap (λ us. take (length vs - 1) vs ++ others ++ us) (drop_all (suc (length vs - 1)) vs (omega (arith, some))) ∙ append-nil (take (length vs - 1) vs ++ others)

-- the first child, and those after it
pub first_child : (vs : List NodeView) (v : NodeView) → 0 < length vs → v ≡ get_or vs 0 v → v ∷ drop 1 vs ≡ vs
first_child [] v some is = absurd (omega arith)
first_child (w ∷ vs) v some is = ap (λ u. u ∷ vs) is

-- nodes that replace a joined child
joined_nodes : (l r : NodeView) (below : ℕ) (joined : List NodeView) → AreJoined l r joined → max l.height r.height ≡ below
    → (least : ℕ) → 12 ≤ least → AreNodes (max l.height r.height) least joined → AreNodes below 12 joined
joined_nodes l r below joined h level least enough nodes = rw level at (nodes-weaker (max l.height r.height) least 12 joined enough nodes)

module _ (height : ℕ) (front init joined : List NodeView) (c r : NodeView) (inner : IsInner height front) (is : init ++ c ∷ [] ≡ front) where
  front_pieces : all_pieces front ≡ all_pieces init ++ c.pieces
  front_pieces = sym (ap all_pieces is) ∙ all_pieces-append init (c ∷ []) ∙ ap (λ ps. all_pieces init ++ ps) (all_pieces-one c)

  pub last_text : IsRopeText (all_pieces front ++ r.pieces) → IsRopeText (c.pieces ++ r.pieces)
  last_text text = text-right (all_pieces init) (c.pieces ++ r.pieces) (rw (front_pieces, append_assoc (all_pieces init) c.pieces r.pieces) at text)

  pub last_node : IsNodeOf inner.below 12 c
  last_node = All-head (IsNodeOf inner.below 12) c [] (nodes-right inner.below 12 init (c ∷ []) (rw is inner.nodes))

  pub front_joined_pieces : AreJoined c r joined → all_pieces (init ++ joined) ≡ all_pieces front ++ r.pieces
  front_joined_pieces h = all_pieces-append init joined ∙ ap (λ ps. all_pieces init ++ ps) h.pieces ∙ sym (append_assoc (all_pieces init) c.pieces r.pieces) ∙ ap (λ ps. ps ++ r.pieces) (sym front_pieces)

  pub front_siblings : r.height < height → length front ≤ 24 → 1 ≤ length joined → length joined ≤ 2 → IsRopeText (all_pieces front ++ r.pieces) → AreJoined c r joined → AreSiblings height (init ++ joined)
  front_siblings lower few some two text h =
      let level : c.height ≡ inner.below = last_node.level in
      let full : 12 ≤ c.degree = last_node.full in
      let top : max c.height r.height ≡ inner.below = omega (arith, inner.level, level, lower) in
      let least : min 12 c.degree ≤ h.least = h.no_less_than_left (omega (arith, inner.level, level, lower)) in
      let sums = ap length is in
      let joined_full = joined_nodes c r inner.below joined h top h.least (omega (arith, least, full)) h.nodes in
      record {
        below = inner.below;
        level = inner.level;
        branches = omega (arith, sums, length-append init (c ∷ []), length-append init joined, inner.branches);
        few = omega (arith, sums, length-append init (c ∷ []), length-append init joined);
        nodes = All-append (IsNodeOf inner.below 12) init joined (nodes-left inner.below 12 init (c ∷ []) (rw is inner.nodes)) joined_full;
        text = rw (front_joined_pieces h) text;
      }

module _ (height : ℕ) (back rest joined : List NodeView) (l c : NodeView) (inner : IsInner height back) (is : c ∷ rest ≡ back) where
  back_pieces : all_pieces back ≡ c.pieces ++ all_pieces rest
  back_pieces = sym (ap all_pieces is) ∙ all_pieces-append (c ∷ []) rest ∙ ap (λ ps. ps ++ all_pieces rest) (all_pieces-one c)

  pub first_text : IsRopeText (l.pieces ++ all_pieces back) → IsRopeText (l.pieces ++ c.pieces)
  first_text text = text-left (l.pieces ++ c.pieces) (all_pieces rest) (rw (back_pieces, ← append_assoc l.pieces c.pieces (all_pieces rest)) at text)

  back_nodes : AreNodes inner.below 12 (c ∷ rest)
  back_nodes = let P : List NodeView → Type 0 = λ vs. AreNodes inner.below 12 vs in subst P (sym is) inner.nodes

  pub first_node : IsNodeOf inner.below 12 c
  first_node = All-head (IsNodeOf inner.below 12) c rest back_nodes

  pub back_joined_pieces : AreJoined l c joined → all_pieces (joined ++ rest) ≡ l.pieces ++ all_pieces back
  back_joined_pieces h = all_pieces-append joined rest ∙ ap (λ ps. ps ++ all_pieces rest) h.pieces ∙ append_assoc l.pieces c.pieces (all_pieces rest) ∙ ap (λ ps. l.pieces ++ ps) (sym back_pieces)

  pub back_siblings : l.height < height → length back ≤ 24 → 1 ≤ length joined → length joined ≤ 2 → IsRopeText (l.pieces ++ all_pieces back) → AreJoined l c joined → AreSiblings height (joined ++ rest)
  back_siblings lower few some two text h =
      let level : c.height ≡ inner.below = first_node.level in
      let full : 12 ≤ c.degree = first_node.full in
      let top : max l.height c.height ≡ inner.below = omega (arith, inner.level, level, lower) in
      let least : min 12 c.degree ≤ h.least = h.no_less_than_right (omega (arith, inner.level, level, lower)) in
      let sums = ap length is in
      let joined_full = joined_nodes l c inner.below joined h top h.least (omega (arith, least, full)) h.nodes in
      record {
        below = inner.below;
        level = inner.level;
        branches = omega (arith, sums, length-append joined rest, inner.branches);
        few = omega (arith, sums, length-append joined rest);
        nodes = All-append (IsNodeOf inner.below 12) joined rest joined_full (All-tail (IsNodeOf inner.below 12) c rest back_nodes);
        text = rw (back_joined_pieces h) text;
      }

-- the children of two nodes of one height
pub both_siblings : (height : ℕ) (front back : List NodeView) (f : IsInner height front) → IsInner height back → length front ≤ 24 → length back ≤ 24 → IsRopeText (all_pieces front ++ all_pieces back) → AreSiblings height (front ++ back)
both_siblings height front back f g few few_back text =
    let same : g.below ≡ f.below = omega (arith, f.level, g.level) in
    record {
      below = f.below;
      level = f.level;
      branches = omega (arith, length-append front back, f.branches);
      few = omega (arith, length-append front back);
      nodes = All-append (IsNodeOf f.below 12) front back f.nodes (rw same at g.nodes);
      text = rw (all_pieces-append front back) text;
    }

-- what is packed is the result of joining two nodes
pub joined_of_packed : (l r : NodeView) (height : ℕ) (siblings packed : List NodeView) → Packed height siblings packed → all_pieces siblings ≡ l.pieces ++ r.pieces → max l.height r.height ≡ height
    → (r.height ≤ l.height → l.degree ≤ length siblings) → (l.height ≤ r.height → r.degree ≤ length siblings) → AreJoined l r packed
joined_of_packed l r height siblings packed h pieces level left right = record {
  pieces = h.pieces ∙ pieces;
  least = min 12 (length siblings);
  nodes = rw level h.nodes;
  full = elim h.full [
    | inl one ↦ inl one
    | inr many ↦ inr (omega (arith, many))
  ];
  no_less_than_left = λ p. omega (arith, left p);
  no_less_than_right = λ p. omega (arith, right p);
}

-- two leaves
pub leaves_joined : (l r : NodeView) (p q : List ℕ) → l ≡ leaf_view p → r ≡ leaf_view q → AreJoined l r (l ∷ r ∷ [])
leaves_joined l r p q l_is r_is = rw (l_is, r_is) (record {
  pieces = refl;
  least = 12;
  nodes = All-cons (IsNodeOf 0 12) (leaf_view p) (leaf_view q ∷ []) (leaf_node p) (All-cons (IsNodeOf 0 12) (leaf_view q) [] (leaf_node q) (All-nil (IsNodeOf 0 12)));
  full = inr (omega arith);
  no_less_than_left = λ _. omega arith;
  no_less_than_right = λ _. omega arith;
})
  where
    leaf_node : (s : List ℕ) → IsNodeOf 0 12 (leaf_view s)
    leaf_node s = record { level = refl; full = omega arith; many = omega arith }

-- ---- the same for whole nodes
module _ (l r : NodeView) (text : IsRopeText (l.pieces ++ r.pieces)) where
  module _ (front back : List NodeView) (l_is : l ≡ inner_view l.height front) (f : IsInner l.height front) (r_is : r ≡ inner_view r.height back) (b : IsInner r.height back) (same : l.height ≡ r.height) where
    beside_pieces : all_pieces (front ++ back) ≡ l.pieces ++ r.pieces
    beside_pieces = all_pieces-append front back ∙ ap (λ ps. ps ++ all_pieces back) (sym (ap (λ v. v.pieces) l_is)) ∙ ap (λ ps. l.pieces ++ ps) (sym (ap (λ v. v.pieces) r_is))

    pub beside_siblings : length front ≤ 24 → length back ≤ 24 → AreSiblings l.height (front ++ back)
    beside_siblings few few_back =
        let P : ℕ → Type 0 = λ h. IsInner h back in
        both_siblings l.height front back f (subst P (sym same) b) few few_back (rw (← all_pieces-append front back, beside_pieces) text)

    pub beside_joined : (packed : List NodeView) → Packed l.height (front ++ back) packed → AreJoined l r packed
    beside_joined packed h =
        let l_degree : l.degree ≡ length front = ap (λ v. v.degree) l_is in
        let r_degree : r.degree ≡ length back = ap (λ v. v.degree) r_is in
        joined_of_packed l r l.height (front ++ back) packed h beside_pieces (omega (arith, same)) (λ _. omega (arith, l_degree, length-append front back)) (λ _. omega (arith, r_degree, length-append front back))

  module _ (front : List NodeView) (c : NodeView) (l_is : l ≡ inner_view l.height front) (inner : IsInner l.height front) (is : c ≡ get_or front (length front - 1) c) (lower : r.height < l.height) where
    some : 0 < length front
    some = omega (arith, inner.branches)

    parts : take (length front - 1) front ++ c ∷ [] ≡ front
    parts = last_child front c some is

    front_text : IsRopeText (all_pieces front ++ r.pieces)
    front_text = let pieces : l.pieces ≡ all_pieces front = ap (λ v. v.pieces) l_is in rw pieces at text

    pub left_text : IsRopeText (c.pieces ++ r.pieces)
    left_text = last_text l.height front (take (length front - 1) front) [] c r inner parts front_text

    pub left_falls : c.height < l.height
    left_falls = omega (arith, (last_node l.height front (take (length front - 1) front) [] c r inner parts).level, inner.level)

    pub left_siblings : (joined : Joined) → length front ≤ 24 → AreJoined c r (nodes_of joined) → AreSiblings l.height (take (length front - 1) front ++ nodes_of joined)
    left_siblings joined few h =
        let len = joined_len joined in
        front_siblings l.height front (take (length front - 1) front) (nodes_of joined) c r inner parts lower few len.0 len.1 front_text h

    pub left_joined : (joined : Joined) (packed : List NodeView) → AreJoined c r (nodes_of joined) → Packed l.height (take (length front - 1) front ++ nodes_of joined) packed → AreJoined l r packed
    left_joined joined packed h p =
        let init = take (length front - 1) front in
        let len = joined_len joined in
        let degree : l.degree ≡ length front = ap (λ v. v.degree) l_is in
        let pieces = front_joined_pieces l.height front init (nodes_of joined) c r inner parts h ∙ ap (λ ps. ps ++ r.pieces) (sym (ap (λ v. v.pieces) l_is)) in
        let front_len : length init ≡ length front - 1 = length-take-le (length front - 1) front (omega arith) in
        joined_of_packed l r l.height (init ++ nodes_of joined) packed p pieces (omega (arith, lower))
        (λ _. omega (arith, degree, length-append init (nodes_of joined), front_len, len.0, some)) (λ q. absurd (omega (arith, q, lower)))

  module _ (back : List NodeView) (c : NodeView) (r_is : r ≡ inner_view r.height back) (inner : IsInner r.height back) (is : c ≡ get_or back 0 c) (lower : l.height < r.height) where
    some_back : 0 < length back
    some_back = omega (arith, inner.branches)

    back_parts : c ∷ drop 1 back ≡ back
    back_parts = first_child back c some_back is

    back_text : IsRopeText (l.pieces ++ all_pieces back)
    back_text = let pieces : r.pieces ≡ all_pieces back = ap (λ v. v.pieces) r_is in rw pieces at text

    pub right_text : IsRopeText (l.pieces ++ c.pieces)
    right_text = first_text r.height back (drop 1 back) [] l c inner back_parts back_text

    pub right_falls : c.height < r.height
    right_falls = omega (arith, (first_node r.height back (drop 1 back) [] l c inner back_parts).level, inner.level)

    pub right_siblings : (joined : Joined) → length back ≤ 24 → AreJoined l c (nodes_of joined) → AreSiblings r.height (nodes_of joined ++ drop 1 back)
    right_siblings joined few h =
        let len = joined_len joined in
        back_siblings r.height back (drop 1 back) (nodes_of joined) l c inner back_parts lower few len.0 len.1 back_text h

    pub right_joined : (joined : Joined) (packed : List NodeView) → AreJoined l c (nodes_of joined) → Packed r.height (nodes_of joined ++ drop 1 back) packed → AreJoined l r packed
    right_joined joined packed h p =
        let len = joined_len joined in
        let degree : r.degree ≡ length back = ap (λ v. v.degree) r_is in
        let pieces = back_joined_pieces r.height back (drop 1 back) (nodes_of joined) l c inner back_parts h ∙ ap (λ ps. l.pieces ++ ps) (sym (ap (λ v. v.pieces) r_is)) in
        let back_len = ap length back_parts in
        joined_of_packed l r r.height (nodes_of joined ++ drop 1 back) packed p pieces (omega (arith, lower))
        (λ q. absurd (omega (arith, q, lower))) (λ _. omega (arith, degree, length-append (nodes_of joined) (drop 1 back), back_len, len.0))

-- a root over the two nodes that joining gives
pub joined_inner : (l r v w : NodeView) → IsRopeText (l.pieces ++ r.pieces) → AreJoined l r (v ∷ w ∷ []) → IsInner (max l.height r.height + 1) (v ∷ w ∷ [])
joined_inner l r v w text j = record {
  below = max l.height r.height;
  level = refl;
  branches = omega arith;
  nodes = elim j.full [
    | inl one ↦ absurd (omega (arith, one))
    | inr full ↦ nodes-weaker (max l.height r.height) j.least 12 (v ∷ w ∷ []) full j.nodes
  ];
  text = rw j.pieces text;
}
