-- Nodes over parts of a row.
use Rattle.std.proofs.Common.{◌≡◌, ℕ, ◌≤◌, min, inl, inr, List, [], ◌∷◌, ◌++◌, length, take, drop, take-append-drop, refl, ap, arith, sym, ◌∙◌, length-append}
use Rattle.std.proofs.lemmas.List.Elements.{All-head, All-tail, All-cons, All-nil}
use Rattle.ropey_tree.specs.NodeView.{NodeView}
use Rattle.ropey_tree.specs.Nodes.{all_pieces, AreNodes, IsNodeOf, IsInner, inner_view}
use Rattle.ropey_tree.specs.Siblings.{AreSiblings, Packed}
use Rattle.ropey_tree.proofs.InRow.{all_pieces-append, all_pieces-one}
use Rattle.ropey_tree.proofs.Pieces.{text-left, text-right}
use Rattle.ropey_tree.proofs.Heights.{inner_tree}

pub nodes-left : (h least : ℕ) (vs ws : List NodeView) → AreNodes h least (vs ++ ws) → AreNodes h least vs
nodes-left h least [] ws all = All-nil (IsNodeOf h least)
nodes-left h least (v ∷ vs) ws all = All-cons (IsNodeOf h least) v vs (All-head (IsNodeOf h least) v (vs ++ ws) all) (nodes-left h least vs ws (All-tail (IsNodeOf h least) v (vs ++ ws) all))

pub nodes-right : (h least : ℕ) (vs ws : List NodeView) → AreNodes h least (vs ++ ws) → AreNodes h least ws
nodes-right h least [] ws all = all
nodes-right h least (v ∷ vs) ws all = nodes-right h least vs ws (All-tail (IsNodeOf h least) v (vs ++ ws) all)

-- children that are the start or the end of a row
pub front_inner : (height : ℕ) (siblings front back : List NodeView) → AreSiblings height siblings → front ++ back ≡ siblings → 2 ≤ length front → IsInner height front
front_inner height siblings front back h is branches =
    let pieces : all_pieces siblings ≡ all_pieces front ++ all_pieces back = sym (ap all_pieces is) ∙ all_pieces-append front back in
    record {
      below = h.below;
      level = h.level;
      branches = branches;
      nodes = nodes-left h.below 12 front back (rw is h.nodes);
      text = text-left (all_pieces front) (all_pieces back) (rw pieces at h.text);
    }

pub back_inner : (height : ℕ) (siblings front back : List NodeView) → AreSiblings height siblings → front ++ back ≡ siblings → 2 ≤ length back → IsInner height back
back_inner height siblings front back h is branches =
    let pieces : all_pieces siblings ≡ all_pieces front ++ all_pieces back = sym (ap all_pieces is) ∙ all_pieces-append front back in
    record {
      below = h.below;
      level = h.level;
      branches = branches;
      nodes = nodes-right h.below 12 front back (rw is h.nodes);
      text = text-right (all_pieces front) (all_pieces back) (rw pieces at h.text);
    }

pub node_over : (height least : ℕ) (children : List NodeView) (v : NodeView) → IsInner height children → v ≡ inner_view height children → least ≤ length children → IsNodeOf height least v
node_over height least children v h is enough =
    rw is (record { level = refl; full = enough; many = (inner_tree height children h).many })

-- one node over the whole row
pub packed_one : (height : ℕ) (siblings : List NodeView) (v : NodeView) → AreSiblings height siblings → IsInner height siblings → v ≡ inner_view height siblings → Packed height siblings (v ∷ [])
packed_one height siblings v h inner is =
    record {
      pieces = all_pieces-one v ∙ ap (λ w. w.pieces) is;
      nodes = All-cons (IsNodeOf height (min 12 (length siblings))) v [] (node_over height (min 12 (length siblings)) siblings v inner is (omega arith)) (All-nil (IsNodeOf height (min 12 (length siblings))));
      full = inl refl;
    }

-- two nodes over its halves
pub packed_two : (height : ℕ) (siblings front back : List NodeView) (v w : NodeView) → AreSiblings height siblings → front ++ back ≡ siblings → 12 ≤ length front → 12 ≤ length back
    → v ≡ inner_view height front → w ≡ inner_view height back → Packed height siblings (v ∷ w ∷ [])
packed_two height siblings front back v w h is enough enough_back v_is w_is =
    let least = min 12 (length siblings) in
    let first = node_over height least front v (front_inner height siblings front back h is (omega arith)) v_is (omega arith) in
    let second = node_over height least back w (back_inner height siblings front back h is (omega arith)) w_is (omega arith) in
    let v_pieces = ap (λ u. u.pieces) v_is in
    let w_pieces = ap (λ u. u.pieces) w_is in
    record {
      pieces = all_pieces-append (v ∷ []) (w ∷ []) ∙ ap (λ ps. ps ++ all_pieces (w ∷ [])) (all_pieces-one v ∙ v_pieces) ∙ ap (λ ps. all_pieces front ++ ps) (all_pieces-one w ∙ w_pieces)
          ∙ sym (all_pieces-append front back) ∙ ap all_pieces is;
      nodes = All-cons (IsNodeOf height least) v (w ∷ []) first (All-cons (IsNodeOf height least) w [] second (All-nil (IsNodeOf height least)));
      full = inr (omega (arith, ap length is, length-append front back));
    }

-- children from one index up to another
pub part_inner : (height : ℕ) (children some : List NodeView) (from to : ℕ) → IsInner height children → take from children ++ some ≡ take to children → 2 ≤ length some → IsInner height some
part_inner height children some from to h is branches =
    let whole : (take from children ++ some) ++ drop to children ≡ children = ap (λ vs. vs ++ drop to children) is ∙ take-append-drop to children in
    let pieces = ap all_pieces (sym whole) ∙ all_pieces-append (take from children ++ some) (drop to children) ∙ ap (λ ps. ps ++ all_pieces (drop to children)) (all_pieces-append (take from children) some) in
    record {
      below = h.below;
      level = h.level;
      branches = branches;
      nodes = nodes-right h.below 12 (take from children) some (nodes-left h.below 12 (take from children ++ some) (drop to children) (rw whole h.nodes));
      text = text-right (all_pieces (take from children)) (all_pieces some) (text-left (all_pieces (take from children) ++ all_pieces some) (all_pieces (drop to children)) (rw pieces at h.text));
    }
