-- Nodes in a row, and their leaf texts.
use Rattle.std.proofs.Common.{◌≡◌, ℕ, ◌+◌, ◌<◌, ◌≤◌, List, [], ◌∷◌, ◌++◌, length, get_or, take, drop, refl, ap, arith, sym, ◌∙◌}
use Rattle.std.proofs.lemmas.Grind.{flat_map-append}
use Rattle.std.proofs.lemmas.List.Concat.{flat_map-cons}
use Rattle.std.proofs.lemmas.List.{take_more, take-append-drop, append-nil}
use Rattle.ropey_tree.specs.NodeView.{NodeView}
use Rattle.ropey_tree.specs.Counts.{total}
use Rattle.ropey_tree.specs.Nodes.{all_pieces}
use Rattle.ropey_tree.proofs.Totals.{total-append}

pub all_pieces-append : (vs ws : List NodeView) → all_pieces (vs ++ ws) ≡ all_pieces vs ++ all_pieces ws
all_pieces-append vs ws = flat_map-append (λ v. v.pieces) vs ws

pub all_pieces-one : (v : NodeView) → all_pieces (v ∷ []) ≡ v.pieces
all_pieces-one v = flat_map-cons (λ v. v.pieces) v [] ∙ append-nil v.pieces

-- one more child
pub all_pieces-take_more : (vs : List NodeView) (k : ℕ) (d : NodeView) → k < length vs → all_pieces (take (k + 1) vs) ≡ all_pieces (take k vs) ++ (get_or vs k d).pieces
all_pieces-take_more vs k d h = rw (take_more vs k d h, all_pieces-append (take k vs) (get_or vs k d ∷ []), all_pieces-one (get_or vs k d)) refl

-- the leaf texts of the child at k, and those on both sides
pub all_pieces-parts : (vs : List NodeView) (k : ℕ) (d : NodeView) → k < length vs → all_pieces vs ≡ all_pieces (take k vs) ++ (get_or vs k d).pieces ++ all_pieces (drop (k + 1) vs)
all_pieces-parts vs k d h =
    let whole : all_pieces (take (k + 1) vs ++ drop (k + 1) vs) ≡ all_pieces (take (k + 1) vs) ++ all_pieces (drop (k + 1) vs) = all_pieces-append (take (k + 1) vs) (drop (k + 1) vs) in
    ap all_pieces (sym (take-append-drop (k + 1) vs)) ∙ whole ∙ ap (λ ps. ps ++ all_pieces (drop (k + 1) vs)) (all_pieces-take_more vs k d h)

abbrev pub no_view : NodeView
no_view = record { pieces = []; height = 0; degree = 0 }

-- no part has more bytes than the whole
pub bytes-take-le : (vs : List NodeView) (k : ℕ) → (total (all_pieces (take k vs))).bytes ≤ (total (all_pieces vs)).bytes
bytes-take-le vs k =
    let parts = ap all_pieces (sym (take-append-drop k vs)) ∙ all_pieces-append (take k vs) (drop k vs) in
    let sums = ap total parts ∙ total-append (all_pieces (take k vs)) (all_pieces (drop k vs)) in
    let bytes : (total (all_pieces vs)).bytes ≡ (total (all_pieces (take k vs))).bytes + (total (all_pieces (drop k vs))).bytes = ap (λ c. c.bytes) sums in
    omega arith

pub bytes-left-le : (vs ws : List NodeView) → (total (all_pieces vs)).bytes ≤ (total (all_pieces (vs ++ ws))).bytes
bytes-left-le vs ws =
    let bytes : (total (all_pieces (vs ++ ws))).bytes ≡ (total (all_pieces vs)).bytes + (total (all_pieces ws)).bytes = ap (λ c. c.bytes) (ap total (all_pieces-append vs ws) ∙ total-append (all_pieces vs) (all_pieces ws)) in
    omega arith

pub bytes-right-le : (vs ws : List NodeView) → (total (all_pieces ws)).bytes ≤ (total (all_pieces (vs ++ ws))).bytes
bytes-right-le vs ws =
    let bytes : (total (all_pieces (vs ++ ws))).bytes ≡ (total (all_pieces vs)).bytes + (total (all_pieces ws)).bytes = ap (λ c. c.bytes) (ap total (all_pieces-append vs ws) ∙ total-append (all_pieces vs) (all_pieces ws)) in
    omega arith

pub bytes-part-le : (vs : List NodeView) (from n : ℕ) → (total (all_pieces (take n (drop from vs)))).bytes ≤ (total (all_pieces vs)).bytes
bytes-part-le vs from n =
    let whole = ap (λ us. (total (all_pieces us)).bytes) (take-append-drop from vs) in
    omega (arith, bytes-take-le (drop from vs) n, bytes-right-le (take from vs) (drop from vs), whole)
