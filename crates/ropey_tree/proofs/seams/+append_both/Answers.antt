use Rattle.std.proofs.Common.{◌≡◌, ℕ, ◌+◌, ◌-◌, ◌≤◌, false, [], ◌∷◌, ◌++◌, length, ap, sym, ◌∙◌, arith}
use Rattle.std.specs.List.{concat}
use Rattle.std.proofs.lemmas.List.{append-nil}
use Rattle.std.proofs.lemmas.List.Folds.{concat-append}
use Rattle.std.proofs.lemmas.List.Sums.{sum_by-cons}
use Rattle.str_indices.specs.Text.{byte_len}
use Rattle.ropey_tree.specs.Counts.{total}
use Rattle.ropey_tree.specs.Cutting.{cuts_cr_lf, IsRopeText}
use Rattle.ropey_tree.specs.Seams.{StandsBetween}
use Rattle.ropey_tree.specs.Nodes.{leaf_view}
use Rattle.ropey_tree.specs.Splits.{pieces_in}
use Rattle.ropey_tree.proofs.Texts.{byte_len-append}
use Rattle.ropey_tree.proofs.Splitting.{bytes-concat}
use Rattle.ropey_tree.proofs.OverSeams.{text-append, last_leaf_parts, last_leaf, first_leaf}
use Rattle.ropey_tree.proofs.Merging.{leaves_between, left_boundary, right_boundary, shorter, rest_fits, whole_text, whole_concat}
use Rattle.ropey_tree.proofs.seams.+append_both.Goals as goal
use Rattle.ropey_tree.proofs.seams.+append_both.Goals.{In-Some, After-height-3, in-None, in-Some-after+in_ok-back-in-Some-after}

pub concat-requires : goal.concat-requires
concat-requires t c =
    let ps = c.args.left.now.value.pieces in
    let qs = c.args.right.now.value.pieces in
    let left_is = rw c.deref.ensures at c.height.ensures.tree.text in
    let right_is = rw c.deref-2.ensures at c.height-2.ensures.tree.text in
    let lies = rw c.deref-4.ensures at c.leaf_at.ensures in
    let lies_b = rw c.deref-5.ensures at c.leaf_at-2.ensures in
    let end : c.counts-end.result.bytes ≡ (total ps).bytes = ap (λ k. k.bytes) c.counts-end.ensures ∙ ap (λ v. (total v.pieces).bytes) c.deref-3.ensures in
    let past : (total ps).bytes ≤ c.counts-end.result.bytes = omega (arith, end) in
    let ends = last_leaf ps c.leaf_at.result.leaf.now c.counts-end.result.bytes c.leaf_at.result.before lies past c.as_str.ensures.piece.not_empty in
    let starts = first_leaf qs c.leaf_at-2.result.leaf.now c.leaf_at-2.result.before lies_b c.as_str-2.ensures.piece.not_empty in
    let whole : cuts_cr_lf (concat ps) (concat qs) ≡ false = rw (ends, starts) c.in_default.ensures.none in
    text-append ps qs left_is right_is whole c.requires.fits

pub returns-in_default : goal.returns-in_default
returns-in_default t c = ap concat c.in_ok-tree.ensures ∙ concat-append c.args.left.now.value.pieces c.args.right.now.value.pieces

-- the last leaf starts where the leaves before it end
start_is : (t : ℕ) (c : In-Some t) → c.counts-end.result.bytes - length c.as_str.result.now + byte_len c.leaf_at.result.leaf.now ≡ (total c.args.left.now.value.pieces).bytes
start_is t c =
    let ps = c.args.left.now.value.pieces in
    let a = c.leaf_at.result.leaf.now in
    let lies = rw c.deref-4.ensures at c.leaf_at.ensures in
    let end : c.counts-end.result.bytes ≡ (total ps).bytes = ap (λ k. k.bytes) c.counts-end.ensures ∙ ap (λ v. (total v.pieces).bytes) c.deref-3.ensures in
    let parts = last_leaf_parts ps a c.counts-end.result.bytes c.leaf_at.result.before lies (omega (arith, end)) in
    omega (arith, end, ap length c.as_str.ensures.bytes, bytes-concat ps, ap byte_len parts.1, byte_len-append (concat lies.left) a)

seam_is : (t : ℕ) (c : In-Some t) → StandsBetween c.args.left.now.value.pieces (c.counts-end.result.bytes - length c.as_str.result.now + c.in-Some.field-0.from) c.in-Some.field-0.leaf c.args.right.now.value.pieces c.in-Some.field-0.to
seam_is t c =
    let ps = c.args.left.now.value.pieces in
    let qs = c.args.right.now.value.pieces in
    let left_is = rw c.deref.ensures at c.height.ensures.tree.text in
    let lies = rw c.deref-4.ensures at c.leaf_at.ensures in
    let lies_b = rw c.deref-5.ensures at c.leaf_at-2.ensures in
    let end : c.counts-end.result.bytes ≡ (total ps).bytes = ap (λ k. k.bytes) c.counts-end.ensures ∙ ap (λ v. (total v.pieces).bytes) c.deref-3.ensures in
    leaves_between ps qs c.leaf_at.result.leaf.now c.leaf_at-2.result.leaf.now c.in-Some.field-0.leaf c.counts-end.result.bytes (c.counts-end.result.bytes - length c.as_str.result.now) c.in-Some.field-0.from c.in-Some.field-0.to c.leaf_at.result.before c.leaf_at-2.result.before
    lies (omega (arith, end)) lies_b left_is c.as_str.ensures.piece.not_empty (start_is t c) c.in-Some.ensures.between

pub overflow_add-start : goal.overflow_add-start
overflow_add-start t c =
    let between = seam_is t c in
    let left_is = rw c.deref.ensures at c.height.ensures.tree.text in
    omega (arith, between.place, bytes-concat c.args.left.now.value.pieces, ap byte_len between.left_is, byte_len-append between.front between.last, left_is.fits)

pub split_front-requires : goal.split_front-requires
split_front-requires t c =
    let a = (goal.at.split_front-requires t c).In-Some in
    left_boundary c.args.left.now.value.pieces c.args.right.now.value.pieces c.in-Some.field-0.leaf (c.counts-end.result.bytes - length c.as_str.result.now + c.in-Some.field-0.from) c.in-Some.field-0.to (seam_is t a)

pub split_back-requires : goal.split_back-requires
split_back-requires t c =
    let a = (goal.at.split_back-requires t c).In-Some in
    right_boundary c.args.left.now.value.pieces c.args.right.now.value.pieces c.in-Some.field-0.leaf (c.counts-end.result.bytes - length c.as_str.result.now + c.in-Some.field-0.from) c.in-Some.field-0.to (seam_is t a)

pub append_both-requires : goal.append_both-requires
append_both-requires t c =
    let a = (goal.at.append_both-requires t c).In-Some in
    let ps = c.args.left.now.value.pieces in
    let qs = c.args.right.now.value.pieces in
    let mid = c.in-Some.field-0.leaf in
    let at = c.counts-end.result.bytes - length c.as_str.result.now + c.in-Some.field-0.from in
    let l = pieces_in c.in_ok-before.before in
    let x = c.in_ok-before.ensures.front.rest in
    let y = c.in_ok-after.ensures.back.front in
    let r = pieces_in c.in_ok-after.after in
    let low = shorter ps qs mid at c.in-Some.field-0.to (seam_is t a) l x y r c.in-Some.ensures.some c.requires.fits c.in_ok-before.ensures.front.split c.in_ok-after.ensures.back.split in
    let fits = rest_fits ps qs mid at c.in-Some.field-0.to (seam_is t a) l x y r c.in-Some.ensures.some c.requires.fits c.in_ok-before.ensures.front.split c.in_ok-after.ensures.back.split in
    let rest : r ≡ c.in-Some-after.rest.value.pieces = ap pieces_in c.in-Some-after.is in
    let leaf : c.in_ok-leaf.leaf.value.pieces ≡ mid ∷ [] = ap (λ v. v.pieces) (c.in_ok-leaf.ensures.ok ∙ c.from_leaf.ensures ∙ ap leaf_view c.in_ok-middle.ensures.text) in
    let rest_bytes = ap (λ ps. (total ps).bytes) rest in
    (omega (arith, c.decreases, low, rest_bytes), omega (arith, fits, rest_bytes, ap (λ ps. (total ps).bytes) leaf, sum_by-cons byte_len mid []))

record Joins (t : ℕ) (c : After-height-3 t) : Type 0 where
  whole : IsRopeText (pieces_in c.in_ok-before.before ++ c.match-after-3.back.value.pieces)
  text : concat (pieces_in c.in_ok-before.before ++ c.match-after-3.back.value.pieces) ≡ concat c.args.left.now.value.pieces ++ concat c.args.right.now.value.pieces

joins : (t : ℕ) (c : After-height-3 t) → StandsBetween c.args.left.now.value.pieces (c.counts-end.result.bytes - length c.as_str.result.now + c.in-Some.field-0.from) c.in-Some.field-0.leaf c.args.right.now.value.pieces c.in-Some.field-0.to → Joins t c
joins t c between =
    let ps = c.args.left.now.value.pieces in
    let qs = c.args.right.now.value.pieces in
    let mid = c.in-Some.field-0.leaf in
    let at = c.counts-end.result.bytes - length c.as_str.result.now + c.in-Some.field-0.from in
    let l = pieces_in c.in_ok-before.before in
    let x = c.in_ok-before.ensures.front.rest in
    let y = c.in_ok-after.ensures.back.front in
    let r = pieces_in c.in_ok-after.after in
    let bs = c.match-after-3.back.value.pieces in
    let leaf : c.in_ok-leaf.leaf.value.pieces ≡ mid ∷ [] = ap (λ v. v.pieces) (c.in_ok-leaf.ensures.ok ∙ c.from_leaf.ensures ∙ ap leaf_view c.in_ok-middle.ensures.text) in
    let one : concat c.in_ok-leaf.leaf.value.pieces ≡ mid = ap concat leaf ∙ append-nil mid in
    let joined : concat bs ≡ mid ++ concat r = elim c.match-after-3.branch [
      | in-None w ↦ ap (λ n. concat n.value.pieces) w.back-is ∙ one ∙ sym (append-nil mid) ∙ ap (λ ps. mid ++ concat ps) (sym (ap pieces_in w.in-None.is))
      | in-Some-after+in_ok-back-in-Some-after w ↦
          ap (λ n. concat n.value.pieces) w.back-is ∙ w.in_ok-back-in-Some-after.ensures ∙ ap (λ t. t ++ concat w.in-Some-after.rest.value.pieces) one ∙ ap (λ ps. mid ++ concat ps) (sym (ap pieces_in w.in-Some-after.is))
    ] in
    let left_is = rw c.deref.ensures at c.height.ensures.tree.text in
    let back_is = rw c.deref-7.ensures at c.height-3.ensures.tree.text in
    record {
      whole = whole_text ps qs mid at c.in-Some.field-0.to between l x y r c.in-Some.ensures.some c.requires.fits c.in_ok-before.ensures.front.split c.in_ok-after.ensures.back.split bs left_is back_is joined;
      text = whole_concat ps qs mid at c.in-Some.field-0.to between l x y r c.in-Some.ensures.some c.requires.fits c.in_ok-before.ensures.front.split c.in_ok-after.ensures.back.split bs left_is back_is joined;
    }

pub behind-requires : goal.behind-requires
behind-requires t c = (joins t c (seam_is t (goal.at.behind-requires t c).In-Some)).whole

pub returns : goal.returns
returns t c = let a = goal.at.returns t c in ap concat c.in_ok-tree-2.ensures ∙ (joins t a.After-height-3 (seam_is t a.In-Some)).text
