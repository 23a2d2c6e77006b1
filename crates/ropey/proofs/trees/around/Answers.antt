use Rattle.std.proofs.Common.{◌≡◌, ◌++◌, ℕ, [], refl, sym, subst, ◌∙◌, arith}
use Rattle.ropey_tree.specs.Edits.{IsReplaced}
use Rattle.ropey_tree.specs.Splits.{pieces_in}
use Rattle.ropey.specs.Chunks.{text_of}
use Rattle.ropey.proofs.Pieces.{bytes-concat}
use Rattle.ropey.proofs.Editing.{removed_text}
use Rattle.ropey.proofs.trees.around.Goals as goal

pub returns-then-from-to-clause-gone : goal.returns-then-from-to-clause-gone
returns-then-from-to-clause-gone c =
    let ps = c.args.node.now.value.pieces in
    let l = pieces_in c.in_ok-halves.halves.left in
    let r = pieces_in c.in_ok-halves.halves.right in
    let same : c.args.from ≡ c.args.to = omega (arith, c.if-from-to.true) in
    subst (λ (to : ℕ). IsReplaced (text_of ps) c.args.from to [] (text_of l ++ text_of r)) same
    (removed_text ps l r l r c.args.from c.args.from (text_of l ++ text_of r) (omega arith) c.in_ok-halves.ensures c.in_ok-halves.ensures refl)

pub returns-then-from-to-clause-place : goal.returns-then-from-to-clause-place
returns-then-from-to-clause-place c = sym (bytes-concat (pieces_in c.in_ok-halves.halves.left)) ∙ c.in_ok-halves.ensures.place

pub returns-clause-gone : goal.returns-clause-gone
returns-clause-gone c =
    let ps = c.args.node.now.value.pieces in
    let left = c.in_ok-left.ensures.front in
    let right = c.in_ok-right.ensures.back in
    let l = pieces_in c.in_ok-left.left in
    let r = pieces_in c.in_ok-right.right in
    removed_text ps l left.rest right.front r c.args.from c.args.to (text_of l ++ text_of r) c.requires.order left.split right.split refl

pub returns-clause-place : goal.returns-clause-place
returns-clause-place c = sym (bytes-concat (pieces_in c.in_ok-left.left)) ∙ c.in_ok-left.ensures.front.split.place
