use Rattle.std.proofs.Common.{ℕ, List, length, ap, sym, subst, arith}
use Rattle.std.specs.Str.{chars}
use Rattle.std.proofs.lemmas.Str.{encodes-chars}
use Rattle.str_indices.specs.Text.{byte_len}
use Rattle.ropey_tree.specs.Edits.{IsReplaced}
use Rattle.ropey_tree.specs.Splits.{pieces_in}
use Rattle.ropey.specs.Chunks.{text_of}
use Rattle.ropey.proofs.Pieces.{byte_len-append, bytes-concat}
use Rattle.ropey.proofs.Editing.{IsAround, around_fits, edited_text, put_between, replaced_none}
use Rattle.ropey.proofs.trees.replaced.Goals as goal

pub returns-in_ok-tree-in-None : goal.returns-in_ok-tree-in-None
returns-in_ok-tree-in-None c =
    replaced_none (pieces_in c.args.root.now) c.args.from c.args.to (chars c.args.text.now) (text_of (pieces_in c.in_ok-tree-in-None.tree)) (ap pieces_in c.in-None.is) c.requires.starts c.requires.ends c.in_ok-tree-in-None.ensures

pub returns-in-Some-2 : goal.returns-in-Some-2
returns-in-Some-2 c =
    let v = c.in-Some.node.value in
    let w = c.in-Some-2.edited.value in
    let h = rw c.in-Some-2.is at c.in_ok-edited-in-Some.ensures in
    subst (λ (t : List ℕ). IsReplaced t c.args.from c.args.to (chars c.args.text.now) (text_of w.pieces)) (ap (λ t. text_of (pieces_in t)) (sym c.in-Some.is))
    (edited_text v w c.args.from c.args.to (chars c.args.text.now) c.requires.order h.edited)

pub extended-requires : goal.extended-requires
extended-requires c =
    let known = c.in_ok-rest-in-Some.ensures in
    let l = text_of (pieces_in c.in_ok-rest-in-Some.rest.left) in
    let r = text_of (pieces_in c.in_ok-rest-in-Some.rest.right) in
    let whole = text_of c.in-Some.node.value.pieces in
    let around : IsAround whole c.args.from c.args.to l r = record { gone = known.gone; place = known.place } in
    record { fits = omega (arith, c.requires.fits, ap (λ t. byte_len (text_of (pieces_in t))) c.in-Some.is, around_fits whole l r c.args.from c.args.to c.requires.order around) }

pub append-requires : goal.append-requires
append-requires c =
    let known = c.in_ok-rest-in-Some.ensures in
    let text = c.args.text.now in
    let front = pieces_in c.in_ok-front-in-Some.front in
    let right = pieces_in c.in_ok-rest-in-Some.rest.right in
    let l = text_of (pieces_in c.in_ok-rest-in-Some.rest.left) in
    let whole = text_of c.in-Some.node.value.pieces in
    let around : IsAround whole c.args.from c.args.to l (text_of right) = record { gone = known.gone; place = known.place } in
    record {
      fits = omega (
        arith,
        c.requires.fits,
        ap (λ t. byte_len (text_of (pieces_in t))) c.in-Some.is,
        around_fits whole l (text_of right) c.args.from c.args.to c.requires.order around,
        bytes-concat front,
        bytes-concat right,
        ap byte_len c.in_ok-front-in-Some.ensures,
        byte_len-append l (chars text),
        ap length (encodes-chars text c.utf8.text),
      );
    }

pub returns-in_ok-tree-in-Some : goal.returns-in_ok-tree-in-Some
returns-in_ok-tree-in-Some c =
    let known = c.in_ok-rest-in-Some.ensures in
    let l = text_of (pieces_in c.in_ok-rest-in-Some.rest.left) in
    let r = text_of (pieces_in c.in_ok-rest-in-Some.rest.right) in
    let text = chars c.args.text.now in
    let longer = text_of (pieces_in c.in_ok-front-in-Some.front) in
    let new = text_of (pieces_in c.in_ok-tree-in-Some.tree) in
    let whole = text_of c.in-Some.node.value.pieces in
    let around : IsAround whole c.args.from c.args.to l r = record { gone = known.gone; place = known.place } in
    let done = put_between whole l r text longer new c.args.from c.args.to around c.in_ok-front-in-Some.ensures c.in_ok-tree-in-Some.ensures.text in
    subst (λ (t : List ℕ). IsReplaced t c.args.from c.args.to text new) (ap (λ t. text_of (pieces_in t)) (sym c.in-Some.is)) done
