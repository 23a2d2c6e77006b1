use Rattle.std.proofs.Common.{◌≡◌, take, drop, ap, ◌∙◌, arith}
use Rattle.std.specs.Str.{chars}
use Rattle.str_indices.specs.Text.{byte_len}
use Rattle.ropey_tree.proofs.Splitting.{slice_front}
use Rattle.ropey_tree.proofs.Editing.{front_bytes, back_bytes, two_cut, two_text}
use Rattle.ropey_tree.proofs.edits.two_leaves.Goals as goal

pub returns-clause-text : goal.returns-clause-text
returns-clause-text c =
    let text = c.args.text.now in
    let at = c.middle-at.result in
    let front : c.in_ok-front.front ≡ chars (take at text) = c.in_ok-front.ensures ∙ ap chars (c.range.ensures.value ∙ slice_front text at) in
    let back : c.in_ok-back.back ≡ chars (drop at text) = c.in_ok-back.ensures ∙ ap chars c.range_from.ensures.value in
    rw (front, back) (two_text text at c.utf8.text c.middle-at.ensures.boundary)

pub returns-clause-cut : goal.returns-clause-cut
returns-clause-cut c =
    let text = c.args.text.now in
    let at = c.middle-at.result in
    let e = c.middle-at.ensures in
    let front : c.in_ok-front.front ≡ chars (take at text) = c.in_ok-front.ensures ∙ ap chars (c.range.ensures.value ∙ slice_front text at) in
    let back : c.in_ok-back.back ≡ chars (drop at text) = c.in_ok-back.ensures ∙ ap chars c.range_from.ensures.value in
    rw (front, back) (two_cut text at c.utf8.text e.boundary e.front e.back e.whole)

pub returns-clause-front : goal.returns-clause-front
returns-clause-front c =
    let text = c.args.text.now in
    let at = c.middle-at.result in
    let e = c.middle-at.ensures in
    let front : c.in_ok-front.front ≡ chars (take at text) = c.in_ok-front.ensures ∙ ap chars (c.range.ensures.value ∙ slice_front text at) in
    omega (arith, e.front.0, ap byte_len front, front_bytes text at c.utf8.text e.boundary)

pub returns-clause-back : goal.returns-clause-back
returns-clause-back c =
    let text = c.args.text.now in
    let at = c.middle-at.result in
    let e = c.middle-at.ensures in
    let back : c.in_ok-back.back ≡ chars (drop at text) = c.in_ok-back.ensures ∙ ap chars c.range_from.ensures.value in
    omega (arith, e.back.0, ap byte_len back, back_bytes text at c.utf8.text e.boundary)
