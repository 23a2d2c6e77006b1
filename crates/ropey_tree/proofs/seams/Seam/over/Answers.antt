use Rattle.std.proofs.Common.{◌≡◌, ℕ, List, ◌++◌, length, take, drop, ap, ◌∙◌, arith}
use Rattle.std.specs.Str.{chars}
use Rattle.std.proofs.Math.Seq.{take-length}
use Rattle.str_indices.specs.Text.{byte_len}
use Rattle.ropey_tree.proofs.Texts.{byte_len-append}
use Rattle.ropey_tree.proofs.Splitting.{slice_front}
use Rattle.ropey_tree.proofs.Editing.{front_bytes, back_bytes}
use Rattle.ropey_tree.proofs.seams.Seam.over.Goals as goal
use Rattle.ropey_tree.proofs.seams.Seam.over.Goals.{After-fill-2}

-- both parts fit
both_in : (c : After-fill-2) → c.fill-2.new.self ≡ chars (drop c.args.from c.args.last.now) ++ chars (take c.args.to c.args.first.now)
both_in c =
    let a = c.range_from.result.now in
    let b = c.range.result.now in
    let back = chars (drop c.args.from c.args.last.now) in
    let whole : (t : List ℕ) (n : ℕ) → n ≡ length t → take n t ≡ t = λ t n e. ap (λ m. take m t) e ∙ take-length t in
    let n1 = c.fill.ensures.all (omega (arith, ap byte_len c.new-leaf.ensures, c.range_from.ensures.len, c.requires.room, c.requires.from.0)) in
    let t1 : c.fill.new.self ≡ back = c.fill.ensures.text ∙ ap (λ t. t ++ chars (take c.fill.result a)) c.new-leaf.ensures ∙ ap chars (whole a c.fill.result n1 ∙ c.range_from.ensures.value) in
    let len = ap byte_len t1 ∙ back_bytes c.args.last.now c.args.from c.utf8.last c.requires.from in
    let n2 = c.fill-2.ensures.all (omega (arith, len, c.range.ensures.len, c.requires.room, c.requires.from.0)) in
    let front = whole b c.fill-2.result n2 ∙ c.range.ensures.value ∙ slice_front c.args.first.now c.args.to in
    c.fill-2.ensures.text ∙ ap (λ t. t ++ chars (take c.fill-2.result b)) t1 ∙ ap (λ t. back ++ chars t) front

pub returns-clause-some : goal.returns-clause-some
returns-clause-some c =
    let a = (goal.at.returns-clause-some c).After-fill-2 in
    let back = back_bytes c.args.last.now c.args.from c.utf8.last c.requires.from in
    let front = front_bytes c.args.first.now c.args.to c.utf8.first c.requires.to in
    omega (arith, ap byte_len (both_in a), byte_len-append (chars (drop c.args.from c.args.last.now)) (chars (take c.args.to c.args.first.now)), back, front, c.requires.some, c.requires.from.0)

pub returns-clause-leaf : goal.returns-clause-leaf
returns-clause-leaf c = both_in (goal.at.returns-clause-leaf c).After-fill-2
