use Rattle.std.proofs.Common.{◌≡◌, ℕ, ◌+◌, ◌-◌, ◌/◌, ◌≤◌, false, List, ◌++◌, length, take, drop, ap, sym, ◌∙◌, arith}
use Rattle.std.specs.Str.{chars, IsCharBoundary}
use Rattle.std.proofs.lemmas.Str.{IsCharBoundary-start, chars-nil}
use Rattle.str_indices.specs.Text.{byte_len}
use Rattle.ropey_tree.specs.Cutting.{cuts_cr_lf}
use Rattle.ropey_tree.proofs.Editing.{back_bytes}
use Rattle.ropey_tree.proofs.Merging.{cr_lf_between, over_between, whole_cut}
use Rattle.ropey_tree.proofs.seams.Seam.of.Goals as goal

-- a seam with the whole of the one text cuts nothing
none_before : (bytes rest : List ℕ) → cuts_cr_lf (chars (take 0 bytes)) rest ≡ false
none_before bytes rest = ap (λ t. cuts_cr_lf t rest) chars-nil

pub over-requires-clause-from : goal.over-requires-clause-from
over-requires-clause-from c = IsCharBoundary-start c.as_str-front.result.now c.as_str-front.utf8

pub over-requires-then-front-le-MIN_BYTES-clause-from : goal.over-requires-then-front-le-MIN_BYTES-clause-from
over-requires-then-front-le-MIN_BYTES-clause-from c = IsCharBoundary-start c.as_str-front.result.now c.as_str-front.utf8

pub returns-then-len-lt-MAX_BYTES-clause-between : goal.returns-then-len-lt-MAX_BYTES-clause-between
returns-then-len-lt-MAX_BYTES-clause-between c =
    let front = c.as_str-front.result.now in
    let back = c.as_str-back.result.now in
    let start = IsCharBoundary-start front c.as_str-front.utf8 in
    let end : IsCharBoundary back (length back) = (omega arith, λ past. absurd (omega (arith, past))) in
    let whole = none_before front (chars (drop 0 front) ++ chars (take (length back) back)) in
    rw (c.over.ensures.from, c.over.ensures.to)
    (over_between front back c.args.last.now c.args.first.now 0 (length back) c.over.result.leaf c.as_str-front.utf8 c.as_str-back.utf8 c.as_str-front.ensures.text c.as_str-back.ensures.text start end c.over.ensures.leaf whole)

pub returns-then-front-le-MIN_BYTES-clause-between : goal.returns-then-front-le-MIN_BYTES-clause-between
returns-then-front-le-MIN_BYTES-clause-between c =
    let front = c.as_str-front.result.now in
    let back = c.as_str-back.result.now in
    let to = c.fill_end-to.result in
    let over = c.over-then-front-le-MIN_BYTES in
    let start = IsCharBoundary-start front c.as_str-front.utf8 in
    let whole = none_before front (chars (drop 0 front) ++ chars (take to back)) in
    rw (over.ensures.from, over.ensures.to)
    (over_between front back c.args.last.now c.args.first.now 0 to over.result.leaf c.as_str-front.utf8 c.as_str-back.utf8 c.as_str-front.ensures.text c.as_str-back.ensures.text start c.fill_end-to.ensures.boundary over.ensures.leaf whole)

pub returns-then-back-le-MIN_BYTES-clause-between : goal.returns-then-back-le-MIN_BYTES-clause-between
returns-then-back-le-MIN_BYTES-clause-between c =
    let front = c.as_str-front.result.now in
    let back = c.as_str-back.result.now in
    let from = c.fill_end-from.result in
    let room = (length front + length back) / 2 in
    let over = c.over-then-back-le-MIN_BYTES in
    let end : IsCharBoundary back (length back) = (omega arith, λ past. absurd (omega (arith, past))) in
    let more : 1 ≤ byte_len (chars (drop from front)) = omega (arith, back_bytes front from c.as_str-front.utf8 c.fill_end-from.ensures.boundary, c.fill_end-from.ensures.fits, c.if-len-lt-MAX_BYTES.false, c.if-back-le-MIN_BYTES.true) in
    let some : 1 ≤ room = omega (arith, c.if-len-lt-MAX_BYTES.false) in
    let whole = whole_cut (chars (take from front)) (chars (drop from front)) (chars (take (length back) back)) from room more some c.fill_end-from.ensures.cr c.fill_end-from.ensures.lf in
    rw (over.ensures.from, over.ensures.to)
    (over_between front back c.args.last.now c.args.first.now from (length back) over.result.leaf c.as_str-front.utf8 c.as_str-back.utf8 c.as_str-front.ensures.text c.as_str-back.ensures.text c.fill_end-from.ensures.boundary end over.ensures.leaf whole)

pub returns-then-is_lf_first-clause-between : goal.returns-then-is_lf_first-clause-between
returns-then-is_lf_first-clause-between c =
    let cr = sym c.is_cr_last.ensures ∙ c.if-is_cr_last.true in
    let lf = sym c.is_lf_first.ensures ∙ c.if-is_lf_first.true in
    let len : length c.as_str-front.result.now - 1 + 1 ≡ byte_len c.args.last.now = omega (arith, ap length c.as_str-front.ensures.bytes, c.as_str-front.ensures.piece.not_empty) in
    rw c.cr_lf.ensures.text (cr_lf_between c.args.last.now c.args.first.now (length c.as_str-front.result.now - 1) cr lf len)
