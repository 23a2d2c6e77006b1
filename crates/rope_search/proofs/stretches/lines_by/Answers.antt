use Rattle.std.proofs.Common.{◌+◌, ◌∷◌, [], ap, arith}
use Rattle.ropey.specs.Chunks.{text_of}
use Rattle.rope_search_reports.specs.Text.{IsText}
use Rattle.rope_search.proofs.PartLaws.{cutting_scalars}
use Rattle.rope_search.proofs.StretchLemmas.{change-part, change-within}
use Rattle.rope_search.proofs.stretches.lines_by.Goals as goal

pub byte_to_line-first-requires : goal.byte_to_line-first-requires
byte_to_line-first-requires c = (change-within c.args.change (text_of c.args.old.now) (text_of c.args.new.now) c.requires.0 c.requires.1).0

pub byte_to_line-gone-requires : goal.byte_to_line-gone-requires
byte_to_line-gone-requires c = (change-within c.args.change (text_of c.args.old.now) (text_of c.args.new.now) c.requires.0 c.requires.1).1

pub byte_to_line-end-requires : goal.byte_to_line-end-requires
byte_to_line-end-requires c = (change-within c.args.change (text_of c.args.old.now) (text_of c.args.new.now) c.requires.0 c.requires.1).2

pub overflow_sub-result : goal.overflow_sub-result
overflow_sub-result c =
    let part = change-part c.changes_keep_lines.ensures c.tails_keep_lines.ensures c.args.change (text_of c.args.old.now) (text_of c.args.new.now) c.requires.0
    c.byte_to_line-first.result (c.byte_to_line-gone.result + 1) (c.byte_to_line-end.result + 1) c.requires.1
    c.byte_to_line-first.ensures (ap (λ n. n + 1) c.byte_to_line-gone.ensures) (ap (λ n. n + 1) c.byte_to_line-end.ensures) in
    part.ordered

pub overflow_sub-result-2 : goal.overflow_sub-result-2
overflow_sub-result-2 c =
    let part = change-part c.changes_keep_lines.ensures c.tails_keep_lines.ensures c.args.change (text_of c.args.old.now) (text_of c.args.new.now) c.requires.0
    c.byte_to_line-first.result (c.byte_to_line-gone.result + 1) (c.byte_to_line-end.result + 1) c.requires.1
    c.byte_to_line-first.ensures (ap (λ n. n + 1) c.byte_to_line-gone.ensures) (ap (λ n. n + 1) c.byte_to_line-end.ensures) in
    part.ordered_new

pub returns-clause-lines : goal.returns-clause-lines
returns-clause-lines c =
    let part = change-part c.changes_keep_lines.ensures c.tails_keep_lines.ensures c.args.change (text_of c.args.old.now) (text_of c.args.new.now) c.requires.0
    c.byte_to_line-first.result (c.byte_to_line-gone.result + 1) (c.byte_to_line-end.result + 1) c.requires.1
    c.byte_to_line-first.ensures (ap (λ n. n + 1) c.byte_to_line-gone.ensures) (ap (λ n. n + 1) c.byte_to_line-end.ensures) in
    part.lines

pub returns-clause-added : goal.returns-clause-added
returns-clause-added c =
    let new = text_of c.args.new.now in
    let is_text : IsText new = cutting_scalars c.args.new.now c.len_bytes-gone.ensures.cut.cut in
    let part = change-part c.changes_keep_lines.ensures c.tails_keep_lines.ensures c.args.change (text_of c.args.old.now) new c.requires.0
    c.byte_to_line-first.result (c.byte_to_line-gone.result + 1) (c.byte_to_line-end.result + 1) c.requires.1
    c.byte_to_line-first.ensures (ap (λ n. n + 1) c.byte_to_line-gone.ensures) (ap (λ n. n + 1) c.byte_to_line-end.ensures) in
    omega (arith, part.few, c.changes_put_lines.ensures (c.args.change ∷ []) (text_of c.args.old.now) new c.requires.0 is_text c.requires.1)
