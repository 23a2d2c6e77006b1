use Rattle.std.proofs.Common.{◌≡◌, ℕ, ◌+◌, ◌++◌, ◌==◌, true, List, OnOk, vec_len, ap, sym, subst, ◌∙◌, arith}
use Rattle.std.proofs.lemmas.Bool.Decides.{nat_tests}
use Rattle.std.proofs.lemmas.List.{nil_from_length}
use Rattle.ropey.specs.Chunks.{text_of}
use Rattle.rope_search_reports.specs.Drafts.{AddsRows, lines_between}
use Rattle.rope_search_reports.specs.Text.{line_count}
use Rattle.rope_search_reports.proofs.reports.push_rows_ahead.Goals as goal

zero-is : (n : ℕ) → (n == 0) ≡ true → n ≡ 0
zero-is n is = grind (arith, nat_tests, is)

pub pass-requires : goal.pass-requires
pass-requires c = omega (arith, c.requires.ordered, c.requires.within, c.requires.ahead, c.line_idx.ensures.line, ap line_count c.requires.walks)

pub push_rows-requires : goal.push_rows-requires
push_rows-requires c =
    omega (arith, c.requires.within, c.requires.ahead, c.line_idx.ensures.line, c.if-end-first-ne1.false, c.pass.ensures.line, ap line_count (c.pass.ensures.text ∙ c.requires.walks))

pub returns-then-is_empty-clause-rows : goal.returns-then-is_empty-clause-rows
returns-then-is_empty-clause-rows c =
    let none = zero-is (vec_len c.args.rows.now) (sym c.is_empty.ensures ∙ c.if-is_empty.true) in
    record {
      made = c.in_ok-made.made.items;
      are = c.in_ok-made.ensures.rows;
      behind = ap (λ rs. rs ++ c.in_ok-made.made.items) (sym (nil_from_length c.args.rows.now.items (omega (arith, none, c.args.rows.now.ok.0))));
    }

pub returns-then-end-first-ne1-clause-rows : goal.returns-then-end-first-ne1-clause-rows
returns-then-end-first-ne1-clause-rows c = record {
  made = c.in_ok-made.made.items;
  are = c.in_ok-made.ensures.rows;
  behind = c.in_ok-append.ensures.items;
}

pub returns-clause-rows : goal.returns-clause-rows
returns-clause-rows c =
    let pattern = c.args.finder.now in
    let text = text_of c.args.text.now in
    let first = c.args.first in
    let walk = c.pass.new.self in
    let rows = c.push_rows.new.rows.items in
    let text_is : walk.text ≡ text = c.pass.ensures.text ∙ c.requires.walks in
    let line_is : walk.line ≡ first = omega (arith, c.pass.ensures.line, c.requires.ahead, c.line_idx.ensures.line) in
    let end_is : first + 1 ≡ c.args.end = omega (arith, c.if-end-first-ne1.false) in
    let adds : List ℕ → ℕ → ℕ → Type 0 = λ t from to. OnOk c.push_rows.result (AddsRows pattern (lines_between t from to) c.args.rows.now.items rows) in
    subst (λ n. adds text first n) end_is
    (subst (λ n. adds text n (n + 1)) line_is
    (subst (λ t. adds t walk.line (walk.line + 1)) text_is c.push_rows.ensures.rows))
