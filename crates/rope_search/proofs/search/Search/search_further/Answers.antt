use Rattle.std.proofs.Common.{◌≡◌, ◌+◌, ◌-◌, ◌≤◌, ◌++◌, length, ap, sym, subst, ◌∙◌, arith, length-append}
use Rattle.std.proofs.lemmas.Grind.{common_steps}
use Rattle.ropey.specs.Chunks.{text_of}
use Rattle.rope_search.specs.Pending.{AreFirstRows}
use Rattle.rope_search.proofs.PendingLemmas.{made-length, rows-further}
use Rattle.rope_search.proofs.search.Search.search_further.Goals as goal

pub returns-clause-rows : goal.returns-clause-rows
returns-clause-rows c =
    let text = text_of c.args.text.now in
    let finder = c.args.self.now.finder in
    let rows = c.args.self.now.rows.items in
    let made = c.in_ok-made.made.items in
    let done = c.len-done.result in
    let long : done ≡ length rows = grind (arith, common_steps) in
    let all : c.append.new.self.items ≡ rows ++ made = c.in_ok-append.ensures.items ∙ ap (λ l. l ++ made) c.reserve.ensures.items in
    subst (λ rs. AreFirstRows text finder (length rs) rs) (sym all)
    (rows-further text finder rows made done (done + c.min.result) c.requires long (omega arith) (omega (arith, c.min.ensures, c.len_lines.ensures, long, c.requires.within)) c.in_ok-made.ensures.rows)

pub returns-clause-done : goal.returns-clause-done
returns-clause-done c =
    let text = text_of c.args.text.now in
    let finder = c.args.self.now.finder in
    let rows = c.args.self.now.rows.items in
    let made = c.in_ok-made.made.items in
    let done = c.len-done.result in
    let long : done ≡ length rows = grind (arith, common_steps) in
    let all : c.append.new.self.items ≡ rows ++ made = c.in_ok-append.ensures.items ∙ ap (λ l. l ++ made) c.reserve.ensures.items in
    let some : length made ≡ (done + c.min.result) - done =
    made-length text finder made done (done + c.min.result) (omega arith) (omega (arith, c.min.ensures, c.len_lines.ensures, long, c.requires.within)) c.in_ok-made.ensures.rows in
    omega (arith, ap length all, length-append rows made, some, long, c.min.ensures, c.len_lines.ensures)
