use Rattle.std.proofs.Common.{length, get_or, ap, arith}
use Rattle.rope_search.proofs.LineLaws.{no_line}
use Rattle.rope_search.proofs.HeaderLemmas.{header_text, header_edit, header_next, header_pattern, header_replace, header_use}
use Rattle.rope_search.proofs.headers.header_of.Goals as goal

pub returns-in-Some-clause-found : goal.returns-in-Some-clause-found
returns-in-Some-clause-found c = header_text c.args.line.now c.in-Some.len c.in-Some.ensures.found

pub returns-in-Some-edit_of-clause-found : goal.returns-in-Some-edit_of-clause-found
returns-in-Some-edit_of-clause-found c =
    header_edit c.args.line.now c.in-Some-edit_of.from c.in-Some-edit_of.to c.in-Some-edit_of.len c.in-Some-edit_of.ensures.found

pub returns-in-Some-number_after-clause-found : goal.returns-in-Some-number_after-clause-found
returns-in-Some-number_after-clause-found c = header_pattern c.args.line.now c.in-Some-number_after.len c.in-Some-number_after.ensures.found

pub returns-in-Some-position_after-clause-found : goal.returns-in-Some-position_after-clause-found
returns-in-Some-position_after-clause-found c = header_next c.args.line.now c.in-Some-position_after.from c.in-Some-position_after.ensures.found

pub returns-in-Some-number_after-2-clause-found : goal.returns-in-Some-number_after-2-clause-found
returns-in-Some-number_after-2-clause-found c = header_replace c.args.line.now c.in-Some-number_after-2.len c.in-Some-number_after-2.ensures.found

pub returns-in-Some-number_after-3-clause-found : goal.returns-in-Some-number_after-3-clause-found
returns-in-Some-number_after-3-clause-found c = header_use c.args.line.now c.in-Some-number_after-3.number c.in-Some-number_after-3.ensures.found

pub returns-in_default-line-22-clause-none : goal.returns-in_default-line-22-clause-none
returns-in_default-line-22-clause-none c =
    let no_text = c.in_default.ensures.none in
    let no_edit = c.in_default-edit_of.ensures.none in
    let no_pattern = c.in_default-number_after.ensures.none in
    let no_next = c.in_default-position_after.ensures.none in
    let no_replace = c.in_default-number_after-2.ensures.none in
    let no_use = c.in_default-number_after-3.ensures.none in
    no_line c.args.line.now (record {
      no_text = no_text;
      no_edit = no_edit;
      no_undo = λ e. omega (arith, ap length e, ap (λ l. get_or l 0 0) e, ap (λ l. get_or l 1 0) e, ap (λ l. get_or l 2 0) e, ap (λ l. get_or l 3 0) e, ap (λ l. get_or l 4 0) e);
      no_redo = λ e. omega (arith, ap length e, ap (λ l. get_or l 0 0) e, ap (λ l. get_or l 1 0) e, ap (λ l. get_or l 2 0) e, ap (λ l. get_or l 3 0) e, ap (λ l. get_or l 4 0) e);
      no_print = λ e. omega (arith, ap length e, ap (λ l. get_or l 0 0) e, ap (λ l. get_or l 1 0) e, ap (λ l. get_or l 2 0) e, ap (λ l. get_or l 3 0) e, ap (λ l. get_or l 4 0) e);
      no_fork = λ e. omega (arith, ap length e, ap (λ l. get_or l 0 0) e, ap (λ l. get_or l 1 0) e, ap (λ l. get_or l 2 0) e, ap (λ l. get_or l 3 0) e, ap (λ l. get_or l 4 0) e);
      no_pattern = no_pattern;
      no_off = λ e. omega (arith, ap length e, ap (λ l. get_or l 0 0) e, ap (λ l. get_or l 1 0) e, ap (λ l. get_or l 2 0) e, ap (λ l. get_or l 3 0) e, ap (λ l. get_or l 4 0) e);
      no_list = λ e. omega (arith, ap length e, ap (λ l. get_or l 0 0) e, ap (λ l. get_or l 1 0) e, ap (λ l. get_or l 2 0) e, ap (λ l. get_or l 3 0) e, ap (λ l. get_or l 4 0) e);
      no_next = no_next;
      no_replace = no_replace;
      no_use = no_use;
    })

pub returns-in_default-line-23-clause-none : goal.returns-in_default-line-23-clause-none
returns-in_default-line-23-clause-none c =
    let no_text = c.in_default.ensures.none in
    let no_edit = c.in_default-edit_of.ensures.none in
    let no_pattern = c.in_default-number_after.ensures.none in
    let no_next = c.in_default-position_after.ensures.none in
    let no_replace = c.in_default-number_after-2.ensures.none in
    let no_use = c.in_default-number_after-3.ensures.none in
    no_line c.args.line.now (record {
      no_text = no_text;
      no_edit = no_edit;
      no_undo = λ e. omega (arith, ap length e, ap (λ l. get_or l 0 0) e, ap (λ l. get_or l 1 0) e, ap (λ l. get_or l 2 0) e, ap (λ l. get_or l 3 0) e, ap (λ l. get_or l 4 0) e);
      no_redo = λ e. omega (arith, ap length e, ap (λ l. get_or l 0 0) e, ap (λ l. get_or l 1 0) e, ap (λ l. get_or l 2 0) e, ap (λ l. get_or l 3 0) e, ap (λ l. get_or l 4 0) e);
      no_print = λ e. omega (arith, ap length e, ap (λ l. get_or l 0 0) e, ap (λ l. get_or l 1 0) e, ap (λ l. get_or l 2 0) e, ap (λ l. get_or l 3 0) e, ap (λ l. get_or l 4 0) e);
      no_fork = λ e. omega (arith, ap length e, ap (λ l. get_or l 0 0) e, ap (λ l. get_or l 1 0) e, ap (λ l. get_or l 2 0) e, ap (λ l. get_or l 3 0) e, ap (λ l. get_or l 4 0) e);
      no_pattern = no_pattern;
      no_off = λ e. omega (arith, ap length e, ap (λ l. get_or l 0 0) e, ap (λ l. get_or l 1 0) e, ap (λ l. get_or l 2 0) e, ap (λ l. get_or l 3 0) e, ap (λ l. get_or l 4 0) e);
      no_list = λ e. omega (arith, ap length e, ap (λ l. get_or l 0 0) e, ap (λ l. get_or l 1 0) e, ap (λ l. get_or l 2 0) e, ap (λ l. get_or l 3 0) e, ap (λ l. get_or l 4 0) e);
      no_next = no_next;
      no_replace = no_replace;
      no_use = no_use;
    })
