use Rattle.std.proofs.Common.{List, ℕ, ap, sym, subst, arith, length, length-append, Err}
use Rattle.std.proofs.lemmas.Result.{err_from_is_err_and}
use Rattle.std.specs.Prelude.{encode_utf8_all}
use Rattle.ropey.specs.Reading.{BeginsText, IsCutAt}
use Rattle.ropey.proofs.ReadLemmas.{begins_behind, begins_cut, meets_utf8, kept_part}
use Rattle.ropey.proofs.read_window.ReadWindow.give_text.Goals as goal

pub returns-in_err-text-clause-fault : goal.returns-in_err-text-clause-fault
returns-in_err-text-clause-fault c =
    let p = err_from_is_err_and c.from_residual.result c.from_residual.ensures.1 in
    let e = c.in_err-text.ensures in
    let none = subst (λ (bytes : List ℕ). BeginsText bytes → ⊥) c.self.view_is e.none in
    rw (p.1, p.2) (λ left. meets_utf8 c.in_err-text.field-0.0 (encode_utf8_all c.args.builder.now) c.args.self.now left e.refused c.requires none)

pub returns-in-Err-Size-clause-fault : goal.returns-in-Err-Size-clause-fault
returns-in-Err-Size-clause-fault c = λ left.
    let text = c.in_ok-text.text.now in
    let cut = c.in_ok-text.ensures.text in
    let whole = subst (λ (bytes : List ℕ). IsCutAt bytes text cut.0) c.self.view_is cut.1 in
    let front = encode_utf8_all c.args.builder.now in
    let over = c.in-Err-Size.ensures.size.0 (ap Err c.in-Err-Size.field-0-is) in
    (begins_behind front c.args.self.now c.requires (begins_cut c.args.self.now text cut.0 whole), omega (arith, over, length-append front c.args.self.now, ap length whole.parts, length-append text cut.0))

pub returns-in-Err : goal.returns-in-Err
returns-in-Err c =
    let text = c.in_ok-text.text.now in
    let cut = c.in_ok-text.ensures.text in
    let whole = subst (λ (bytes : List ℕ). IsCutAt bytes text cut.0) c.self.view_is cut.1 in
    record { text = tt; fault = λ left. begins_behind (encode_utf8_all c.args.builder.now) c.args.self.now c.requires (begins_cut c.args.self.now text cut.0 whole) }

pub returns-clause-text : goal.returns-clause-text
returns-clause-text c =
    let inside = c.self.inside in
    let text = c.in_ok-text.text.now in
    let cut = c.in_ok-text.ensures.text in
    let whole = subst (λ (bytes : List ℕ). IsCutAt bytes text cut.0) c.self.view_is cut.1 in
    let stays = kept_part inside.bytes text cut.0 c.copy_from_slice.new.self c.copy_from_slice-2.new.self _ _ inside.len cut.1.parts (omega arith) c.copy_from_slice.ensures.after c.copy_from_slice-2.ensures.after in
    (text, subst (λ (rest : List ℕ). IsCutAt c.args.self.now text rest) (sym stays) whole, c.in-Ok.ensures.text)
