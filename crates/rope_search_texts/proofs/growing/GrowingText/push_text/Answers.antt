use Rattle.std.proofs.Common.{◌≡◌, ◌++◌, sym, ap}
use Rattle.std.proofs.lemmas.Result.{err_from_is_err_and}
use Rattle.rope_search_texts.proofs.GrowingLemmas.{none_from, stops_pushed, pushed, scalars_pushed}
use Rattle.rope_search_texts.proofs.growing.GrowingText.push_text.Goals as goal

pub returns-in_err-self-inside-clause-stops : goal.returns-in_err-self-inside-clause-stops
returns-in_err-self-inside-clause-stops c =
    let p = err_from_is_err_and c.from_residual.result c.from_residual.ensures.1 in
    let inside = c.self.inside in
    let bytes = c.args.bytes.now in
    let is : bytes ≡ inside.part.items ++ bytes = sym (ap (λ l. l ++ bytes) (none_from inside.part.items c.is_empty.result c.is_empty.ensures c.if-not-is_empty.false)) in
    rw (p.1, p.2) (stops_pushed inside.text inside.part.items bytes c.args.self.now bytes c.self.invariant.0 is c.self.view_is _ c.in_err-self-inside.ensures.stops)

pub invariant_of-self-2 : goal.invariant_of-self-2
invariant_of-self-2 c =
    let inside = c.self.inside in
    let bytes = c.args.bytes.now in
    let is : bytes ≡ inside.part.items ++ bytes = sym (ap (λ l. l ++ bytes) (none_from inside.part.items c.is_empty.result c.is_empty.ensures c.if-not-is_empty.false)) in
    let told = c.in_ok-self-inside.ensures.text in
    (scalars_pushed inside.text inside.part.items bytes c.args.self.now bytes c.self.invariant.0 is c.self.view_is c.append_text.new.text told.0 c.in_ok-self-inside.field-0.items told.1 told.2, told.1.no_text, told.1.short)

pub returns-clause-bytes : goal.returns-clause-bytes
returns-clause-bytes c =
    let inside = c.self.inside in
    let bytes = c.args.bytes.now in
    let is : bytes ≡ inside.part.items ++ bytes = sym (ap (λ l. l ++ bytes) (none_from inside.part.items c.is_empty.result c.is_empty.ensures c.if-not-is_empty.false)) in
    let told = c.in_ok-self-inside.ensures.text in
    pushed inside.text inside.part.items bytes c.args.self.now bytes c.self.invariant.0 is c.self.view_is c.append_text.new.text told.0 c.in_ok-self-inside.field-0.items told.1 told.2
