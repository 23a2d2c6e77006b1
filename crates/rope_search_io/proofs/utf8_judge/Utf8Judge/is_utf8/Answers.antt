use Rattle.std.proofs.Common.{◌≡◌, ◌↔◌, [], Bool, false, IsTrue, eqb, take, sym, ap, ◌∙◌, subst, arith}
use Rattle.rope_search_io.specs.Utf8Judge.{Judging, Continues}
use Rattle.rope_search_io.proofs.Utf8Lemmas.{Continues-end}
use Rattle.rope_search_io.proofs.utf8_judge.Utf8Judge.is_utf8.Goals as goal

pub returns-then-not-self : goal.returns-then-not-self
returns-then-not-self c =
    let inside = c.self.inside in
    let part = take inside.len inside.part in
    let old : record { part = part; dead = false } ≡ c.args.self.now = ap (λ (d : Bool). record { part = part; dead = d }) (sym c.if-not-self.true) ∙ c.self.view_is in
    subst (λ (j : Judging). IsTrue (eqb inside.len 0) ↔ Continues j []) old (Continues-end inside.part inside.len (omega arith) c.self.invariant.1)
