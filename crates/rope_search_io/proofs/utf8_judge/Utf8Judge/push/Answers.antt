use Rattle.std.proofs.Common.{◌≡◌, ◌+◌, ◌<◌, ◌∷◌, [], ◌++◌, ◌↔◌, Bool, false, not, length, set, take, refl, sym, ap, ◌∙◌, subst, arith}
use Rattle.std.proofs.lemmas.Grind.{take-set_at}
use Rattle.rope_search_io.specs.Utf8Judge.{Judging, Continues}
use Rattle.rope_search_io.proofs.Utf8Lemmas.{Continues-closed, width_reached}
use Rattle.rope_search_io.proofs.utf8_judge.Utf8Judge.push.Goals as goal

pub returns : goal.returns
returns c = λ more.
    let inside = c.self.inside in
    let part = take inside.len inside.part in
    let byte = c.args.byte in
    let text = c.is_text.result in
    let room : inside.len < length inside.part = omega arith in
    let grown : take (inside.len + 1) (set inside.part inside.len byte) ≡ part ++ byte ∷ [] = take-set_at inside.part inside.len (inside.len + 1) byte refl room in
    let width = width_reached inside.part inside.len byte room c.self.invariant.1 (omega arith) in
    let old : record { part = part; dead = false } ≡ c.args.self.now = ap (λ (d : Bool). record { part = part; dead = d }) (sym c.if-self.false) ∙ c.self.view_is in
    let judged = rw grown at c.is_text.ensures in
    subst (λ (j : Judging). Continues j (byte ∷ more) ↔ Continues (record { part = []; dead = not text }) more) old
    (Continues-closed part byte text more width judged)
