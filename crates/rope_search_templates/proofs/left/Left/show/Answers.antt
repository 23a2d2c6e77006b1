use Rattle.std.proofs.Common.{◌≡◌, [], ◌++◌, ap, sym, ◌∙◌, arith}
use Rattle.std.proofs.lemmas.Grind.{common_steps}
use Rattle.std.proofs.lemmas.List.{nil_from_length}
use Rattle.ropey.specs.Chunks.{text_of}
use Rattle.rope_search_changes.specs.Text.{bytes_of}
use Rattle.rope_search_templates.proofs.LeftLemmas.{shown-next, scalars-next}
use Rattle.rope_search_templates.proofs.left.Left.show.Goals as goal

pub invariant_of-self : goal.invariant_of-self
invariant_of-self c = (c.in-Some.ensures.steps.1, scalars-next _ _ c.in-Some.chunk.now c.in-Some.ensures.steps.0.0 c.self.invariant.1)

pub returns-in-Some-clause-bytes : goal.returns-in-Some-clause-bytes
returns-in-Some-clause-bytes c =
    let none : c.self.inside.rest.now ≡ [] = nil_from_length _ (grind (arith, common_steps)) in
    sym (shown-next _ _ c.in-Some.chunk.now c.in-Some.ensures.steps.1 c.in-Some.ensures.steps.0.0)
    ∙ sym (ap (λ bs. bs ++ bytes_of (text_of c.self.inside.chunks.ahead)) none) ∙ ap (λ s. s.bytes) c.self.view_is
