use Rattle.std.proofs.Common.{◌≡◌, List, Option, Some, None, slice_get, sym, ap, ◌∙◌}
use Rattle.std.proofs.lemmas.Option.{slice_get-get_or}
use Rattle.rx_onepass.specs.declared.edges.Edge.{Edge}
use Rattle.rx_onepass.proofs.edges.Edges.at.Goals as goal

pub returns-in-Some-Some : goal.returns-in-Some-Some
returns-in-Some-Some c = λ p len are.
    let place = c.args.place in
    let list = c.deref.result.now in
    let look = c.in-Some-Some.ensures.lookup in
    let there : slice_get list place ≡ Some (Some c.in-Some-Some.edge) =
    slice_get-get_or list place None look.3.0 ∙ ap (λ (o : Option Edge). Some o) (sym (look.3.1 None) ∙ c.in-Some-Some.field-0-is) in
    are place c.in-Some-Some.edge (ap (λ (xs : List (Option Edge)). slice_get xs place) (sym c.self.view_is) ∙ ap (λ (xs : List (Option Edge)). slice_get xs place) (sym c.deref.ensures.value) ∙ there)
