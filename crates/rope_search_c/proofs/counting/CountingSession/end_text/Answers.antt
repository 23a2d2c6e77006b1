use Rattle.std.proofs.Common.{◌≡◌, None, Some, refl, sym, ap, ◌∙◌}
use Rattle.rope_search_c.specs.declared.counting.CountingSession.{CountingSession}
use Rattle.rope_search_c.proofs.TextPartLemmas.{ends_none, ends_some}
use Rattle.rope_search_c.proofs.counting.CountingSession.end_text.Goals as goal

pub returns-in_default : goal.returns-in_default
returns-in_default c =
    let old = c.args.self.now in
    let none : old.arriving ≡ None = sym c.take.ensures.value ∙ c.in_default.is in
    ends_none old _ _ none refl (ap (λ a. record { session = old.session; lines = old.lines; arriving = a }) (c.take.ensures.after ∙ sym none))

pub returns : goal.returns
returns c =
    let old = c.args.self.now in
    let told = c.set_arrived.ensures in
    let was : old.arriving ≡ Some c.in-Some.text = sym c.take.ensures.value ∙ c.in-Some.is in
    ends_some old _ _ c.in-Some.text was (λ bytes arrives. record {
      answer = c.set_arrived.result;
      carries = record {
        step = told.step bytes arrives;
        limit = told.limit;
        searches = told.searches bytes arrives;
        changed = told.changed bytes arrives;
        kept = told.kept bytes arrives;
        few = tt;
        arriving = c.take.ensures.after;
      };
      told = c.status_of.ensures;
    })
