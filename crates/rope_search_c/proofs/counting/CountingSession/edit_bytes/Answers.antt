use Rattle.std.proofs.Common.{◌≡◌, refl, ap, ◌∙◌}
use Rattle.rope_search_c.specs.Calls.{status_of}
use Rattle.rope_search_c.specs.declared.counting.CountingSession.{CountingSession}
use Rattle.rope_search_c.proofs.counting.CountingSession.edit_bytes.Goals as goal

pub returns : goal.returns
returns c =
    let told = c.edit_bytes.ensures in
    record {
      edits = λ start stop at. record {
        answer = c.edit_bytes.result;
        carries = record {
          step = told.step start stop at;
          limit = told.limit;
          searches = told.searches start stop at;
          changed = told.changed start stop at;
          kept = told.kept start stop at;
          few = tt;
          arriving = refl;
        };
        told = c.status_of.ensures;
      };
      nowhere = λ none. (
        c.status_of.ensures ∙ ap status_of (told.range none),
        ap (λ s. record { session = s; lines = c.edit_bytes.new.tick; arriving = c.args.self.now.arriving }) (told.same none)
            ∙ ap (λ t. record { session = c.args.self.now.session; lines = t; arriving = c.args.self.now.arriving }) (told.unsearched none),
      );
      arriving = refl;
    }
