use Rattle.std.proofs.Common.{◌≡◌, ◌⊎◌, ap, subst, ◌∙◌, inl, inr, refl, Err, IsUtf8, OnErr}
use Rattle.rope_search_io.specs.declared.faults.Fault.{Fault}
use Rattle.rope_search.specs.MatchEdits.{ListsNoMatch}
use Rattle.rope_search.specs.Session.{chosen_buffer}
use Rattle.rope_search_c.specs.Calls.{status_of}
use Rattle.rope_search_c.specs.declared.counting.CountingSession.{CountingSession}
use Rattle.rope_search_c.proofs.counting.CountingSession.replace_match.Goals as goal

pub returns : goal.returns
returns c =
    let told = c.replace_match.ensures in
    let old = c.args.self.now in
    let kept : (fault : Fault) → c.replace_match.result ≡ Err fault → c.replace_match.new.self ≡ old.session =
    λ fault is. subst (λ r. OnErr r (c.replace_match.new.self ≡ old.session)) is told.err in
    let same : (fault : Fault) → c.replace_match.result ≡ Err fault → c.replace_match.new.tick ≡ old.lines
    → record { session = c.replace_match.new.self; lines = c.replace_match.new.tick; arriving = old.arriving } ≡ old =
    λ fault is unsearched.
    ap (λ s. record { session = s; lines = c.replace_match.new.tick; arriving = old.arriving }) (kept fault is)
    ∙ ap (λ t. record { session = old.session; lines = t; arriving = old.arriving }) unsearched in
    record {
      edits = λ utf8 from to inserted is. record {
        answer = c.replace_match.result;
        told = c.status_of.ensures;
        step = told.step utf8 from to inserted is;
        limit = told.limit;
        changed = told.changed from to inserted is;
        kept = told.kept from to inserted is;
        rows = λ cost costs. told.rows from to inserted cost is costs;
        grows = told.grows;
        wholes = told.wholes;
      };
      none = λ none. (
        c.status_of.ensures ∙ ap status_of (told.nothing none),
        same _ (told.nothing none) (told.unsearched (inl none)),
      );
      nowhere = λ none. (
        c.status_of.ensures ∙ ap status_of (told.range none),
        same _ (told.range none) (told.unsearched (inr (inl none))),
      );
      broken = λ some there broken. (
        c.status_of.ensures ∙ ap status_of (told.utf8 some there broken),
        same _ (told.utf8 some there broken) (told.unsearched (inr (inr broken))),
      );
      arriving = refl;
    }
