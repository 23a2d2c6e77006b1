use Rattle.std.proofs.Common.{refl}
use Rattle.rope_search_c.proofs.counting.CountingSession.replace_listed.Goals as goal

pub returns : goal.returns
returns c =
    let told = c.replace_listed-answer.ensures in
    record {
      answer = c.replace_listed-answer.result;
      told = c.status_of.ensures;
      counted = c.count_of.ensures;
      step = told.step;
      limit = told.limit;
      changed = told.changed;
      texts = told.texts;
      refused = told.err;
      unsearched = told.unsearched;
      rows = told.rows;
      grows = told.grows;
      wholes = told.wholes;
      arriving = refl;
    }
