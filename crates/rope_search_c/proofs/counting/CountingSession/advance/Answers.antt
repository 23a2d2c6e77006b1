use Rattle.std.proofs.Common.{refl}
use Rattle.rope_search_c.proofs.counting.CountingSession.advance.Goals as goal

pub returns : goal.returns
returns c =
    let told = c.advance-answer.ensures in
    record {
      answer = c.advance-answer.result;
      told = c.status_of.ensures;
      done_is = c.is_done.ensures;
      advances = told.advances;
      state = told.state;
      nothing = told.nothing;
      fault = told.fault;
      limit = told.limit;
      err = told.err;
      unsearched = told.unsearched;
      rows = told.rows;
      each = told.each;
      arriving = refl;
    }
