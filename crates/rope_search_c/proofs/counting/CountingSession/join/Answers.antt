use Rattle.std.proofs.Common.{refl}
use Rattle.rope_search_c.proofs.counting.CountingSession.join.Goals as goal

pub returns : goal.returns
returns c =
    let told = c.join.ensures in
    record {
      answer = c.join.result;
      state = told.state;
      kept = told.kept;
      limit = told.limit;
      changed = told.changed;
      lines = refl;
      arriving = refl;
      nothing = told.nothing;
      memory = told.memory;
      fault = told.fault;
      err = told.err;
      told = c.status_of.ensures;
    }
