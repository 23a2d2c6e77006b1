use Rattle.std.proofs.Common.{refl}
use Rattle.rope_search_c.proofs.counting.CountingSession.begin_pattern.Goals as goal

pub returns : goal.returns
returns c =
    let told = c.begin_pattern.ensures in
    record {
      answer = c.begin_pattern.result;
      told = c.status_of.ensures;
      begins = told.begins;
      accepted = told.accepted;
      refused = told.refused;
      state = told.state;
      limit = told.limit;
      err = told.err;
      lines = refl;
      arriving = refl;
    }
