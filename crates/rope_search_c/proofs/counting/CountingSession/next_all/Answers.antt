use Rattle.std.proofs.Common.{refl}
use Rattle.rope_search_c.proofs.counting.CountingSession.next_all.Goals as goal

pub returns : goal.returns
returns c = record {
  answer = c.next_all-answer.result;
  is = c.next_all-answer.ensures.answer;
  told = c.status_of.ensures;
  counted = c.count_of.ensures;
  session = c.next_all-answer.ensures.same;
  arriving = refl;
  searches = c.next_all-answer.ensures.searches;
}
