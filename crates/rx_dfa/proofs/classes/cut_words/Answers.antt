use Rattle.rx_dfa.proofs.ClassLaws.{word_more}
use Rattle.rx_dfa.proofs.classes.cut_words.Goals as goal

pub loop-byte-preserved : goal.loop-byte-preserved
loop-byte-preserved c = record {
  cut = word_more c.loop-byte.cuts c.cut_before.new.cuts c.loop-byte.byte c.do_words_meet.result c.cut_before.ensures.more c.cut_before.ensures.cut c.do_words_meet.ensures c.loop-byte.invariant.cut;
  more = λ k has. c.cut_before.ensures.more k (c.loop-byte.invariant.more k has);
}
