use Rattle.rx_walks.proofs.TransposeLaws.{transposed_reads_last}
use Rattle.rx_walks.proofs.laws_back.transposed_reads_last.Goals as goal

pub returns : goal.returns
returns c = λ member step back n reads reads_back. transposed_reads_last member step reads n back reads_back
