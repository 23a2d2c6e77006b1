use Rattle.rx_walks.proofs.TransposeLaws.{reads_alike}
use Rattle.rx_walks.proofs.laws_back.transposed_reads_alike.Goals as goal

pub returns : goal.returns
returns c = λ step back n more those others same t reads. reads_alike step back n more those others same t reads
