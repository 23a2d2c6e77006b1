use Rattle.rx_walks.proofs.TransposeLaws.{reads_on}
use Rattle.rx_walks.proofs.laws_back.transposed_reads_on.Goals as goal

pub returns : goal.returns
returns c = λ step back back' n n' more on same those t some past reads. reads_on step back back' n n' more on same those t some past reads
