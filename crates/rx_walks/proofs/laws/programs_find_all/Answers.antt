use Rattle.rx_walks.specs.ProgramFinds.{haystack_of, first_by}
use Rattle.rx_walks.proofs.AllFindLaws.{readers_find_all}
use Rattle.rx_walks.proofs.WholeLaws.{reads_whole}
use Rattle.rx_walks.proofs.laws.programs_find_all.Goals as goal

pub returns : goal.returns
returns c = λ w put member step nodes holds s fresh q out members searches.
    let h = haystack_of holds s in
    readers_find_all put (first_by member) step nodes h s fresh q out members (reads_whole put member nodes h) searches
