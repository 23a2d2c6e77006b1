use Rattle.rx_walks.specs.ProgramFinds.{haystack_of}
use Rattle.rx_walks.proofs.SearchLaws.{search_finds}
use Rattle.rx_walks.proofs.FindLaws.{find_from_finds}
use Rattle.rx_walks.proofs.RefinementLaws.{finds_unrefined}
use Rattle.rx_walks.proofs.ProgramLaws.{bytes_refine}
use Rattle.rx_walks.proofs.WholeLaws.{reads_whole}
use Rattle.rx_walks.proofs.laws.programs_find.Goals as goal

pub returns : goal.returns
returns c = λ w put member step nodes holds s fresh q out members searches.
    find_from_finds (reads_whole put member nodes (haystack_of holds s)) (finds_unrefined q (bytes_refine put _ step nodes (haystack_of holds s) members) (search_finds searches))
