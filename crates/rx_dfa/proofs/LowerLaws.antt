-- Laws of the crates below, in the form that the proofs here use.
use Rattle.std.proofs.Common.{sym, subst}
use Rattle.rx_walks.specs.ProgramFinds.{IfStarts, haystack_of, holds_in, first_by, machine_of}
use Rattle.rx_walks.specs.Finds.{IsFind}
use Rattle.rx_walks.specs.Programs.{over_characters, fresh_notes}
use Rattle.rx_walks.proofs.SearchLaws.{search_finds}
use Rattle.rx_walks.proofs.FindLaws.{find_from_finds}
use Rattle.rx_walks.proofs.RefinementLaws.{finds_unrefined}
use Rattle.rx_walks.proofs.ProgramLaws.{bytes_refine}
use Rattle.rx_walks.proofs.WholeLaws.{reads_whole}
use Rattle.rx_walks.proofs.LikenessLaws.{find_noted_back, keeps_notes}
use Rattle.rx_walks.proofs.SearchedLaws.{program_is_searched_back}
use Rattle.rx_steps.proofs.BackAnswerLaws.{SearchedBackLaw}
use Rattle.rx_steps.proofs.AnswerLaws.{KeepingLaw}
use Rattle.rx_steps.proofs.AlikeLaws.{steps_are_alike}
use Rattle.rx_steps.proofs.AlikeBackLaws.{steps_back_are_alike}
use Rattle.rx_dfa.proofs.StepLaws.{AlikeLaws}
use Rattle.rx_walks.specs.Laws.{FirstCharacterStands, LastCharacterStands}
use Rattle.rx_walks.proofs.CharacterLaws.{first_stands, stands_first}
use Rattle.rx_walks.proofs.LookLaws.{last_stands, stands_last}

pub first_character : FirstCharacterStands
first_character bytes k = ((λ e. first_stands bytes k e), (λ stands. stands_first bytes k stands))

pub last_character : LastCharacterStands
last_character back k = ((λ e. last_stands back k e), (λ stands. stands_last back k stands))

-- a search whose walks keep slots in place of notes finds what the program finds
pub keeping_law : KeepingLaw
keeping_law keeping member is_word p step members s q out starts searches =
    let h = haystack_of (holds_in is_word p.line_terminator s) s in
    let found : IsFind (over_characters keeping.put (first_by member) p.nodes h) (λ i. keeping.kept (fresh_notes i)) s q out =
    find_from_finds (reads_whole keeping.put member p.nodes h)
    (finds_unrefined q (bytes_refine keeping.put (first_by member) step p.nodes h members) (search_finds searches)) in
    let own = find_noted_back {fresh = fresh_notes} (keeps_notes keeping (first_by member) p.nodes h) found in
    (own.0, own.1, subst (λ x. IfStarts x (λ q'. IsFind (machine_of member is_word p s) fresh_notes s q') own.0) (sym starts) own.2)

-- steps are equal at positions that are alike, forward and backward
pub alike_laws : AlikeLaws
alike_laws = record { forward = steps_are_alike; back = steps_back_are_alike }

-- what a search finds in the reversed haystack is what the program finds backward
pub searched_back : SearchedBackLaw
searched_back = λ member is_word p step above members s fits keeps. program_is_searched_back member is_word p step above members s fits keeps
