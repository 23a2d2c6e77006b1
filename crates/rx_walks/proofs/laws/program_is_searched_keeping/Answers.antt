use Rattle.std.proofs.Common.{sym, subst}
use Rattle.rx_walks.specs.ProgramFinds.{IfStarts, haystack_of, holds_in, first_by, machine_of}
use Rattle.rx_walks.specs.Finds.{IsFind}
use Rattle.rx_walks.specs.Programs.{over_characters, fresh_notes}
use Rattle.rx_walks.proofs.SearchLaws.{search_finds}
use Rattle.rx_walks.proofs.FindLaws.{find_from_finds}
use Rattle.rx_walks.proofs.RefinementLaws.{finds_unrefined}
use Rattle.rx_walks.proofs.ProgramLaws.{bytes_refine}
use Rattle.rx_walks.proofs.WholeLaws.{reads_whole}
use Rattle.rx_walks.proofs.LikenessLaws.{find_noted_back, keeps_notes}
use Rattle.rx_walks.proofs.laws.program_is_searched_keeping.Goals as goal

pub returns : goal.returns
returns c = λ w keeping member is_word p step members s q out starts searches.
    let h = haystack_of (holds_in is_word p.line_terminator s) s in
    let found : IsFind (over_characters keeping.put (first_by member) p.nodes h) (λ i. keeping.kept (fresh_notes i)) s q out =
    find_from_finds (reads_whole keeping.put member p.nodes h)
    (finds_unrefined q (bytes_refine keeping.put (first_by member) step p.nodes h members) (search_finds searches)) in
    let own = find_noted_back {fresh = fresh_notes} (keeps_notes keeping (first_by member) p.nodes h) found in
    (own.0, own.1, subst (λ x. IfStarts x (λ q'. IsFind (machine_of member is_word p s) fresh_notes s q') own.0) (sym starts) own.2)
