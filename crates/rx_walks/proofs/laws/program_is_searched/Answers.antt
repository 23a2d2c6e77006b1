use Rattle.std.proofs.Common.{sym, subst}
use Rattle.rx_walks.specs.ProgramFinds.{IfStarts, haystack_of, holds_in, first_by, machine_of}
use Rattle.rx_walks.specs.Finds.{IsFind}
use Rattle.rx_walks.specs.Programs.{put_note, fresh_notes}
use Rattle.rx_walks.proofs.SearchLaws.{search_finds}
use Rattle.rx_walks.proofs.FindLaws.{find_from_finds}
use Rattle.rx_walks.proofs.RefinementLaws.{finds_unrefined}
use Rattle.rx_walks.proofs.ProgramLaws.{bytes_refine}
use Rattle.rx_walks.proofs.WholeLaws.{reads_whole}
use Rattle.rx_walks.proofs.laws.program_is_searched.Goals as goal

pub returns : goal.returns
returns c = λ w member is_word p step members s q out starts searches.
    let h = haystack_of (holds_in is_word p.line_terminator s) s in
    let found : IsFind (machine_of member is_word p s) fresh_notes s q out =
    find_from_finds (reads_whole put_note member p.nodes h)
    (finds_unrefined q (bytes_refine put_note (first_by member) step p.nodes h members) (search_finds searches)) in
    subst (λ x. IfStarts x (λ q'. IsFind (machine_of member is_word p s) fresh_notes s q') out) (sym starts) found
